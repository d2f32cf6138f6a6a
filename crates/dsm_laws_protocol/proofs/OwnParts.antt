-- What a processor has of its own is what its turns in the trace leave.
use Rattle.std.specs.Prelude.{◌≡◌, ℕ, Bool, true, false, ◌==◌, if◌then◌else◌, List, [], ◌∷◌, Option, Some, None}
use Rattle.std.proofs.Common.{refl, ap, ◌∙◌}
use Rattle.dsm_base.specs.declared.act.Act.{Act}
use Rattle.dsm_base.specs.declared.setup.Setup.{Setup}
use Rattle.dsm_base.specs.Threads.{Semantics}
use Rattle.dsm_base.specs.Plain.{Turn, labels_of}
use Rattle.dsm_msg.specs.declared.message.Body.{Body}
use Rattle.dsm_net.specs.declared.trace.Rec.{Rec}
use Rattle.dsm_net.specs.declared.trace.Group.{Group}
use Rattle.dsm_net.specs.Processor.{Processor}
use Rattle.dsm_net.specs.Turns.{OwnTurn, own_after}
use Rattle.dsm_net.specs.Messages.{keeper_of, with_carry}
use Rattle.dsm_net.specs.Effects.{counts, effect_of, effect_of_body, body_of, processor_after, effect_of_telling_to, effect_of_telling}
use Rattle.dsm_net.specs.Fits.{FitsUnits, run_of}
use Rattle.dsm_net.specs.Story.{turns_onto, history, own_turns_onto, own_turns_of, own_of, labels_of_turns}
use Rattle.dsm_laws_protocol.specs.OwnParts.{HasOwnParts}
use Rattle.dsm_laws_protocol.proofs.Runs.{each_has}

-- Bodies leave what is its own.

effect_own : {S : Type 0} (setup : Setup) (me : ℕ) (s : Processor S) (from turn : ℕ) (body : Body) → (effect_of setup me s from turn body).processor.own ≡ s.own
effect_own setup me s from turn (Body.Req lock mode version) = refl
effect_own setup me s from turn (Body.Release lock mode version lines) = refl
effect_own setup me s from turn _ = refl

pub body_own : {S : Type 0} (setup : Setup) (me : ℕ) (s : Processor S) (from turn : ℕ) (body : Body) → (effect_of_body setup me s from turn body).processor.own ≡ s.own
body_own setup me s from turn body = go (counts s from turn body) refl
  where
    go : (b : Bool) → counts s from turn body ≡ b → (effect_of_body setup me s from turn body).processor.own ≡ s.own
    go true e = rw e (effect_own setup me s from turn body)
    go false e = rw e refl

pub telling_own : {S : Type 0} (setup : Setup) (p : ℕ) (s : Processor S) (body : Option Body) → (effect_of_telling setup p s body).processor.own ≡ s.own
telling_own setup p s None = refl
telling_own setup p s (Some body) = to_keeper (keeper_of setup body)
  where
    to_keeper : (keeper : Option ℕ) → (effect_of_telling_to setup p s body keeper).processor.own ≡ s.own
    to_keeper None = refl
    to_keeper (Some keeper) = go (keeper == p) refl
      where
        go : (b : Bool) → (keeper == p) ≡ b → (effect_of_telling_to setup p s body (Some keeper)).processor.own ≡ s.own
        go true e = rw e (body_own setup p s p s.own.turns body)
        go false e = rw e refl

pub own_parts : {S : Type 0} (setup : Setup) (first : ℕ → S) (threads : Semantics S) (acts : List Act) (trace : List Group) (fits : FitsUnits setup first threads acts trace) →
    HasOwnParts setup first threads (run_of setup first threads fits.done).net trace
own_parts {S} setup first threads = each_has setup first threads IsOwn record {
  start = λ p. refl;
  turn = λ p s before turn h.
      telling_own setup p (processor_after setup threads s turn) (body_of setup s.own turn.label) ∙ ap (λ own. own_after setup threads own turn) h;
  message = λ p s before msg h.
      body_own setup p (with_carry s msg.from.0 msg.carry) msg.from.0 msg.carry.turn msg.body ∙ h;
}
  where
    IsOwn : ℕ → List OwnTurn → Processor S → Type 0
    IsOwn p turns s = s.own ≡ own_of setup threads (first p) turns

-- Histories.

onto_labels : (p : ℕ) (records : List Rec) (turns : List OwnTurn) (before : List Turn) → labels_of_turns turns ≡ labels_of p before →
    labels_of_turns (own_turns_onto p turns records) ≡ labels_of p (turns_onto before records)
onto_labels p [] turns before e = e
onto_labels p (Rec.Turn q turn label lines ∷ others) turns before e =
    onto_labels p others (if q.0 == p then record { label = label; lines = lines } ∷ turns else turns) (record { proc = q.0; label = label } ∷ before) (go (q.0 == p) refl)
  where
    go : (b : Bool) → (q.0 == p) ≡ b → labels_of_turns (if q.0 == p then record { label = label; lines = lines } ∷ turns else turns) ≡ labels_of p (record { proc = q.0; label = label } ∷ before)
    go true t = rw t (ap (λ ls. label ∷ ls) e)
    go false t = rw t e
onto_labels p (one ∷ others) turns before e = onto_labels p others turns before e

pub own_labels : (p : ℕ) (trace : List Group) → labels_of_turns (own_turns_of p trace) ≡ labels_of p (history trace)
own_labels p [] = refl
own_labels p (group ∷ before) = onto_labels p group.records (own_turns_of p before) (history before) (own_labels p before)
