-- What turns and messages keep of a processor holds of each processor after every run.
use Rattle.std.specs.Prelude.{◌≡◌, ℕ, ◌+◌, true, false, ◌==◌, List, [], ◌∷◌, length, Option, Some, None}
use Rattle.std.proofs.Common.{refl, sym, ap, ◌∙◌, subst, inl, inr}
use Rattle.std.proofs.lemmas.Bool.Decides.{eqb_tells}
use Rattle.dsm_base.specs.declared.act.Act.{Act}
use Rattle.dsm_base.specs.declared.setup.Setup.{Setup}
use Rattle.dsm_base.specs.Family.{update, update_at}
use Rattle.dsm_base.specs.Threads.{Semantics}
use Rattle.dsm_msg.specs.declared.message.Msg.{Msg}
use Rattle.dsm_net.specs.declared.trace.Letter.{Letter}
use Rattle.dsm_net.specs.declared.trace.Rec.{Rec}
use Rattle.dsm_net.specs.declared.trace.Group.{Group}
use Rattle.dsm_net.specs.Processor.{Processor, start_processor}
use Rattle.dsm_net.specs.Turns.{OwnTurn, own_turn}
use Rattle.dsm_net.specs.Effects.{effect_of_message, effect_of_turn}
use Rattle.dsm_net.specs.Net.{Net}
use Rattle.dsm_net.specs.Units.{Outcome, Made, with_processor, with_effect, step_with, step_of, delivery_of, unit_of}
use Rattle.dsm_net.specs.Fits.{Done, FitsUnits, with_unit, run_of}
use Rattle.dsm_net.specs.Story.{own_turns_onto, own_turns_of}
use Rattle.dsm_laws_protocol.proofs.Families.{turned_true, turned_false}
use Rattle.dsm_laws_protocol.proofs.Kept.{IsKept, effect_kept}

same_some : {A : Type 0} (a b : A) → Some a ≡ Some b → a ≡ b
same_some a b e = cc

module _ {S : Type 0} (setup : Setup) (first : ℕ → S) (threads : Semantics S) (P : ℕ → List OwnTurn → Processor S → Type 0) where
  -- it holds before the first turn, and turns and messages keep it
  pub record AreKept : Type 0 where
    pub start : (p : ℕ) → P p [] (start_processor (first p))
    pub turn : (p : ℕ) (s : Processor S) (before : List OwnTurn) (turn : OwnTurn) → P p before s → P p (turn ∷ before) (effect_of_turn setup threads p s turn).processor
    pub message : (p : ℕ) (s : Processor S) (before : List OwnTurn) (msg : Msg) → P p before s → P p before (effect_of_message setup p s msg).processor

  module _ (keep : AreKept) (p : ℕ) where
    -- it holds of p where p is up and has made these turns
    abbrev Has : Net S → List OwnTurn → Type 0
    Has net turns = (s : Processor S) → net.processors p ≡ Some s → P p turns s

    has_kept : (made now : Made S) (before : List OwnTurn) → IsKept made now → Has made.net (own_turns_onto p before made.records) → Has now.net (own_turns_onto p before now.records)
    has_kept made now before kept h s e = subst (λ turns. P p turns s) (sym (kept.turns p before)) (h s (ap (λ f. f p) (sym kept.processors) ∙ e))

    has_changed : (net : Net S) (before after : List OwnTurn) (q : ℕ) (now : Processor S) → ((q == p) ≡ true → (q ≡ p) → P p after now) → ((q == p) ≡ false → after ≡ before) → Has net before →
        Has (record net { processors = update net.processors q (Some now) }) after
    has_changed net before after q now mine same h s e =
        elim (eqb_tells q p) [
          | inl (t, i) ↦ subst (P p after) (same_some now s (rw (turned_true q p t) at e)) (mine t i)
          | inr (t, i) ↦ subst (λ turns. P p turns s) (sym (same t)) (h s (rw (turned_false p q t) at e))
        ]

    turn_has : (net : Net S) (before : List OwnTurn) (q : ℕ) (s : Processor S) (turn : Option OwnTurn) → net.processors q ≡ Some s → Has net before →
        Has (step_with setup threads net q s turn).net (own_turns_onto p before (step_with setup threads net q s turn).records)
    turn_has net before q s None is_q h = h
    turn_has net before q s (Some turn) is_q h =
        let made : Made S = record { net = net; records = Rec.Turn record { 0 = q } (s.own.turns + 1) turn.label turn.lines ∷ [] } in
        let effect = effect_of_turn setup threads q s turn in
        has_kept (with_processor made q effect.processor) (with_effect made q q effect) before (effect_kept made q q effect)
        (has_changed net before (own_turns_onto p before made.records) q effect.processor
        (λ t i. rw t (subst (λ r. P p (turn ∷ before) (effect_of_turn setup threads r s turn).processor) (sym i) (keep.turn p s before turn (h s (ap net.processors (sym i) ∙ is_q)))))
        (λ t. rw t refl) h)

    delivery_has : (net : Net S) (before : List OwnTurn) (from q : ℕ) (letters : List Letter) (receiver : Option (Processor S)) → net.processors q ≡ receiver → Has net before →
        Has (delivery_of setup net from q letters receiver).net (own_turns_onto p before (delivery_of setup net from q letters receiver).records)
    delivery_has net before from q [] receiver is_q h = h
    delivery_has net before from q (letter ∷ others) None is_q h = h
    delivery_has net before from q (letter ∷ others) (Some s) is_q h =
        let without : Net S = record net { channels = update_at net.channels from q others } in
        let made : Made S = record { net = without; records = Rec.Delivered letter.number ∷ [] } in
        let effect = effect_of_message setup q s letter.msg in
        has_kept (with_processor made q effect.processor) (with_effect made from q effect) before (effect_kept made from q effect)
        (has_changed without before before q effect.processor
        (λ t i. subst (λ r. P p before (effect_of_message setup r s letter.msg).processor) (sym i) (keep.message p s before letter.msg (h s (ap net.processors (sym i) ∙ is_q))))
        (λ t. refl) h)

    step_has : (net : Net S) (before : List OwnTurn) (q : ℕ) (receiver : Option (Processor S)) → net.processors q ≡ receiver → Has net before →
        Has (step_of setup threads net q receiver).net (own_turns_onto p before (step_of setup threads net q receiver).records)
    step_has net before q None is_q h = h
    step_has net before q (Some s) is_q h = turn_has net before q s (own_turn setup threads q s) is_q h

    unit_has : (net : Net S) (before : List OwnTurn) (act : Act) (outcome : Outcome) → Has net before →
        Has (unit_of setup threads net act outcome).net (own_turns_onto p before (unit_of setup threads net act outcome).records)
    unit_has net before (Act.Step q) outcome h = step_has net before q.0 (net.processors q.0) refl h
    unit_has net before (Act.Deliver from q) outcome h =
        delivery_has net before from.0 q.0 (net.channels from.0 q.0) (net.processors q.0) refl h
    unit_has net before _ outcome h = h

    turns_of_unit : (unit : ℕ) (records : List Rec) (before : List Group) → own_turns_of p (with_unit unit records before) ≡ own_turns_onto p (own_turns_of p before) records
    turns_of_unit unit [] before = refl
    turns_of_unit unit (one ∷ records) before = refl

    run_has : (past : List Done) → Has (run_of setup first threads past).net (own_turns_of p (run_of setup first threads past).groups)
    run_has [] s e = subst (P p []) (same_some (start_processor (first p)) s e) (keep.start p)
    run_has (done ∷ past) s e =
        let ran = run_of setup first threads past in
        subst (λ turns. P p turns s) (sym (turns_of_unit (length past + 1) (unit_of setup threads ran.net done.act done.outcome).records ran.groups))
        (unit_has ran.net (own_turns_of p ran.groups) done.act done.outcome (run_has past) s e)

  -- of each processor that is up, with its turns in the trace
  pub each_has : AreKept → (acts : List Act) (trace : List Group) (fits : FitsUnits setup first threads acts trace) (p : ℕ) (s : Processor S) →
      (run_of setup first threads fits.done).net.processors p ≡ Some s → P p (own_turns_of p trace) s
  each_has keep acts trace fits p s e = subst (λ groups. P p (own_turns_of p groups) s) fits.is_trace (run_has keep p fits.done s e)
