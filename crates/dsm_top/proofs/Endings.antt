-- All processors are up, and each thread came to be over as its turns tell.
use Rattle.std.specs.Prelude.{◌≡◌, ℕ, List, [], ◌∷◌, Option, Some, None}
use Rattle.std.proofs.Common.{refl, sym, ap, ◌∙◌, inl, inr}
use Rattle.std.proofs.lemmas.Bool.Decides.{eqb_tells}
use Rattle.dsm_base.specs.declared.act.Act.{Act}
use Rattle.dsm_base.specs.declared.label.Ending.{Ending}
use Rattle.dsm_base.specs.declared.label.Label.{Label}
use Rattle.dsm_base.specs.declared.setup.Setup.{Setup}
use Rattle.dsm_base.specs.Endings.{ending_after, endings_of}
use Rattle.dsm_base.specs.Family.{update_at}
use Rattle.dsm_base.specs.Plain.{Turn, labels_of}
use Rattle.dsm_base.specs.Threads.{Semantics}
use Rattle.dsm_net.specs.declared.trace.Group.{Group}
use Rattle.dsm_net.specs.declared.trace.Letter.{Letter}
use Rattle.dsm_net.specs.declared.trace.Rec.{Rec}
use Rattle.dsm_net.specs.Effects.{Effect, effect_of_message, effect_of_turn}
use Rattle.dsm_net.specs.Fits.{Done, FitsUnits, run_of}
use Rattle.dsm_net.specs.Net.{Net}
use Rattle.dsm_net.specs.Processor.{Processor}
use Rattle.dsm_net.specs.Story.{history, own_turns_of, own_of, labels_of_turns}
use Rattle.dsm_net.specs.Turns.{OwnTurn, own_turn}
use Rattle.dsm_net.specs.Units.{Outcome, Made, with_processor, with_effect, step_with, step_of, delivery_of, unit_of}
use Rattle.dsm_laws_protocol.proofs.Families.{turned_true, turned_false}
use Rattle.dsm_laws_protocol.proofs.Kept.{effect_kept}
use Rattle.dsm_network.specs.World.{ending_at}

-- a processor is up
record IsUp {S : Type 0} (state : Option (Processor S)) : Type 0 where
  processor : Processor S
  is : state ≡ Some processor

abbrev AllUp : {S : Type 0} → Net S → Type 0
AllUp net = (p : ℕ) → IsUp (net.processors p)

changed_up : {S : Type 0} (net : Net S) (p : ℕ) (s : Processor S) → AllUp net → AllUp (with_processor record { net = net; records = [] } p s).net
changed_up net p s up q =
    elim (eqb_tells q p) [ inl same ↦ rw same.0 record { processor = s; is = refl } | inr other ↦ rw other.0 (up q) ]

effect_up : {S : Type 0} (made : Made S) (from p : ℕ) (effect : Effect S) → AllUp made.net → AllUp (with_effect made from p effect).net
effect_up made from p effect up q =
    let kept = effect_kept made from p effect in
    let here = changed_up made.net p effect.processor up q in
    record { processor = here.processor; is = ap (λ f. f q) kept.processors ∙ here.is }

module _ {S : Type 0} (setup : Setup) (first : ℕ → S) (threads : Semantics S) where
  step_up : (net : Net S) (p : ℕ) (state : Option (Processor S)) → AllUp net → AllUp (step_of setup threads net p state).net
  step_up net p None up = up
  step_up net p (Some s) up = by (own_turn setup threads p s)
    where
      by : (turn : Option OwnTurn) → AllUp (step_with setup threads net p s turn).net
      by None = up
      by (Some turn) = effect_up record { net = net; records = Rec.Turn _ _ turn.label turn.lines ∷ [] } p p (effect_of_turn setup threads p s turn) up

  delivery_up : (net : Net S) (from to : ℕ) (letters : List Letter) (receiver : Option (Processor S)) → AllUp net → AllUp (delivery_of setup net from to letters receiver).net
  delivery_up net from to [] receiver up = up
  delivery_up net from to (letter ∷ others) None up = up
  delivery_up net from to (letter ∷ others) (Some s) up =
      effect_up record { net = record net { channels = update_at net.channels from to others }; records = Rec.Delivered letter.number ∷ [] } from to (effect_of_message setup to s letter.msg) up

  unit_up : (net : Net S) (act : Act) (outcome : Outcome) → AllUp net → AllUp (unit_of setup threads net act outcome).net
  unit_up net (Act.Step p) outcome up = step_up net p.0 (net.processors p.0) up
  unit_up net (Act.Deliver p q) outcome up = delivery_up net p.0 q.0 (net.channels p.0 q.0) (net.processors q.0) up
  unit_up net (Act.Ckpt p) outcome up = up
  unit_up net (Act.Block p) outcome up = up
  unit_up net (Act.Crash p) outcome up = up
  unit_up net (Act.Torn p kept) outcome up = up
  unit_up net (Act.Restart p) outcome up = up

  run_up : (done : List Done) → AllUp (run_of setup first threads done).net
  run_up [] p = record { processor = _; is = refl }
  run_up (one ∷ before) p = unit_up (run_of setup first threads before).net one.act one.outcome (run_up before) p

  -- the labels of a processor's own turns tell how its thread came to be over
  abbrev over_by : List Label → Option Ending
  over_by [] = None
  over_by (label ∷ labels) = ending_after (over_by labels) label

  own_over : (p : ℕ) (turns : List OwnTurn) → (own_of setup threads (first p) turns).ending ≡ over_by (labels_of_turns turns)
  own_over p [] = refl
  own_over p (turn ∷ turns) = ap (λ ending. ending_after ending turn.label) (own_over p turns)

  run_over : (run : List Turn) (p : ℕ) → endings_of run p ≡ over_by (labels_of p run)
  run_over [] p = refl
  run_over (turn ∷ run) p =
      elim (eqb_tells turn.proc p) [
        | inl same ↦ rw (same.0, turned_true turn.proc p same.0) (ap (λ ending. ending_after ending turn.label) (rw same.1 (run_over run p)))
        | inr other ↦ rw (other.0, turned_false p turn.proc other.0) (run_over run p)
      ]

  pub endings_are : (acts : List Act) (trace : List Group) (fits : FitsUnits setup first threads acts trace)
      → ((p : ℕ) (s : Processor S) → (run_of setup first threads fits.done).net.processors p ≡ Some s → s.own ≡ own_of setup threads (first p) (own_turns_of p trace))
      → ((p : ℕ) → labels_of_turns (own_turns_of p trace) ≡ labels_of p (history trace))
      → (p : ℕ) → ending_at ((run_of setup first threads fits.done).net.processors p) ≡ endings_of (history trace) p
  endings_are acts trace fits own labels p =
      let up = run_up fits.done p in
      ap ending_at up.is
      ∙ (ap (λ own. own.ending) (own p up.processor up.is)
      ∙ (own_over p (own_turns_of p trace) ∙ (ap over_by (labels p) ∙ sym (run_over (history trace) p))))
