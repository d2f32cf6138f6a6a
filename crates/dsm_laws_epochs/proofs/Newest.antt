-- A processor that has come to a barrier and not crossed it has come there in its newest turn.
use Rattle.std.specs.Prelude.{◌≡◌, ℕ, ◌+◌, Bool, true, false, if◌then◌else◌, List, [], ◌∷◌}
use Rattle.std.proofs.Common.{arith, refl, sym, subst, ⊎_elim}
use Rattle.std.proofs.lemmas.Bool.{cases_eq}
use Rattle.dsm_base.specs.declared.label.Label.{Label}
use Rattle.dsm_base.specs.declared.setup.Setup.{Setup}
use Rattle.dsm_base.specs.Threads.{Semantics}
use Rattle.dsm_base.specs.Plain.{PlainState, Turn, IsPlainRun, after_run, plain_after, labels_of, arrived_after, crossed_after}
use Rattle.dsm_base.proofs.Families.{update_same}
use Rattle.dsm_laws_runs.specs.Versions.{AllAskFirst}
use Rattle.dsm_laws_runs.proofs.OwnPart.{labels_mine, labels_other, other_arrived, other_crossed}
use Rattle.dsm_laws_runs.proofs.Epochs.{goes_over, crosses_as_wanted, crossed_step, in_step}
use Rattle.dsm_laws_epochs.specs.Arrivals.{is_arrival, comes_last}

arrived_step : (arrived : ℕ → ℕ) (label : Label) (bar : ℕ) → arrived_after arrived label bar ≡ (if is_arrival bar label then arrived bar + 1 else arrived bar)
arrived_step arrived label bar = grind arith

comes_or_goes : (bar : ℕ) (label : Label) → is_arrival bar label ≡ true → goes_over bar label ≡ false
comes_or_goes bar label e = grind arith

-- the numbers of one processor at one barrier after its turn
own_numbers : (come go wants : Bool) (arrived crossed : ℕ) → wants ≡ go → arrived ≡ (if wants then crossed + 1 else crossed) → (come ≡ true → go ≡ false) →
    (if come then arrived + 1 else arrived) ≡ (if come then (if go then crossed + 1 else crossed) + 1 else (if go then crossed + 1 else crossed))
own_numbers come go wants arrived crossed a was one = grind arith

module _ {S : Type 0} (setup : Setup) (first : ℕ → S) (threads : Semantics S) (ask_first : AllAskFirst setup first threads) where
  abbrev ComesLast : ℕ → ℕ → List Label → PlainState S → Type 0
  ComesLast p bar labels s = s.arrived p bar ≡ (if comes_last bar labels then s.crossed p bar + 1 else s.crossed p bar)

  own_newest : (turn : Turn) (before : List Turn) → IsPlainRun setup first threads (turn ∷ before) → (bar : ℕ) →
      ComesLast turn.proc bar (turn.label ∷ labels_of turn.proc before) (plain_after threads (after_run first threads before) turn.proc turn.label)
  own_newest turn before is_run bar =
      let s : PlainState S = after_run first threads before in
      rw (
        update_same s.arrived turn.proc (arrived_after (s.arrived turn.proc) turn.label),
        update_same s.crossed turn.proc (crossed_after (s.crossed turn.proc) turn.label),
        arrived_step (s.arrived turn.proc) turn.label bar,
        crossed_step setup s turn.proc _ _ turn.label is_run.1.is_label bar,
      )
      (own_numbers (is_arrival bar turn.label) (goes_over bar turn.label) _ (s.arrived turn.proc bar) (s.crossed turn.proc bar)
      (crosses_as_wanted setup s turn.proc _ _ turn.label is_run.1.is_label bar) (in_step setup first threads ask_first before is_run.0 turn.proc is_run.1.is_processor bar) (comes_or_goes bar turn.label))

  pub newest_comes : (run : List Turn) → IsPlainRun setup first threads run → (p bar : ℕ) → ComesLast p bar (labels_of p run) (after_run first threads run)
  newest_comes [] is_run p bar = refl
  newest_comes (turn ∷ before) is_run p bar =
      ⊎_elim
      (λ mine. subst (λ r. ComesLast r bar (labels_of r (turn ∷ before)) (after_run first threads (turn ∷ before))) mine
      (rw (labels_mine turn.proc turn before refl) (own_newest turn before is_run bar)))
      (λ ne. rw (
        labels_other p turn before ne,
        other_arrived threads (after_run first threads before) p turn.proc turn.label (λ e. ne (sym e)),
        other_crossed threads (after_run first threads before) p turn.proc turn.label (λ e. ne (sym e)),
      ) (newest_comes before is_run.0 p bar))
      (cases_eq turn.proc p)
