-- What lines alone make of a copy is as it should be.
use Rattle.std.specs.Prelude.{◌≡◌, ◌≢◌, ℕ, ℤ, ◌+◌, ◌-◌, ◌<◌, nat_lt, Bool, true, false, ◌==◌, List, [], ◌∷◌, Option, Some, None}
use Rattle.std.proofs.Common.{arith, refl, sym, subst, ◌∙◌, ⊎_elim}
use Rattle.std.proofs.lemmas.Bool.{cases_eq}
use Rattle.dsm_base.specs.declared.names.Cell.{Cell}
use Rattle.dsm_base.specs.declared.label.Label.{Label}
use Rattle.dsm_base.specs.declared.setup.Object.{Object}
use Rattle.dsm_base.specs.declared.setup.Piece.{Piece}
use Rattle.dsm_base.specs.declared.setup.Setup.{Setup}
use Rattle.dsm_base.specs.Access.{piece_of}
use Rattle.dsm_base.specs.Agrees.{AgreesWith, is_between_at, is_between_of, is_between}
use Rattle.dsm_base.specs.Threads.{Semantics}
use Rattle.dsm_base.specs.Plain.{Turn, IsPlainRun, IsPlainTurn, after_run, labels_of, plain_turn}
use Rattle.dsm_laws_runs.specs.Versions.{AllAskFirst}
use Rattle.dsm_laws_runs.specs.Copies.{OwnTurn, newest_copy, memories_of, Renews, HasCopies}
use Rattle.dsm_laws_runs.proofs.Turns.{crosses_of, loads_of}
use Rattle.dsm_laws_runs.proofs.Barriers.{settled_at}
use Rattle.dsm_laws_runs.proofs.Agreements.{agrees_with}
use Rattle.dsm_laws_runs.proofs.CopiesKept.{copies_other, copies_own}
use Rattle.dsm_laws_runs.proofs.Newer.{newer_take}
use Rattle.dsm_laws_runs.proofs.ArrivalLines.{arrivals_cross}
use Rattle.dsm_laws_epochs.specs.ByLines.{copy_with_lines, turns_by_lines, copy_by_lines}

module _ {S : Type 0} (line_at : ℕ → ℕ) (setup : Setup) (first : ℕ → S) (threads : Semantics S) where
  -- the turns with one more in the run
  turns_mine : (p : ℕ) (turn : Turn) (before : List Turn) → turn.proc ≡ p →
      turns_by_lines line_at setup first threads p (turn ∷ before)
      ≡ record { label = turn.label; copy = copy_with_lines line_at setup first threads before p turn.label (newest_copy (turns_by_lines line_at setup first threads p before)) }
      ∷ turns_by_lines line_at setup first threads p before
  turns_mine p turn before mine = rw (true_at (turn.proc == p) (grind arith)) refl
    where
      true_at : (b : Bool) → b ≡ true → b ≡ true
      true_at b e = e

  turns_other : (p : ℕ) (turn : Turn) (before : List Turn) → turn.proc ≢ p →
      turns_by_lines line_at setup first threads p (turn ∷ before) ≡ turns_by_lines line_at setup first threads p before
  turns_other p turn before ne = rw (false_at (turn.proc == p) (grind arith)) refl
    where
      false_at : (b : Bool) → b ≡ false → b ≡ false
      false_at b e = e

  -- an own turn makes of the copy what it should
  renews : (run : List Turn) (p : ℕ) (turns : List OwnTurn) → HasCopies setup first threads run p turns → (label : Label) →
      IsPlainTurn setup threads (after_run first threads run) (record { proc = p; label = label }) →
      Renews setup (memories_of setup first threads run) p label (newest_copy turns) (copy_with_lines line_at setup first threads run p label (newest_copy turns))
  renews run p turns has (Label.Take lock mode version) turn =
      newer_take line_at setup first threads run p turns has lock mode version turn
      (copy_with_lines line_at setup first threads run p (Label.Take lock mode version) (newest_copy turns)) (λ cell. refl)
  renews run p turns has (Label.Cross bar epoch) turn =
      crossed (epoch - 1) epoch (back epoch ((after_run first threads run).crossed p bar.0) (crosses_of setup (after_run first threads run) p _ _ bar epoch turn.is_label).is_epoch) turn refl
    where
      back : (epoch crossed : ℕ) → epoch ≡ crossed + 1 → epoch ≡ (epoch - 1) + 1
      back epoch crossed e = omega arith

      crossed : (ended next : ℕ) → next ≡ ended + 1 → IsPlainTurn setup threads (after_run first threads run) (record { proc = p; label = Label.Cross bar next }) → next - 1 ≡ ended →
          Renews setup (memories_of setup first threads run) p (Label.Cross bar next) (newest_copy turns) (copy_with_lines line_at setup first threads run p (Label.Cross bar next) (newest_copy turns))
      crossed ended next e turn less =
          subst
          (λ into. IsPlainTurn setup threads (after_run first threads run) (record { proc = p; label = Label.Cross bar into }) → into - 1 ≡ ended →
          Renews setup (memories_of setup first threads run) p (Label.Cross bar into) (newest_copy turns) (copy_with_lines line_at setup first threads run p (Label.Cross bar into) (newest_copy turns)))
          (sym e)
          (λ turn less. arrivals_cross line_at setup first threads run p turns has bar ended turn
          (copy_with_lines line_at setup first threads run p (Label.Cross bar (ended + 1)) (newest_copy turns)) (λ cell. rw less refl))
          turn less
  renews run p turns has _ turn = λ cell. refl

  module _ (ask_first : AllAskFirst setup first threads) (p : ℕ) (lt : p < setup.procs) where
    pub has_copies : (run : List Turn) → IsPlainRun setup first threads run → HasCopies setup first threads run p (turns_by_lines line_at setup first threads p run)
    has_copies [] is_run = record { ask_first = ask_first; is_run = is_run; is_processor = lt; same_labels = refl; adequate = tt }
    has_copies (turn ∷ before) is_run =
        ⊎_elim
        (λ mine. subst (HasCopies setup first threads (turn ∷ before) p) (sym (turns_mine p turn before mine))
        (copies_own setup first threads p turn before (turns_by_lines line_at setup first threads p before) (has_copies before is_run.0) is_run.1 mine
        (copy_with_lines line_at setup first threads before p turn.label (newest_copy (turns_by_lines line_at setup first threads p before)))
        (renews before p (turns_by_lines line_at setup first threads p before) (has_copies before is_run.0) turn.label
        (record { is_processor = lt; is_label = subst (λ r. plain_turn setup threads (after_run first threads before) r ≡ Some turn.label) mine is_run.1.is_label }))))
        (λ ne. subst (HasCopies setup first threads (turn ∷ before) p) (sym (turns_other p turn before ne))
        (copies_other setup first threads p turn before (turns_by_lines line_at setup first threads p before) (has_copies before is_run.0) is_run.1 ne))
        (cases_eq turn.proc p)

    pub agrees_by_lines : (run : List Turn) → IsPlainRun setup first threads run → AgreesWith setup first threads run p (labels_of p run) (copy_by_lines line_at setup first threads p run)
    agrees_by_lines run is_run =
        let has = has_copies run is_run in
        subst (λ labels. AgreesWith setup first threads run p labels (copy_by_lines line_at setup first threads p run)) (sym has.same_labels)
        (agrees_with setup first threads run p (turns_by_lines line_at setup first threads p run) has)

    -- who loads has crossed each barrier that it has come to
    apart_at : (run : List Turn) → IsPlainRun setup first threads run → (cell : Cell) (value : ℤ) → plain_turn setup threads (after_run first threads run) p ≡ Some (Label.Load cell value) →
        is_between setup.bindings (after_run first threads run) p cell.0 ≡ false
    apart_at run is_run cell value turn = at_piece (piece_of setup.bindings cell.0)
      where
        at_object : (object : Object) → is_between_at ((after_run first threads run).arrived p) ((after_run first threads run).crossed p) object ≡ false
        at_object (Object.Lock lock) = refl
        at_object (Object.Bar bar) =
            same ((after_run first threads run).arrived p bar.0) ((after_run first threads run).crossed p bar.0)
            (settled_at setup first threads ask_first bar.0 run is_run p lt (Label.Load cell value) turn (λ other epoch e. cc e))
          where
            same : (arrived crossed : ℕ) → arrived ≡ crossed → nat_lt crossed arrived ≡ false
            same arrived crossed e = grind arith

        at_piece : (piece : Option Piece) → is_between_of ((after_run first threads run).arrived p) ((after_run first threads run).crossed p) piece ≡ false
        at_piece None = refl
        at_piece (Some piece) = at_object piece.object

    pub loads_by_lines : (run : List Turn) → IsPlainRun setup first threads run → (cell : Cell) (value : ℤ) →
        plain_turn setup threads (after_run first threads run) p ≡ Some (Label.Load cell value) → copy_by_lines line_at setup first threads p run cell.0 ≡ value
    loads_by_lines run is_run cell value turn =
        let loads = loads_of setup (after_run first threads run) p _ _ cell value turn in
        (agrees_by_lines run is_run).same_copy cell.0 loads.0 (apart_at run is_run cell value turn) ∙ sym loads.1
