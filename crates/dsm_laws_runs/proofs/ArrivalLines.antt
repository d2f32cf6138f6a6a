-- Where a line wasn't stored to in an epoch its cells are in the next one as they were in it, and a crossing may leave it out.
use Rattle.std.specs.Prelude.{◌≡◌, ◌≢◌, ℕ, ℤ, ◌+◌, ◌<◌, ◌≤◌, Bool, true, false, ◌&&◌, ◌==◌, List, [], ◌∷◌}
use Rattle.std.proofs.Common.{arith, refl, sym, ap, ◌∙◌, ⊎_elim}
use Rattle.std.proofs.lemmas.Bool.{cases_Bool, cases_eq, cases_lt}
use Rattle.dsm_base.specs.declared.names.Bar.{Bar}
use Rattle.dsm_base.specs.declared.names.Cell.{Cell}
use Rattle.dsm_base.specs.declared.label.Label.{Label}
use Rattle.dsm_base.specs.declared.setup.Setup.{Setup}
use Rattle.dsm_base.specs.Access.{piece_of}
use Rattle.dsm_base.specs.Threads.{Semantics}
use Rattle.dsm_base.specs.Plain.{Turn, IsPlainRun, IsPlainTurn, after_run, labels_of, memory_after}
use Rattle.dsm_laws_runs.specs.OwnPart.{arrived_of, crossed_of}
use Rattle.dsm_laws_runs.specs.Versions.{AllAskFirst}
use Rattle.dsm_laws_runs.specs.Barriers.{is_owned, is_of_other, owner_of, stored_by, until_arrival, memory_in}
use Rattle.dsm_laws_runs.specs.Copies.{OwnTurn, newest_copy, memories_of, Renews, HasCopies}
use Rattle.dsm_laws_runs.specs.Newer.{stores_own, is_stored_in, is_arrived, with_newer}
use Rattle.dsm_laws_runs.proofs.OwnPart.{own_arrived, own_crossed, labels_mine, labels_other}
use Rattle.dsm_laws_runs.proofs.Turns.{crosses_of}
use Rattle.dsm_laws_runs.proofs.Barriers.{other_owned, until_more, until_now, arrived_rises, settled_at}
use Rattle.dsm_laws_runs.proofs.Agreements.{agreed_copies}
use Rattle.dsm_laws_runs.proofs.Newer.{or_false, with_some, with_none, both_true, second_false, first_false}

-- labels with fewer arrivals are all up to the next
until_all : (bar k : ℕ) (labels : List Label) → arrived_of labels bar < k → until_arrival bar k labels ≡ labels
until_all bar k [] lt = refl
until_all bar k (label ∷ before) lt = until_now bar k label before (omega (arith, lt, arrived_rises label before bar))

own_kept : (line_at : ℕ → ℕ) (setup : Setup) (bar owner : ℕ) (memory : ℕ → ℤ) (label : Label) (cell : ℕ) → is_owned bar owner (piece_of setup.bindings cell) ≡ true →
    stores_own line_at setup bar owner (line_at cell) label ≡ false → memory_after memory label cell ≡ memory cell
own_kept line_at setup bar owner memory (Label.Store stored value) cell is none = ⊎_elim (λ e. absurd (at_cell stored.0 e none)) (λ ne. grind arith) (cases_eq stored.0 cell)
  where
    at_cell : (stored : ℕ) → stored ≡ cell → (is_owned bar owner (piece_of setup.bindings stored) && (line_at stored == line_at cell)) ≡ false → ⊥
    at_cell stored e none = same (is_owned bar owner (piece_of setup.bindings cell)) (line_at cell) is (rw e at none)
      where
        same : (b : Bool) (n : ℕ) → b ≡ true → (b && (n == n)) ≡ false → ⊥
        same b n is none = grind arith
own_kept line_at setup bar owner memory _ cell is none = refl

only_stores : (line_at : ℕ → ℕ) (setup : Setup) (bar owner line : ℕ) (label : Label) → ((cell : Cell) (value : ℤ) → label ≡ Label.Store cell value → ⊥) → stores_own line_at setup bar owner line label ≡ false
only_stores line_at setup bar owner line (Label.Store cell value) none = absurd (none cell value refl)
only_stores line_at setup bar owner line _ none = refl

module _ {S : Type 0} (line_at : ℕ → ℕ) (setup : Setup) (first : ℕ → S) (threads : Semantics S) (ask_first : AllAskFirst setup first threads) (bar owner epoch cell : ℕ)
    (is : is_owned bar owner (piece_of setup.bindings cell) ≡ true) where
  -- the owner's stores to the cell up to its next arrival are those up to the one for the epoch
  abbrev IsUnstored : List Label → Type 0
  IsUnstored labels =
      is_stored_in line_at setup bar owner epoch labels (line_at cell) ≡ false → stored_by (until_arrival bar (epoch + 1) labels) cell ≡ stored_by (until_arrival bar epoch labels) cell

  own_unstored : (label : Label) (before : List Label) → (stores_own line_at setup bar owner (line_at cell) label ≡ true → arrived_of before bar ≡ crossed_of before bar) → IsUnstored before → IsUnstored (label ∷ before)
  own_unstored label before in_step was none =
      ⊎_elim
      (λ lt. rw (until_now bar epoch label before lt, until_now bar (epoch + 1) label before (early lt)) refl)
      (λ ge. ⊎_elim
      (λ same. rw (until_more bar epoch label before ge, until_now bar (epoch + 1) label before (next same))
      (own_kept line_at setup bar owner (stored_by before) label cell is (not_now same)
      ∙ sym (ap (λ labels. stored_by labels cell) (until_all bar (epoch + 1) before (next same)))
      ∙ was both.1))
      (λ ne. rw (until_more bar epoch label before ge, until_more bar (epoch + 1) label before (over ge ne)) (was both.1))
      (cases_eq (arrived_of before bar) epoch))
      (cases_lt (arrived_of before bar) epoch)
    where
      both : ((stores_own line_at setup bar owner (line_at cell) label && (crossed_of before bar == epoch)) ≡ false) × (is_stored_in line_at setup bar owner epoch before (line_at cell) ≡ false)
      both = or_false (stores_own line_at setup bar owner (line_at cell) label && (crossed_of before bar == epoch)) (is_stored_in line_at setup bar owner epoch before (line_at cell)) none

      not_now : arrived_of before bar ≡ epoch → stores_own line_at setup bar owner (line_at cell) label ≡ false
      not_now same = at_crossed (stores_own line_at setup bar owner (line_at cell) label) (crossed_of before bar) (λ e. sym (in_step e) ∙ same) both.0
        where
          at_crossed : (b : Bool) (crossed : ℕ) → (b ≡ true → crossed ≡ epoch) → (b && (crossed == epoch)) ≡ false → b ≡ false
          at_crossed b crossed is none = grind (arith, cases_Bool b, is)

      early : arrived_of before bar < epoch → arrived_of before bar < epoch + 1
      early lt = omega arith

      next : arrived_of before bar ≡ epoch → arrived_of before bar < epoch + 1
      next same = omega arith

      over : epoch ≤ arrived_of before bar → arrived_of before bar ≢ epoch → epoch + 1 ≤ arrived_of before bar
      over ge ne = omega arith

  pub unstored : (run : List Turn) → IsPlainRun setup first threads run → IsUnstored (labels_of owner run)
  unstored [] is_run = λ none. refl
  unstored (turn ∷ before) is_run =
      ⊎_elim
      (λ mine. rw (labels_mine owner turn before mine) (own_unstored turn.label (labels_of owner before) (λ stores.
      rw (← own_arrived first threads before owner, ← own_crossed first threads before owner)
      (settled_at setup first threads ask_first bar before is_run.0 owner (rw mine at is_run.1.is_processor) turn.label (rw mine at is_run.1.is_label) (no_cross turn.label stores)))
      (unstored before is_run.0)))
      (λ ne. rw (labels_other owner turn before ne) (unstored before is_run.0))
      (cases_eq turn.proc owner)
    where
      no_cross : (label : Label) → stores_own line_at setup bar owner (line_at cell) label ≡ true → (other : Bar) (into : ℕ) → label ≡ Label.Cross other into → ⊥
      no_cross (Label.Cross crossed into) stores other now e = cc stores
      no_cross _ stores other now e = cc e

module _ {S : Type 0} (line_at : ℕ → ℕ) (setup : Setup) (first : ℕ → S) (threads : Semantics S) (run : List Turn) (p : ℕ) (turns : List OwnTurn) (has : HasCopies setup first threads run p turns) where
  pub arrivals_cross : (bar : Bar) (epoch : ℕ) → IsPlainTurn setup threads (after_run first threads run) (record { proc = p; label = Label.Cross bar (epoch + 1) }) → (now : ℕ → ℤ) →
      ((cell : ℕ) → now cell ≡ with_newer (is_arrived line_at setup run p bar.0 epoch) (memory_in setup (λ q. labels_of q run) bar.0 (epoch + 1)) (newest_copy turns) cell) →
      Renews setup (memories_of setup first threads run) p (Label.Cross bar (epoch + 1)) (newest_copy turns) now
  arrivals_cross bar epoch turn now is = record {
    inside = λ cell other. is cell ∙ ⊎_elim
        (λ stored. with_some (is_arrived line_at setup run p bar.0 epoch cell) _ (newest_copy turns cell) (both_true (is_of_other bar.0 p (piece_of setup.bindings cell)) _ other stored))
        (λ none. with_none (is_arrived line_at setup run p bar.0 epoch cell) _ (newest_copy turns cell) (second_false (is_of_other bar.0 p (piece_of setup.bindings cell)) _ none)
        ∙ (agreed_copies setup first threads run p turns has).at_barriers.others bar.0 cell other
        ∙ ap (λ k. memory_in setup (λ q. labels_of q run) bar.0 k cell) crossed
        ∙ sym (unstored line_at setup first threads has.ask_first bar.0 (owner_of (piece_of setup.bindings cell)) epoch cell (other_owned bar.0 p (piece_of setup.bindings cell) other).0 run has.is_run none))
        (cases_Bool (is_stored_in line_at setup bar.0 (owner_of (piece_of setup.bindings cell)) epoch (labels_of (owner_of (piece_of setup.bindings cell)) run) (line_at cell)));
    outside = λ cell mine. is cell ∙ with_none (is_arrived line_at setup run p bar.0 epoch cell) _ (newest_copy turns cell) (first_false (is_of_other bar.0 p (piece_of setup.bindings cell)) _ mine);
  }
    where
      less : (n m : ℕ) → n + 1 ≡ m + 1 → m ≡ n
      less n m e = omega arith

      crossed : (after_run first threads run).crossed p bar.0 ≡ epoch
      crossed = less epoch ((after_run first threads run).crossed p bar.0) (crosses_of setup (after_run first threads run) p _ _ bar (epoch + 1) turn.is_label).is_epoch
