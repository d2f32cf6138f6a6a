-- What a processor has of its own is told by its labels, and how many versions were made by those of all.
use Rattle.std.specs.Prelude.{◌≡◌, ◌≢◌, ◌⊎◌, ℕ, zero, suc, ◌+◌, Bool, true, false, ◌==◌, if◌then◌else◌, List, [], ◌∷◌, length, Option}
use Rattle.std.proofs.Common.{arith, refl, sym, ap, ap₂, ◌∙◌, subst, inl, inr}
use Rattle.std.proofs.lemmas.Bool.{cases_Bool}
use Rattle.std.proofs.lemmas.Bool.Decides.{eqb_tells}
use Rattle.dsm_base.specs.declared.names.Mode.{Mode}
use Rattle.dsm_base.specs.declared.label.Label.{Label}
use Rattle.dsm_base.specs.declared.setup.Piece.{Piece}
use Rattle.dsm_base.specs.declared.setup.Setup.{Setup}
use Rattle.dsm_base.specs.Access.{is_exclusive}
use Rattle.dsm_base.specs.Threads.{Semantics}
use Rattle.dsm_base.specs.Plain.{Turn, IsPlainRun, after_run, labels_of, held_after, crossed_after}
use Rattle.dsm_net.specs.Processor.{Own}
use Rattle.dsm_net.specs.Turns.{OwnTurn, own_versions_after, own_after, dirty_after}
use Rattle.dsm_laws_runs.specs.OwnPart.{held_of, crossed_of, own_versions_of}
use Rattle.dsm_laws_runs.specs.Versions.{makes_version}
use Rattle.dsm_laws_runs.proofs.Each.{for_each}
use Rattle.dsm_laws_runs.proofs.OwnPart.{own_held, labels_mine, labels_other}
use Rattle.dsm_laws_runs.proofs.Versions.{version_step}
use Rattle.dsm_laws_protocol.specs.Courses.{Move, is_excl, is_exclusive_claim, move_of, moves_of, claim_of, made_by, held_by, Follows, IsCourse}
use Rattle.dsm_laws_protocol.specs.Situations.{total}
use Rattle.dsm_laws_protocol.proofs.Families.{total_same, total_more}
use Rattle.dsm_laws_protocol.proofs.Courses.{IsGiving, giving, claim_held}
use Rattle.dsm_laws_protocol.proofs.Own.{held_move, exclusive_same}
use Rattle.dsm_laws_history.proofs.Marks.{dirty_of}

pub record IsOwnPart {S : Type 0} (pieces : List Piece) (own : Own S) (labels : List Label) : Type 0 where
  pub turns : own.turns ≡ length labels
  pub held : own.held ≡ held_of labels
  pub crossed : own.crossed ≡ crossed_of labels
  pub versions : own.versions ≡ own_versions_of labels
  pub dirty : own.dirty ≡ dirty_of pieces labels

versions_step : (labels : List Label) (label : Label) → own_versions_after (own_versions_of labels) (held_of labels) label ≡ own_versions_of (label ∷ labels)
versions_step labels (Label.Take lock mode version) = refl
versions_step labels (Label.Give lock) = refl
versions_step labels _ = refl

pub own_part_after : {S : Type 0} (setup : Setup) (threads : Semantics S) (own : Own S) (labels : List Label) (turn : OwnTurn) → IsOwnPart setup.bindings own labels → IsOwnPart setup.bindings (own_after setup threads own turn) (turn.label ∷ labels)
own_part_after setup threads own labels turn h = record {
  turns = let k = h.turns in omega arith;
  held = ap (λ held. held_after held turn.label) h.held;
  crossed = ap (λ crossed. crossed_after crossed turn.label) h.crossed;
  versions = ap₂ (λ versions held. own_versions_after versions held turn.label) h.versions h.held ∙ versions_step labels turn.label;
  dirty = ap (λ dirty. dirty_after setup.bindings dirty turn.label) h.dirty;
}

-- the hold of a lock is told by what the labels do to it
pub held_moves : (labels : List Label) (lock : ℕ) → held_of labels lock ≡ held_by (moves_of lock labels)
held_moves [] lock = refl
held_moves (label ∷ before) lock = held_move (held_of before) lock (moves_of lock before) label (held_moves before lock)

-- Versions.

module _ (lock : ℕ) (held : ℕ → Option Mode) (moves : List Move) (course : IsCourse moves) (same : held lock ≡ held_by moves) where
  given : Follows moves Move.gives → (if is_exclusive_claim (claim_of moves) then made_by moves + 1 else made_by moves) ≡ (if is_exclusive (held lock) then made_by moves + 1 else made_by moves)
  given follows =
      let g : IsGiving moves = giving moves follows in
      let x : is_exclusive (held lock) ≡ is_excl g.claim.mode = exclusive_same (held lock) g.claim.mode (same ∙ claim_held moves g.claim course g.is_claim g.is_taken) in
      rw (g.is_claim, x) refl

  -- a label makes a version of a lock by the claim as by the hold
  made_step : (label : Label) → Follows moves (move_of lock label) → made_by (move_of lock label ∷ moves) ≡ (if makes_version lock held label then made_by moves + 1 else made_by moves)
  made_step (Label.Give other) follows =
      elim (eqb_tells other.0 lock) [
        | inl (t, i) ↦ rw t (given (rw t at follows))
        | inr (t, _) ↦ rw t refl
      ]
  made_step (Label.Ask other mode) follows = elim (eqb_tells other.0 lock) [ inl (t, _) ↦ rw t refl | inr (t, _) ↦ rw t refl ]
  made_step (Label.Take other mode version) follows = elim (eqb_tells other.0 lock) [ inl (t, _) ↦ rw t refl | inr (t, _) ↦ rw t refl ]
  made_step _ follows = refl

module _ {S : Type 0} (setup : Setup) (first : ℕ → S) (threads : Semantics S) (lock : ℕ) where
  abbrev pub made_in : List Turn → ℕ → ℕ
  made_in run q = made_by (moves_of lock (labels_of q run))

  abbrev makes : Turn → List Turn → Bool
  makes turn before = makes_version lock ((after_run first threads before).held turn.proc) turn.label

  -- the version of a lock is the number of versions that the processors have made of it
  pub versions_total : (run : List Turn) → IsPlainRun setup first threads run → ((q : ℕ) → IsCourse (moves_of lock (labels_of q run))) → (after_run first threads run).versions lock ≡ total setup.procs (made_in run)
  versions_total [] is_run courses = no_total setup.procs
    where
      no_total : (n : ℕ) → 0 ≡ total n (λ q. 0)
      no_total zero = refl
      no_total (suc n) = let k = no_total n in omega arith
  versions_total (turn ∷ before) is_run courses =
      version_step (after_run first threads before).versions ((after_run first threads before).held turn.proc) turn.label lock
      ∙ step_total (versions_total before is_run.0 courses_before) (cases_Bool (makes turn before))
    where
      mine_is : labels_of turn.proc (turn ∷ before) ≡ turn.label ∷ labels_of turn.proc before
      mine_is = labels_mine turn.proc turn before refl

      course_now : IsCourse (moves_of lock (turn.label ∷ labels_of turn.proc before))
      course_now = subst (λ labels. IsCourse (moves_of lock labels)) mine_is (courses turn.proc)

      courses_before : (q : ℕ) → IsCourse (moves_of lock (labels_of q before))
      courses_before q = for_each (λ q. IsCourse (moves_of lock (labels_of q before))) turn.proc q course_now.0 (λ ne. subst (λ labels. IsCourse (moves_of lock labels)) (labels_other q turn before ne) (courses q))

      held_is : (after_run first threads before).held turn.proc lock ≡ held_by (moves_of lock (labels_of turn.proc before))
      held_is = ap (λ f. f lock) (own_held first threads before turn.proc) ∙ held_moves (labels_of turn.proc before) lock

      step : made_in (turn ∷ before) turn.proc ≡ (if makes turn before then made_in before turn.proc + 1 else made_in before turn.proc)
      step = ap (λ labels. made_by (moves_of lock labels)) mine_is
          ∙ made_step lock ((after_run first threads before).held turn.proc) (moves_of lock (labels_of turn.proc before)) course_now.0 held_is turn.label course_now.1

      other : (q : ℕ) → turn.proc ≢ q → made_in (turn ∷ before) q ≡ made_in before q
      other q ne = ap (λ labels. made_by (moves_of lock labels)) (labels_other q turn before ne)

      apart : (q : ℕ) → (q == turn.proc) ≡ false → turn.proc ≢ q
      apart q e i = grind arith

      step_total : (after_run first threads before).versions lock ≡ total setup.procs (made_in before) → (makes turn before ≡ true) ⊎ (makes turn before ≡ false) →
          (if makes turn before then (after_run first threads before).versions lock + 1 else (after_run first threads before).versions lock) ≡ total setup.procs (made_in (turn ∷ before))
      step_total was (inl e) = rw e (ap (λ n. n + 1) was ∙ sym (total_more setup.procs (made_in before) (made_in (turn ∷ before)) turn.proc is_run.1.is_processor (rw e at step) (λ q ne. other q (apart q ne))))
      step_total was (inr e) = rw e (was ∙ sym (total_same setup.procs (made_in (turn ∷ before)) (made_in before) (λ q. for_each (λ q. made_in (turn ∷ before) q ≡ made_in before q) turn.proc q (rw e at step) (λ ne. other q ne))))
