-- Turns that touch nothing in common may be made in either order.
use Rattle.std.specs.Prelude.{◌≡◌, ◌≢◌, ℕ, ℤ, false, Option, Some}
use Rattle.std.proofs.Common.{arith, refl, sym, ◌∙◌}
use Rattle.dsm_base.specs.declared.names.Mode.{Mode}
use Rattle.dsm_base.specs.declared.label.Label.{Label}
use Rattle.dsm_base.specs.declared.setup.Setup.{Setup}
use Rattle.dsm_base.specs.Family.{update}
use Rattle.dsm_base.specs.Threads.{Semantics}
use Rattle.dsm_base.specs.Plain.{PlainState, plain_after, plain_turn, memory_after, held_after, versions_after, arrived_after}
use Rattle.dsm_base.proofs.Families.{all_same}
use Rattle.dsm_laws_runs.proofs.OwnPart.{other_thread, other_held, other_crossed}
use Rattle.dsm_laws_runs.proofs.Swap.{SameFor, same_turn, same_state}
use Rattle.dsm_laws_runs.specs.Swap.{clashes}
use Rattle.dsm_laws_runs.specs.Commuting.{a_lock, a_barrier, a_cell, touched, TouchNothingInCommon, Commute}

-- What a label leaves of what another touches.

kept_cell : (memory : ℕ → ℤ) (x : Label) (cell : ℕ) → touched x ≢ Some (a_cell cell) → memory_after memory x cell ≡ memory cell
kept_cell memory (Label.Store stored value) cell other = grind arith
kept_cell memory _ cell other = refl

kept_version : (versions : ℕ → ℕ) (held : ℕ → Option Mode) (x : Label) (lock : ℕ) → touched x ≢ Some (a_lock lock) → versions_after versions held x lock ≡ versions lock
kept_version versions held (Label.Give given) lock other = grind arith
kept_version versions held _ lock other = refl

kept_hold : (held : ℕ → Option Mode) (x : Label) (lock : ℕ) → touched x ≢ Some (a_lock lock) → held_after held x lock ≡ held lock
kept_hold held (Label.Take taken mode version) lock other = grind arith
kept_hold held (Label.Give given) lock other = grind arith
kept_hold held _ lock other = refl

kept_arrivals : (arrived : ℕ → ℕ) (x : Label) (bar : ℕ) → touched x ≢ Some (a_barrier bar) → arrived_after arrived x bar ≡ arrived bar
kept_arrivals arrived (Label.Arrive reached) bar other = grind arith
kept_arrivals arrived _ bar other = refl

-- a member of a family that changes at one place
changed : {A : Type 0} (f : ℕ → ℕ → A) (q : ℕ) (new : ℕ → A) (k : ℕ) → new k ≡ f q k → (r : ℕ) → update f q new r k ≡ f r k
changed f q new k e r = grind arith

module _ {S : Type 0} (setup : Setup) (threads : Semantics S) (s : PlainState S) where
  -- another's turn leaves p's as it is
  same_for : (p q : ℕ) (mine other : Label) → p ≢ q → TouchNothingInCommon mine other → SameFor setup.procs (plain_after threads s q other) s p mine
  same_for p q mine other apart nothing = record {
    held = sym (other_held threads s p q other apart);
    crossed = sym (other_crossed threads s p q other apart);
    loads = λ cell value is. sym (kept_cell s.memory other cell.0 (nothing (a_cell cell.0) (rw is refl)));
    takes = λ lock mode version is. sym (kept_version s.versions (s.held q) other lock.0 (nothing (a_lock lock.0) (rw is refl)));
    can_take = λ lock mode version is can.
        let same = changed s.held q (held_after (s.held q) other) lock.0 (kept_hold (s.held q) other lock.0 (nothing (a_lock lock.0) (rw is refl))) in
        all_same setup.procs _ _ (λ r lt. rw (same r) refl) ∙ can;
    can_cross = λ bar epoch is can.
        let same = changed s.arrived q (arrived_after (s.arrived q) other) bar.0 (kept_arrivals (s.arrived q) other bar.0 (nothing (a_barrier bar.0) (rw is refl))) in
        rw (other_crossed threads s p q other apart) (all_same setup.procs _ _ (λ r lt. rw (same r) refl)) ∙ can;
  }

  kept_turn : (p q : ℕ) (mine other : Label) → p ≢ q → TouchNothingInCommon mine other → plain_turn setup threads s p ≡ Some mine →
      plain_turn setup threads (plain_after threads s q other) p ≡ Some mine
  kept_turn p q mine other apart nothing turn =
      rw (other_thread threads s p q other apart)
      (same_turn setup (plain_after threads s q other) s p _ _ mine (same_for p q mine other apart nothing) turn)

no_clash : (x y : Label) → TouchNothingInCommon x y → clashes x y ≡ false
no_clash (Label.Store cell value) (Label.Store other new) nothing = let apart = nothing (a_cell cell.0) refl in grind arith
no_clash (Label.Store cell value) (Label.Load other new) nothing = let apart = nothing (a_cell cell.0) refl in grind arith
no_clash (Label.Load cell value) (Label.Store other new) nothing = let apart = nothing (a_cell cell.0) refl in grind arith
no_clash _ _ nothing = refl

pub turns_commute : {S : Type 0} (setup : Setup) (threads : Semantics S) (s : PlainState S) (p q : ℕ) (one other : Label) → p ≢ q →
    plain_turn setup threads s p ≡ Some one → plain_turn setup threads s q ≡ Some other → TouchNothingInCommon one other → Commute setup threads s p q one other
turns_commute setup threads s p q one other apart mine theirs nothing = record {
  other_second = kept_turn setup threads s q p other one (λ e. apart (sym e)) (λ thing is same. nothing thing same is) theirs;
  one_second = kept_turn setup threads s p q one other apart nothing mine;
  same = sym (same_state threads s p q one other apart (no_clash one other nothing));
}
