-- The versions that a processor's labels tell: none is over the lock's, and that of a lock that it holds is the newest.
use Rattle.std.specs.Prelude.{◌≡◌, ◌≢◌, ℕ, ◌≤◌, true, List, [], ◌∷◌, Option, is_some}
use Rattle.std.proofs.Common.{arith, refl, sym}
use Rattle.dsm_base.specs.declared.names.Lock.{Lock}
use Rattle.dsm_base.specs.declared.names.Mode.{Mode}
use Rattle.dsm_base.specs.declared.label.Label.{Label}
use Rattle.dsm_base.specs.declared.setup.Setup.{Setup}
use Rattle.dsm_base.specs.Threads.{Semantics}
use Rattle.dsm_base.specs.Plain.{PlainState, Turn, IsPlainRun, after_run, labels_of, held_after, versions_after}
use Rattle.dsm_laws_runs.specs.OwnPart.{own_versions_after}
use Rattle.dsm_laws_runs.specs.OwnPart.{own_versions_of}
use Rattle.dsm_base.proofs.Families.{update_same}
use Rattle.dsm_laws_runs.proofs.Each.{for_each}
use Rattle.dsm_laws_runs.proofs.OwnPart.{own_held, other_held, labels_mine, labels_other}
use Rattle.dsm_laws_runs.proofs.Turns.{gives_of}
use Rattle.dsm_laws_runs.proofs.Versions.{version_rises, version_kept, take_version}
use Rattle.dsm_laws_runs.proofs.OtherTurn.{kept_version}

-- a version beside the lock's: it is no newer, and the newest where the lock is held
pub record IsOfLock (held : Option Mode) (own newest : ℕ) : Type 0 where
  pub no_newer : own ≤ newest
  pub current : is_some held ≡ true → own ≡ newest

own_step : (own versions : ℕ → ℕ) (held : ℕ → Option Mode) (label : Label) (lock : ℕ) → ((taken : Lock) (mode : Mode) (version : ℕ) → label ≡ Label.Take taken mode version → version ≡ versions taken.0) →
    ((given : Lock) → label ≡ Label.Give given → is_some (held given.0) ≡ true) →
    IsOfLock (held lock) (own lock) (versions lock) → IsOfLock (held_after held label lock) (own_versions_after own held label lock) (versions_after versions held label lock)
own_step own versions held (Label.Take taken mode version) lock takes gives was =
    record { no_newer = grind (arith, takes taken mode version refl, was.no_newer); current = λ h. grind (arith, takes taken mode version refl, was.current) }
own_step own versions held (Label.Give given) lock takes gives was =
    record { no_newer = grind (arith, gives given refl, was.no_newer, was.current); current = λ h. grind (arith, was.current) }
own_step own versions held _ lock takes gives was = was

module _ {S : Type 0} (setup : Setup) (first : ℕ → S) (threads : Semantics S) where
  -- the version that p's copy has of a lock after a run
  abbrev pub HasVersion : List Turn → ℕ → ℕ → Type 0
  HasVersion run lock p = IsOfLock ((after_run first threads run).held p lock) (own_versions_of (labels_of p run) lock) ((after_run first threads run).versions lock)

  own_turn : (turn : Turn) (before : List Turn) → IsPlainRun setup first threads (turn ∷ before) → (lock : ℕ) → HasVersion before lock turn.proc → HasVersion (turn ∷ before) lock turn.proc
  own_turn turn before is_run lock was =
      let s : PlainState S = after_run first threads before in
      rw (labels_mine turn.proc turn before refl, update_same s.held turn.proc (held_after (s.held turn.proc) turn.label), ← own_held first threads before turn.proc)
      (own_step (own_versions_of (labels_of turn.proc before)) s.versions (s.held turn.proc) turn.label lock
      (λ taken mode version e. take_version first threads setup before turn.proc taken mode version (rw e at is_run.1.is_label))
      (λ given e. gives_of setup s turn.proc _ _ given (rw e at is_run.1.is_label)) was)

  other_turn : (turn : Turn) (before : List Turn) → IsPlainRun setup first threads (turn ∷ before) → (lock p : ℕ) → turn.proc ≢ p → HasVersion before lock p → HasVersion (turn ∷ before) lock p
  other_turn turn before is_run lock p ne was =
      let s : PlainState S = after_run first threads before in
      rw (labels_other p turn before ne, other_held threads s p turn.proc turn.label (λ e. ne (sym e)))
      (record {
        no_newer = omega (arith, was.no_newer, version_rises first threads turn before lock);
        current = λ h. rw (version_kept s.versions (s.held turn.proc) turn.label lock (kept_version setup first threads before is_run.0 p turn.proc turn.label (λ e. ne (sym e)) lock h)) (was.current h);
      })

  pub has_version : (run : List Turn) → IsPlainRun setup first threads run → (lock p : ℕ) → HasVersion run lock p
  has_version [] is_run lock p = record { no_newer = omega arith; current = λ h. refl }
  has_version (turn ∷ before) is_run lock p =
      for_each (HasVersion (turn ∷ before) lock) turn.proc p (own_turn turn before is_run lock (has_version before is_run.0 lock turn.proc))
      (λ ne. other_turn turn before is_run lock p ne (has_version before is_run.0 lock p))
