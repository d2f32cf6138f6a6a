-- What a home holds: the states of its locks, and their lines.
use Rattle.std.specs.Prelude.{ℕ, ℤ, pos, List}
use Rattle.dsm_base.specs.declared.names.Lock.{Lock}
use Rattle.dsm_base.specs.declared.names.Mode.{Mode}
use Rattle.dsm_base.specs.declared.setup.Piece.{Piece}
use Rattle.dsm_base.specs.Family.{update}
use Rattle.dsm_lines.specs.declared.list.Line.{Line}
use Rattle.dsm_lines.specs.Copies.{stamped, overlaid}
use Rattle.dsm_home.specs.declared.waiting.Waiting.{Waiting}
use Rattle.dsm_home.specs.LockStates.{LockState, start_lock, lock_after_grants, lock_with_request, lock_after_release}

-- the state of each lock; the version in which each line was last stored to; and the value of each cell at that version
pub record HomeState : Type 0 where
  pub locks : ℕ → LockState
  pub stamps : ℕ → ℕ
  pub values : ℕ → ℤ

-- nobody has asked for a lock, and all lines are zeros
abbrev pub start_home : HomeState
start_home = record { locks = λ lock. start_lock; stamps = λ line. 0; values = λ cell. pos 0 }

-- the home with one more request, once it has granted that lock to all to whom it may
abbrev pub home_after_ask : HomeState → Lock → Waiting → HomeState
home_after_ask home lock request = record home {
  locks = update home.locks lock.0 (lock_after_grants (lock_with_request (home.locks lock.0) request));
}

-- the home once a hold has ended and its lines have come, and it has granted that lock to all to whom it may
abbrev pub home_after_give : List Piece → HomeState → Lock → ℕ → Mode → ℕ → List Line → HomeState
home_after_give pieces home lock p mode version lines = record {
  locks = update home.locks lock.0 (lock_after_grants (lock_after_release (home.locks lock.0) p mode));
  stamps = stamped home.stamps version lines;
  values = overlaid pieces home.values lines;
}
