-- What a manager in the code shows.
use Rattle.std.specs.Prelude.{◌≡◌, ℕ, ◌%◌, ◌==◌, Bool, map, length}
use Rattle.dsm_base.specs.Family.{family_of}
use Rattle.dsm_barrier.specs.declared.manager.Manager.{Manager}
use Rattle.dsm_barrier.specs.BarrierStates.{BarrierState, start_barrier}
use Rattle.dsm_barrier.specs.Barriers.{barrier_of}

-- the state of each barrier
abbrev pub barriers_of : Manager → ℕ → BarrierState
barriers_of manager = family_of (λ bar. start_barrier) (map barrier_of manager.barriers.items)

-- by processor, the turn of its last arrival that counted
abbrev pub last_of : Manager → ℕ → ℕ
last_of manager = family_of (λ p. 0) manager.last

abbrev pub bar_count : Manager → ℕ
bar_count manager = length manager.barriers.items

-- whether it is the manager of a barrier
abbrev pub manages : Manager → ℕ → Bool
manages manager bar = (bar % manager.procs) == manager.me.0

-- it manages for the same processors, with as many barriers
pub record IsSameManager (old new : Manager) : Type 0 where
  pub me : new.me ≡ old.me
  pub procs : new.procs ≡ old.procs
  pub bars : bar_count new ≡ bar_count old
