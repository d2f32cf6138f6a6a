-- What arrivals at a barrier leave, told by who came how often.
use Rattle.std.specs.Prelude.{ℕ, ◌==◌, if◌then◌else◌, List, [], ◌∷◌, ◌++◌}
use Rattle.dsm_barrier.specs.declared.arrived.Arrived.{Arrived}
use Rattle.dsm_barrier.specs.BarrierStates.{BarrierState, start_barrier, with_arrival, opened_where_due}

-- an arrival that counted: whose it is
pub record Coming : Type 0 where
  pub proc : ℕ
  pub arrived : Arrived

-- the barrier that arrivals leave, the newest first
abbrev pub barrier_after : ℕ → List Coming → BarrierState
barrier_after procs [] = start_barrier
barrier_after procs (one ∷ before) =
    opened_where_due procs (with_arrival (barrier_after procs before) one.proc one.arrived)

-- the arrivals of one processor among them, the oldest first
abbrev pub arrivals_by : ℕ → List Coming → List Arrived
arrivals_by p [] = []
arrivals_by p (one ∷ before) =
    if one.proc == p then arrivals_by p before ++ one.arrived ∷ [] else arrivals_by p before
