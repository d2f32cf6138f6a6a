use Rattle.std.proofs.Common.{◌≡◌, map}
use Rattle.std.specs.List.{range_with_len}
use Rattle.dsm_barrier.specs.BarrierStates.{opening_for}
use Rattle.dsm_barrier.specs.Barriers.{barrier_of}
use Rattle.dsm_barrier.proofs.barrier.Barrier.openings.Given as goal

-- the processors gone over have their openings
abbrev pub invariant-loop-to : goal.invariant-loop-to
invariant-loop-to l = l.openings ≡ map (opening_for l.procs l.bar (barrier_of l.self)) (range_with_len 0 l.to)
