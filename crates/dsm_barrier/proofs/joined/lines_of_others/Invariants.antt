use Rattle.std.proofs.Common.{◌≡◌}
use Rattle.dsm_barrier.specs.BarrierStates.{lines_of_others}
use Rattle.dsm_barrier.specs.Barriers.{brought_by}
use Rattle.dsm_barrier.proofs.joined.lines_of_others.Given as goal

-- the lines of the processors gone over are joined
abbrev pub invariant-loop-other : goal.invariant-loop-other
invariant-loop-other l = l.lines ≡ lines_of_others (brought_by l.waiting) l.other l.proc
