use Rattle.std.proofs.Common.{◌≡◌, ◌++◌, map, take, drop}
use Rattle.dsm_base.specs.Plan.{counted_one}
use Rattle.dsm_base.proofs.plan.FaultPlan.count.Given as goal

-- those gone over are counted, and the others as they were
abbrev pub invariant-loop-fault : goal.invariant-loop-fault
invariant-loop-fault l =
    l.fault-items ≡ map (counted_one l.call) (take l.fault-index l.initial.fault-items) ++ drop l.fault-index l.initial.fault-items
