use Rattle.std.proofs.Common.{◌≡◌, List}
use Rattle.dsm_check.specs.Resolved as r
use Rattle.dsm_semantics.specs.Semantics.{ready}
use Rattle.dsm_semantics.specs.Weights.{weight}
use Rattle.dsm_semantics.specs.Within.{Extent, IsStateWithin}
use Rattle.dsm_interpreter.specs.Threads.{state_in}
use Rattle.dsm_interpreter.proofs.execution.Execution.go_on.Given as goal

abbrev pub invariant-steps : goal.invariant-steps
invariant-steps l = record {
  same : (functions : List r.Function) → ready functions (state_in l.self) ≡ ready functions (state_in l.fn.self);
  within : (extent : Extent) → IsStateWithin extent (state_in l.fn.self) → IsStateWithin extent (state_in l.self);
}

abbrev pub decreases-steps : goal.decreases-steps
decreases-steps l = weight (state_in l.self).todo
