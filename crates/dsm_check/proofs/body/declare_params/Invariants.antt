use Rattle.std.proofs.Common.{◌≡◌, ◌≤◌, drop}
use Rattle.dsm_check.specs.Checks.{each}
use Rattle.dsm_check.specs.Bodies.{with_variable}
use Rattle.dsm_check.specs.BodyTables.{scope_of, blocks_in}
use Rattle.dsm_check.proofs.body.declare_params.Given as goal

abbrev pub invariant-loop-param : goal.invariant-loop-param
invariant-loop-param l =
    (1 ≤ blocks_in l.scope.locals)
    × (l.scope.slots ≡ l.param-index)
    × (each with_variable (scope_of l.initial.scope) l.params ≡ each with_variable (scope_of l.scope) (drop l.param-index l.params))
