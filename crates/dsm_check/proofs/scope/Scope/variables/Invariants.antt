use Rattle.std.proofs.Common.{◌≡◌, ◌≤◌, map, drop}
use Rattle.dsm_syntax.specs.Views as tree
use Rattle.dsm_check.specs.Views.{view_variable}
use Rattle.dsm_check.specs.Checks.{each_made}
use Rattle.dsm_check.specs.Bodies.{resolve_variable}
use Rattle.dsm_check.specs.BodyTables.{scope_of, blocks_in}
use Rattle.dsm_check.proofs.Collections.{onto}
use Rattle.dsm_check.proofs.scope.Scope.variables.Given as goal

abbrev pub invariant-loop-variable : goal.invariant-loop-variable
invariant-loop-variable l =
    (1 ≤ blocks_in l.self.locals)
    × (blocks_in l.self.locals ≡ blocks_in l.initial.self.locals)
    × (each_made resolve_variable (scope_of l.initial.self) (map tree.view_variable l.variables)
    ≡ onto (map view_variable l.made.items) (each_made resolve_variable (scope_of l.self) (map tree.view_variable (drop l.variable-index l.variables))))
