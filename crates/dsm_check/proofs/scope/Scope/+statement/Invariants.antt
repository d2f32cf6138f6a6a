use Rattle.std.proofs.Common.{◌≡◌, ◌≤◌, drop}
use Rattle.dsm_syntax.specs.Views as tree
use Rattle.dsm_check.specs.Bodies.{resolve_statements}
use Rattle.dsm_check.specs.BodyTables.{scope_of, around_of, blocks_in}
use Rattle.dsm_check.proofs.Sequences.{trailing}
use Rattle.dsm_check.proofs.scope.Scope.+statement.Given as goal

abbrev pub invariant-statements-loop-statement : goal.invariant-statements-loop-statement
invariant-statements-loop-statement l =
    (1 ≤ blocks_in l.self.locals)
    × (blocks_in l.self.locals ≡ blocks_in l.initial.self.locals)
    × (resolve_statements (around_of l.around) l.looped (scope_of l.initial.self) (tree.view_statements l.statements)
    ≡ trailing l.made.items (resolve_statements (around_of l.around) l.looped (scope_of l.self) (tree.view_statements (drop l.statement-index l.statements))))
