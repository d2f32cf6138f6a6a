use Rattle.std.proofs.Common.{◌≡◌, drop}
use Rattle.dsm_syntax.specs.Views as tree
use Rattle.dsm_check.specs.Bodies.{resolve_all}
use Rattle.dsm_check.specs.BodyTables.{scope_of}
use Rattle.dsm_check.proofs.Collections.{behind}
use Rattle.dsm_check.proofs.scope.Scope.+expression.Given as goal

abbrev pub invariant-arguments-loop-argument : goal.invariant-arguments-loop-argument
invariant-arguments-loop-argument l =
    resolve_all (scope_of l.self).names (tree.views l.arguments)
    ≡ behind l.made.items (resolve_all (scope_of l.self).names (tree.views (drop l.argument-index l.arguments)))
