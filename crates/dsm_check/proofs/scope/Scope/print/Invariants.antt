use Rattle.std.proofs.Common.{◌≡◌, map, drop}
use Rattle.dsm_syntax.specs.Views as tree
use Rattle.dsm_check.specs.Views.{view_part}
use Rattle.dsm_check.specs.Bodies.{resolve_part, all_made}
use Rattle.dsm_check.specs.BodyTables.{scope_of}
use Rattle.dsm_check.proofs.Collections.{put}
use Rattle.dsm_check.proofs.scope.Scope.print.Given as goal

abbrev pub invariant-loop-part : goal.invariant-loop-part
invariant-loop-part l =
    all_made (resolve_part (scope_of l.self).names) (map tree.view_part l.parts)
    ≡ put (map view_part l.made.items) (all_made (resolve_part (scope_of l.self).names) (map tree.view_part (drop l.part-index l.parts)))
