use Rattle.std.proofs.Common.{◌≡◌, map, drop}
use Rattle.dsm_syntax.specs.Views.{view_items}
use Rattle.dsm_check.specs.Views.{view_function}
use Rattle.dsm_check.specs.Checks.{each}
use Rattle.dsm_check.specs.Bodies.{functions_of, with_body}
use Rattle.dsm_check.specs.FileTables.{names_of}
use Rattle.dsm_check.proofs.body.functions_of.Given as goal

abbrev pub invariant-loop-item : goal.invariant-loop-item
invariant-loop-item l =
    functions_of (names_of l.file) (view_items l.items)
    ≡ each (with_body (names_of l.file)) (map view_function l.functions.items) (view_items (drop l.item-index l.items))
