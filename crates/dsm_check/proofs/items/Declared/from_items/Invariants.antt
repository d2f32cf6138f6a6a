use Rattle.std.proofs.Common.{◌≡◌, drop}
use Rattle.dsm_syntax.specs.Views.{view_items}
use Rattle.dsm_check.specs.Checks.{each}
use Rattle.dsm_check.specs.FileNames.{file_names, with_item}
use Rattle.dsm_check.specs.FileTables.{names_of, AreCounted}
use Rattle.dsm_check.proofs.items.Declared.from_items.Given as goal

abbrev pub invariant-loop-item : goal.invariant-loop-item
invariant-loop-item l =
    AreCounted l.declared
    × (file_names (view_items l.items) ≡ each with_item (names_of l.declared.names) (view_items (drop l.item-index l.items)))
