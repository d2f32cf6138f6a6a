use Rattle.std.proofs.Common.{◌≡◌, drop}
use Rattle.dsm_syntax.specs.Views.{view_items}
use Rattle.dsm_check.specs.Checks.{each}
use Rattle.dsm_check.specs.Bindings.{pieces_of, with_binding}
use Rattle.dsm_check.specs.FileTables.{names_of}
use Rattle.dsm_check.proofs.bindings.pieces_of.Given as goal

abbrev pub invariant-loop-item : goal.invariant-loop-item
invariant-loop-item l =
    (l.binder.names.now ≡ l.names)
    × (pieces_of (names_of l.names) (view_items l.items)
    ≡ each (with_binding (names_of l.names)) l.binder.pieces (view_items (drop l.item-index l.items)))
