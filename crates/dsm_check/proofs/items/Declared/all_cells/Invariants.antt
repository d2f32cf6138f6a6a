use Rattle.std.proofs.Common.{◌≡◌, drop}
use Rattle.dsm_check.specs.Checks.{each}
use Rattle.dsm_check.specs.FileNames.{with_cells}
use Rattle.dsm_check.specs.FileTables.{names_of, AreCounted}
use Rattle.dsm_check.proofs.items.Declared.all_cells.Given as goal

abbrev pub invariant-loop-cell : goal.invariant-loop-cell
invariant-loop-cell l =
    AreCounted l.self
    × (each (with_cells l.sharing) (names_of l.initial.self.names) l.cells
    ≡ each (with_cells l.sharing) (names_of l.self.names) (drop l.cell-index l.cells))
