-- The numbers of a file's names.
use Rattle.std.specs.Prelude.{◌+◌, ◌<◌, ◌≤◌, Bool, true, false, ◌&&◌, ◌==◌, nat_lt, nat_le, List, [], ◌∷◌}
use Rattle.dsm_check.specs.declared.names.Named.{Named}
use Rattle.dsm_check.specs.Environments.{Entry, opened, known, extent, total, cells_in, locks_in, barriers_in, functions_in}
use Rattle.dsm_check.specs.FileNames.{most_cells}

-- whether a name has the numbers after those of the names before it, within the limits
abbrev pub is_next : List Entry → Named → Bool
is_next names (Named.Cells sharing first size) = (first == total (cells_in sharing) names) && nat_le (first + extent size) (most_cells sharing) && nat_lt 0 (extent size)
is_next names (Named.Locks first size) = (first == total locks_in names) && nat_le (first + extent size) 256 && nat_lt 0 (extent size)
is_next names (Named.Barrier number) = (number == total barriers_in names) && nat_lt number 64
is_next names (Named.Function number returns params) = (number == total functions_in names) && nat_lt number 256 && nat_le params 16
is_next names (Named.Variable slot) = false

-- whether each name has
abbrev pub is_numbered : List Entry → Bool
is_numbered [] = true
is_numbered (opened ∷ names) = false
is_numbered (known name named ∷ names) = is_next names named && is_numbered names

-- what a name stands for is there
abbrev pub IsThere : List Entry → Named → Type 0
IsThere names (Named.Cells sharing first size) =
    (first + extent size ≤ total (cells_in sharing) names) × (total (cells_in sharing) names ≤ most_cells sharing) × (0 < extent size)
IsThere names (Named.Locks first size) = (first + extent size ≤ total locks_in names) × (total locks_in names ≤ 256) × (0 < extent size)
IsThere names (Named.Barrier number) = (number < total barriers_in names) × (total barriers_in names ≤ 64)
IsThere names (Named.Function number returns params) =
    (number < total functions_in names) × (total functions_in names ≤ 256) × (params ≤ 16)
IsThere names (Named.Variable slot) = ⊥
