-- Environments: what was declared so far, the newest first, and where blocks were opened.
use Rattle.std.specs.Prelude.{ℕ, ◌+◌, Bool, false, ◌||◌, bytes_eq, List, [], ◌∷◌, Option, Some, None, if◌then◌else◌}
use Rattle.dsm_syntax.specs.declared.tree.Sharing.{Sharing}
use Rattle.dsm_check.specs.declared.names.Named.{Named}

-- the entries of a list of names, the newest first
pub data Entry : Type 0 where
  -- where a block begins
  opened : Entry
  -- a name, and what it stands for
  known : List ℕ → Named → Entry

-- what a name stands for, by its newest declaration
abbrev pub meaning : List Entry → List ℕ → Option Named
meaning [] name = None
meaning (opened ∷ names) name = meaning names name
meaning (known other named ∷ names) name = if bytes_eq name other then Some named else meaning names name

-- whether a name is declared in the innermost block
abbrev pub is_here : List Entry → List ℕ → Bool
is_here [] name = false
is_here (opened ∷ names) name = false
is_here (known other named ∷ names) name = bytes_eq name other || is_here names name

-- the names after the innermost block
abbrev pub closed : List Entry → List Entry
closed [] = []
closed (opened ∷ names) = names
closed (known name named ∷ names) = closed names

-- Counts of what was declared.

-- how many there are of a size: one where it is no array
abbrev pub extent : Option ℕ → ℕ
extent None = 1
extent (Some size) = size

-- the sum of a number over the names
abbrev pub total : (Named → ℕ) → List Entry → ℕ
total number [] = 0
total number (opened ∷ names) = total number names
total number (known name named ∷ names) = number named + total number names

-- how many cells a name stands for, of those that are shared or of those that each processor has
abbrev pub cells_in : Sharing → Named → ℕ
cells_in Sharing.Shared (Named.Cells Sharing.Shared first size) = extent size
cells_in Sharing.Private (Named.Cells Sharing.Private first size) = extent size
cells_in sharing named = 0

-- how many locks a name stands for
abbrev pub locks_in : Named → ℕ
locks_in (Named.Locks first size) = extent size
locks_in named = 0

-- how many barriers a name stands for
abbrev pub barriers_in : Named → ℕ
barriers_in (Named.Barrier number) = 1
barriers_in named = 0

-- how many functions a name stands for
abbrev pub functions_in : Named → ℕ
functions_in (Named.Function number returns params) = 1
functions_in named = 0
