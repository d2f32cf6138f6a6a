-- The names of a program's file: declarations in the order of the text, and `main`.
use Rattle.std.specs.Prelude.{ℕ, ℤ, ◌+◌, ◌==◌, List, [], ◌∷◌, length, codes, Option, Some, None, Ok, Err, if◌then◌else◌}
use Rattle.dsm_syntax.specs.declared.errors.ProgErr.TheVariants as err
use Rattle.dsm_syntax.specs.declared.errors.Which.{Which}
use Rattle.dsm_syntax.specs.declared.errors.Which.TheVariants as which
use Rattle.dsm_syntax.specs.declared.tree.Name.{Name}
use Rattle.dsm_syntax.specs.declared.tree.Declarator.{Declarator}
use Rattle.dsm_syntax.specs.declared.tree.Returns.{Returns}
use Rattle.dsm_syntax.specs.declared.tree.Sharing.{Sharing}
use Rattle.dsm_syntax.specs.Tree as t
use Rattle.dsm_check.specs.declared.names.Named.{Named}
use Rattle.dsm_check.specs.Environments.{Entry, known, extent, total, cells_in, locks_in, barriers_in, functions_in}
use Rattle.dsm_check.specs.Checks.{Check, ◌>>=◌, each, wrong_kind, new, within, natural}

-- a declared size is at least 1
abbrev pub size_of : Name → Option ℤ → Check (Option ℕ)
size_of name None = Ok None
size_of name (Some size) = if natural size == 0 then wrong_kind name else Ok (Some (natural size))

-- which limit cells of this kind have
abbrev pub cells_limit : Sharing → Which
cells_limit Sharing.Shared = which.SharedCells
cells_limit Sharing.Private = which.PrivateCells

-- how many cells of this kind there may be
abbrev pub most_cells : Sharing → ℕ
most_cells Sharing.Shared = 65536
most_cells Sharing.Private = 16384

-- cells are numbered from those declared before
abbrev pub with_cells : Sharing → List Entry → Declarator → Check (List Entry)
with_cells sharing names cell = do
  name ← new names cell.name
  size ← size_of cell.name cell.size
  let first = total (cells_in sharing) names
  count ← within (cells_limit sharing) (most_cells sharing) (first + extent size)
  Ok (known name (Named.Cells sharing first size) ∷ names)

-- the names with a lock, or an array of locks
abbrev pub with_locks : List Entry → Declarator → Check (List Entry)
with_locks names lock = do
  name ← new names lock.name
  size ← size_of lock.name lock.size
  let first = total locks_in names
  count ← within which.Locks 256 (first + extent size)
  Ok (known name (Named.Locks first size) ∷ names)

-- the names with a barrier
abbrev pub with_barrier : List Entry → Name → Check (List Entry)
with_barrier names barrier = do
  name ← new names barrier
  let number = total barriers_in names
  count ← within which.Barriers 64 (number + 1)
  Ok (known name (Named.Barrier number) ∷ names)

-- the names of parameters
abbrev pub params_of : t.Params → List Name
params_of t.no_params = []
params_of t.void_params = []
params_of (t.named_params names) = names

-- the names with a function
abbrev pub with_function : List Entry → t.Function → Check (List Entry)
with_function names function = do
  name ← new names function.name
  let number = total functions_in names
  count ← within which.Functions 256 (number + 1)
  params ← within which.Params 16 (length (params_of function.params))
  Ok (known name (Named.Function number function.returns params) ∷ names)

-- the names with those of an item
abbrev pub with_item : List Entry → t.Item → Check (List Entry)
with_item names (t.cells sharing cells) = each (with_cells sharing) names cells
with_item names (t.locks locks) = each with_locks names locks
with_item names (t.barriers barriers) = each with_barrier names barriers
with_item names (t.bind bind) = Ok names
with_item names (t.bind_each bind) = Ok names
with_item names (t.bind_barrier bind) = Ok names
with_item names (t.function function) = with_function names function

-- the names of a file
abbrev pub file_names : List t.Item → Check (List Entry)
file_names items = each with_item [] items

-- the function in which threads begin
abbrev pub main_name : List ℕ
main_name = codes "main"

-- the number of `main`: a function with a value and two parameters
abbrev pub main_of : Option Named → Check ℕ
main_of (Some (Named.Function number Returns.Int params)) = if params == 2 then Ok number else Err err.NoMain
main_of _ = Err err.NoMain
