-- Programs in code, without where they lie in memory.
use Rattle.std.specs.Prelude.{ℕ, ℤ, ◌+◌, List, [], ◌∷◌, ◌++◌, map, slice_get, get_or, Option, Some, None}
use Rattle.std.specs.Option.{option_flatten}
use Rattle.std.specs.Fmt.{signed_decimal}
use Rattle.dsm_code.specs.declared.parts.Row.{Row}
use Rattle.dsm_code.specs.Instructions.{top, below}
use Rattle.dsm_code.specs.declared.parts.SlotName.{SlotName}
use Rattle.dsm_code.specs.declared.parts.PrintPart.{PrintPart}
use Rattle.dsm_code.specs.declared.parts.Function as declared
use Rattle.dsm_code.specs.declared.parts.Parts.{Parts}

-- a function: how many parameters and slots it has, its code, and the variables that are known at its places
pub record Function : Type 0 where
  pub params : ℕ
  pub slots : ℕ
  pub rows : List Row
  pub names : List (Option (List SlotName))

-- how many private cells, shared cells, locks and barriers there are; no place has more operands than the deepest, and no function more slots than the widest
pub record Program : Type 0 where
  pub functions : List Function
  pub prints : List (List PrintPart)
  pub main : ℕ
  pub private_cells : ℕ
  pub cells : ℕ
  pub locks : ℕ
  pub bars : ℕ
  pub deepest : ℕ
  pub widest : ℕ

-- a function of the code
abbrev pub function_of : declared.Function → Function
function_of f = record { params = f.params; slots = f.slots; rows = f.rows.items; names = f.names.items }

-- the program of some parts
abbrev pub program_of : Parts → Program
program_of parts = record {
  functions = map function_of parts.functions.items;
  prints = parts.prints.items;
  main = parts.main;
  private_cells = parts.private_cells;
  cells = parts.cells;
  locks = parts.locks;
  bars = parts.bars;
  deepest = parts.deepest;
  widest = parts.widest;
}

-- the function of a number; past the last there is no code
abbrev pub numbered : Option Function → Function
numbered None = record { params = 0; slots = 0; rows = []; names = [] }
numbered (Some f) = f

abbrev pub function_at : Program → ℕ → Function
function_at program number = numbered (slice_get program.functions number)

-- the instruction at a place of a function, with its number of operands
abbrev pub row_at : Program → ℕ → ℕ → Option Row
row_at program number place = slice_get (function_at program number).rows place

-- the parts of a print; past the last there are none
abbrev pub print_at : Program → ℕ → List PrintPart
print_at program number = get_or program.prints number []

-- how many values a print has
abbrev pub values_in : List PrintPart → ℕ
values_in [] = 0
values_in (PrintPart.Text text ∷ rest) = values_in rest
values_in (PrintPart.Value ∷ rest) = values_in rest + 1

-- strings as they are and values in decimal, with nothing between
abbrev pub parts_text : List PrintPart → List ℤ → List ℕ
parts_text [] values = []
parts_text (PrintPart.Text text ∷ rest) values = text ++ parts_text rest values
parts_text (PrintPart.Value ∷ rest) values = signed_decimal (top values) ++ parts_text rest (below values)

-- the variables that are known at a place; none are told where its step has no label
abbrev pub names_at : Program → ℕ → ℕ → Option (List SlotName)
names_at program number place = option_flatten (slice_get (function_at program number).names place)
