-- The code of a program.
use Rattle.std.specs.Prelude.{ℕ, ◌+◌, ℤ, pos, true, false, if◌then◌else◌, max, List, [], ◌∷◌, ◌++◌, length, map, Option, Some, None}
use Rattle.dsm_base.specs.declared.setup.Piece.{Piece}
use Rattle.dsm_syntax.specs.Heights.{highest}
use Rattle.dsm_check.specs.Resolved as r
use Rattle.dsm_check.specs.Programs as check
use Rattle.dsm_code.specs.declared.instruction.Instr.{Instr}
use Rattle.dsm_code.specs.declared.parts.Row.{Row}
use Rattle.dsm_code.specs.declared.parts.SlotName.{SlotName}
use Rattle.dsm_code.specs.declared.parts.PrintPart.{PrintPart}
use Rattle.dsm_code.specs.Instructions.{is_stop}
use Rattle.dsm_code.specs.Programs.{Program, Function}
use Rattle.dsm_laws_code.specs.Instructions.{row}
use Rattle.dsm_laws_code.specs.Statements.{Exits, statements_code, statements_prints}

-- a function that ends without a value gives 0
abbrev pub ending : List Row
ending = row 0 (Instr.Push (pos 0)) ∷ row 1 Instr.Leave ∷ []

-- what is outside of all loops leaves the function
abbrev pub no_exits : Exits
no_exits = record { loop = 0; body = 0 }

-- the instructions of a function; `prints` is the number of the first of its prints
abbrev pub body_code : List Piece → ℕ → r.Function → List Row
body_code pieces prints function = statements_code pieces no_exits prints function.body ++ ending

-- names are told where a step has a label; a checked program doesn't hand the names of variables on yet
abbrev pub names_at : Row → Option (List SlotName)
names_at here = if is_stop here.instr then Some [] else None

-- a function
abbrev pub function_code : List Piece → ℕ → r.Function → Function
function_code pieces prints function = record {
  params = function.params;
  slots = function.slots;
  rows = body_code pieces prints function;
  names = map names_at (body_code pieces prints function);
}

-- functions from the first on
abbrev pub functions_code : List Piece → ℕ → List r.Function → List Function
functions_code pieces prints [] = []
functions_code pieces prints (function ∷ rest) =
    function_code pieces prints function ∷ functions_code pieces (prints + length (statements_prints function.body)) rest

-- the prints of functions
abbrev pub functions_prints : List r.Function → List (List PrintPart)
functions_prints [] = []
functions_prints (function ∷ rest) = statements_prints function.body ++ functions_prints rest

-- the most operands that a place of a function has
abbrev pub deepest_in : Function → ℕ
deepest_in f = highest (λ here. here.depth) f.rows

-- the code of a program
abbrev pub code_of : check.Program → Program
code_of program =
    let functions = functions_code program.pieces 0 program.functions in
    record {
      functions = functions;
      prints = functions_prints program.functions;
      main = program.main;
      private_cells = program.private_cells;
      cells = program.shared_cells;
      locks = program.locks;
      bars = program.barriers;
      deepest = highest deepest_in functions;
      widest = highest (λ f. f.slots) functions;
    }
