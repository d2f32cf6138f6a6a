-- What a checked program shows.
use Rattle.std.specs.Prelude.{◌≡◌, ◌≤◌, ℕ, IsTrue, List, map, Ok}
use Rattle.dsm_base.specs.declared.setup.Piece.{Piece}
use Rattle.dsm_syntax.specs.Tree.{Item}
use Rattle.dsm_syntax.specs.Sound.{is_sound_program}
use Rattle.dsm_syntax.specs.Heights.{height_program}
use Rattle.dsm_check.specs.declared.names.Names.{Names}
use Rattle.dsm_check.specs.declared.resolved.Function.{Function}
use Rattle.dsm_check.specs.Views.{view_function}
use Rattle.dsm_check.specs.FileTables.{names_of}
use Rattle.dsm_check.specs.Programs.{Program, checked}

-- a program that is what the rules make of the items of a tree that isn't too high
abbrev pub IsAccepted : Program → Type 0
IsAccepted program = (items : List Item) × IsTrue (is_sound_program items) × (checked items ≡ Ok program) × (height_program items ≤ 64)

-- a program of its parts
abbrev pub program_from : Names → ℕ → ℕ → ℕ → ℕ → ℕ → List Piece → List Function → Program
program_from names main shared_cells private_cells locks barriers pieces functions = record {
  names = names_of names;
  main = main;
  shared_cells = shared_cells;
  private_cells = private_cells;
  locks = locks;
  barriers = barriers;
  pieces = pieces;
  functions = map view_function functions;
}
