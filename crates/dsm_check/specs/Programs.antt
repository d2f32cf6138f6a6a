-- Which programs are accepted, and what they are with every name resolved.
use Rattle.std.specs.Prelude.{ℕ, List, Ok}
use Rattle.dsm_base.specs.declared.setup.Piece.{Piece}
use Rattle.dsm_syntax.specs.declared.tree.Sharing.{Sharing}
use Rattle.dsm_syntax.specs.Tree as t
use Rattle.dsm_check.specs.Resolved as r
use Rattle.dsm_check.specs.Environments.{Entry, meaning, total, cells_in, locks_in, barriers_in}
use Rattle.dsm_check.specs.Checks.{Check, ◌>>=◌}
use Rattle.dsm_check.specs.FileNames.{file_names, main_of, main_name}
use Rattle.dsm_check.specs.Bindings.{pieces_of}
use Rattle.dsm_check.specs.Bodies.{functions_of}

-- a program with every name resolved
pub record Program : Type 0 where
  -- the names of the file, the newest first
  pub names : List Entry
  -- the number of `main`
  pub main : ℕ
  pub shared_cells : ℕ
  pub private_cells : ℕ
  pub locks : ℕ
  pub barriers : ℕ
  pub pieces : List Piece
  pub functions : List r.Function

-- the program, or the first fault: in the names of the file, then in `main`, then in the bindings, then in the bodies
abbrev pub checked : List t.Item → Check Program
checked items = do
  names ← file_names items
  main ← main_of (meaning names main_name)
  pieces ← pieces_of names items
  functions ← functions_of names items
  Ok (record {
    names = names;
    main = main;
    shared_cells = total (cells_in Sharing.Shared) names;
    private_cells = total (cells_in Sharing.Private) names;
    locks = total locks_in names;
    barriers = total barriers_in names;
    pieces = pieces;
    functions = functions;
  })
