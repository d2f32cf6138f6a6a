-- Code that is written from its end on.
use Rattle.std.specs.Prelude.{List, ◌++◌, length, Option, Some, None}
use Rattle.std.specs.Borrow.{Bor}
use Rattle.dsm_base.specs.declared.setup.Piece.{Piece}
use Rattle.dsm_check.specs.declared.resolved.Expression.{Expression}
use Rattle.dsm_check.specs.Resolved as r
use Rattle.dsm_check.specs.Views.{view}
use Rattle.dsm_code.specs.declared.parts.Row.{Row}
use Rattle.dsm_code.specs.declared.parts.PrintPart.{PrintPart}
use Rattle.dsm_laws_code.specs.Statements.{Exits, statement_code, statements_code, statement_prints, statements_prints}
use Rattle.dsm_compile.specs.declared.writer.Exits as declared

-- the program's pieces, the code that is written of a function, and the prints that are written of the program
pub record Draft : Type 0 where
  pub pieces : List Piece
  pub rows : List Row
  pub prints : List (List PrintPart)

-- with this code before what is written
abbrev pub with_code : List Row → Draft → Draft
with_code code draft = record draft { rows = code ++ draft.rows }

-- with a statement before what is written
abbrev pub with_statement : Exits → r.Statement → Draft → Draft
with_statement exits statement draft = record draft {
  rows = statement_code draft.pieces exits (length draft.prints) statement ++ draft.rows;
  prints = draft.prints ++ statement_prints statement;
}

-- with statements before what is written
abbrev pub with_statements : Exits → r.Statements → Draft → Draft
with_statements exits statements draft = record draft {
  rows = statements_code draft.pieces exits (length draft.prints) statements ++ draft.rows;
  prints = draft.prints ++ statements_prints statements;
}

-- where `break` and `continue` lead
abbrev pub exits_of : declared.Exits → Exits
exits_of exits = record { loop = exits.after_loop; body = exits.after_body }

-- an expression that may be missing
abbrev pub borrowed : Option (Bor Expression) → Option r.Expression
borrowed None = None
borrowed (Some e) = Some (view e.now)
