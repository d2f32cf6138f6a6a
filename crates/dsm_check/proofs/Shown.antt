-- What a program with every name resolved shows of the lists in it.
use Rattle.std.proofs.Common.{◌≡◌, ℕ, refl, ap, ◌∙◌, Vec, Global}
use mathlib.Core.Former.{Count}
use Rattle.dsm_check.specs.declared.resolved.Expression.{Expression, Call, Call', Row_of-Expression, end_of-Expression, more_of-Expression, items-the_row-Expression, items_hidden-the_row-Expression-0}
use Rattle.dsm_check.specs.declared.resolved.Statement.{Statement, Block, Block', Row_of-Statement, end_of-Statement, more_of-Statement, items-the_row-Statement, items_hidden-the_row-Statement-0}
use Rattle.dsm_check.specs.Resolved as r
use Rattle.dsm_check.specs.Views.{view, view_row, views, view_statement, view_statement_row, view_statements}

of_row : (n : Count) (row : Row_of-Expression n) → view_row row ≡ views (items-the_row-Expression n row)
of_row n end_of-Expression = refl
of_row n (more_of-Expression e rest) = ap (r.cons (view e)) (of_row _ rest)

abbrev row_of : Expression → (n : Count) × Row_of-Expression n
row_of (Call' function n row line) = (_, row)
row_of _ = (_, end_of-Expression)

pub view_call : (function : ℕ) (arguments : Vec Expression Global) (line : ℕ) → view (Call function arguments line) ≡ r.call function (views arguments.items) line
view_call function arguments line =
    let row = row_of (Call function arguments line) in
    ap (λ x. r.call function x line) (of_row row.0 row.1 ∙ ap views (items_hidden-the_row-Expression-0 arguments))

of_statement_row : (n : Count) (row : Row_of-Statement n) → view_statement_row row ≡ view_statements (items-the_row-Statement n row)
of_statement_row n end_of-Statement = refl
of_statement_row n (more_of-Statement s rest) = ap (r.then (view_statement s)) (of_statement_row _ rest)

abbrev statement_row_of : Statement → (n : Count) × Row_of-Statement n
statement_row_of (Block' n row) = (_, row)
statement_row_of _ = (_, end_of-Statement)

pub view_block : (statements : Vec Statement Global) → view_statement (Block statements) ≡ r.block (view_statements statements.items)
view_block statements =
    let row = statement_row_of (Block statements) in
    ap r.block (of_statement_row row.0 row.1 ∙ ap view_statements (items_hidden-the_row-Statement-0 statements))
