-- What a tree shows of the lists in it.
use Rattle.std.proofs.Common.{◌≡◌, ℕ, List, [], ◌∷◌, ◌++◌, refl, ap, ◌∙◌, Vec, Global}
use mathlib.Core.Former.{Count}
use Rattle.dsm_syntax.specs.declared.tree.Name.{Name}
use Rattle.dsm_syntax.specs.declared.tree.Expression.{Expression, Call, Call', Row_of-Expression, end_of-Expression, more_of-Expression, items-the_row-Expression, items_hidden-the_row-Expression-0}
use Rattle.dsm_syntax.specs.declared.tree.Statement.{Statement, Block, Block', Row_of-Statement, end_of-Statement, more_of-Statement, items-the_row-Statement, items_hidden-the_row-Statement-0}
use Rattle.dsm_syntax.specs.Tree as t
use Rattle.dsm_syntax.specs.Views.{view, view_row, views, view_statement, view_statement_row, view_statements}

of_row : (n : Count) (row : Row_of-Expression n) → view_row row ≡ views (items-the_row-Expression n row)
of_row n end_of-Expression = refl
of_row n (more_of-Expression e rest) = ap (t.cons (view e)) (of_row _ rest)

abbrev row_of : Expression → (n : Count) × Row_of-Expression n
row_of (Call' name n row) = (_, row)
row_of _ = (_, end_of-Expression)

pub view_call : (name : Name) (arguments : Vec Expression Global) → view (Call name arguments) ≡ t.call name (views arguments.items)
view_call name arguments =
    let row = row_of (Call name arguments) in
    ap (t.call name) (of_row row.0 row.1 ∙ ap views (items_hidden-the_row-Expression-0 arguments))

of_statement_row : (n : Count) (row : Row_of-Statement n) → view_statement_row row ≡ view_statements (items-the_row-Statement n row)
of_statement_row n end_of-Statement = refl
of_statement_row n (more_of-Statement s rest) = ap (t.then (view_statement s)) (of_statement_row _ rest)

abbrev statement_row_of : Statement → (n : Count) × Row_of-Statement n
statement_row_of (Block' n row) = (_, row)
statement_row_of _ = (_, end_of-Statement)

pub view_block : (statements : Vec Statement Global) → view_statement (Block statements) ≡ t.block (view_statements statements.items)
view_block statements =
    let row = statement_row_of (Block statements) in
    ap t.block (of_statement_row row.0 row.1 ∙ ap view_statements (items_hidden-the_row-Statement-0 statements))
