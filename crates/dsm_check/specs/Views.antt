-- What a program with every name resolved shows, wherever it lies in memory.
use Rattle.std.specs.Prelude.{List, [], ◌∷◌, map}
use Rattle.dsm_syntax.specs.Views.{option_view}
use Rattle.dsm_check.specs.declared.resolved.Expression as e
use Rattle.dsm_check.specs.declared.resolved.Expression.{Expression, Number, Call', Unary', Binary', Choice', Assign', Row_of-Expression, end_of-Expression, more_of-Expression}
use Rattle.dsm_check.specs.declared.resolved.Location as l
use Rattle.dsm_check.specs.declared.resolved.Location.{Location, Element'}
use Rattle.dsm_check.specs.declared.resolved.Variable.{Variable}
use Rattle.dsm_check.specs.declared.resolved.Part.{Part}
use Rattle.dsm_check.specs.declared.resolved.Part.TheVariants as part
use Rattle.dsm_check.specs.declared.resolved.ForStart.{ForStart}
use Rattle.dsm_check.specs.declared.resolved.ForStart.TheVariants as start
use Rattle.dsm_check.specs.declared.resolved.LockPlace.{LockPlace}
use Rattle.dsm_check.specs.declared.resolved.LockPlace.TheVariants as lock
use Rattle.dsm_check.specs.declared.resolved.Statement as s
use Rattle.dsm_check.specs.declared.resolved.Statement.{Statement, Block', If', IfElse', While', For', Row_of-Statement, end_of-Statement, more_of-Statement}
use Rattle.dsm_check.specs.declared.resolved.Function.{Function}
use Rattle.dsm_check.specs.Resolved as r

-- expressions and places, without what the code keeps beside them
abbrev mutual
  pub view : Expression → r.Expression
  view (Number n) = r.number n
  view (e.Load location) = r.load (view_location location)
  view (Call' function n arguments line) = r.call function (view_row arguments) line
  view (Unary' op line p x) = r.unary op line (view x)
  view (e.Prefix op line location) = r.prefix op line (view_location location)
  view (e.Postfix location op line) = r.postfix (view_location location) op line
  view (Binary' p x op line q y) = r.binary (view x) op line (view y)
  view (Choice' p x q y o z) = r.choice (view x) (view y) (view z)
  view (Assign' location op line p x) = r.assign (view_location location) op line (view x)

  pub view_location : Location → r.Location
  view_location (l.Variable slot) = r.variable slot
  view_location (l.Cell sharing number line) = r.cell sharing number line
  view_location (Element' sharing array p x line) = r.element sharing array (view x) line

  pub view_row : {n : _} → Row_of-Expression n → r.Expressions
  view_row end_of-Expression = r.nil
  view_row (more_of-Expression x rest) = r.cons (view x) (view_row rest)

-- expressions, one after another
abbrev pub views : List Expression → r.Expressions
views [] = r.nil
views (x ∷ rest) = r.cons (view x) (views rest)

-- a variable
abbrev pub view_variable : Variable → r.Variable
view_variable variable = record { slot = variable.slot; initial = option_view view variable.initial }

-- a part of what is printed
abbrev pub view_part : Part → r.Part
view_part (part.Text text) = r.part_text text
view_part (part.Value x) = r.part_value (view x)

-- the start of a `for`
abbrev pub view_start : ForStart → r.ForStart
view_start start.Nothing = r.start_nothing
view_start (start.Variables variables) = r.start_variables (map view_variable variables.items)
view_start (start.Expression x) = r.start_expression (view x)

-- a lock
abbrev pub view_lock : LockPlace → r.LockPlace
view_lock (lock.Single number line) = r.one_lock number line
view_lock (lock.Element array x line) = r.lock_element array (view x) line

-- statements, one and many
abbrev mutual
  pub view_statement : Statement → r.Statement
  view_statement (Block' n statements) = r.block (view_statement_row statements)
  view_statement s.Empty = r.empty
  view_statement (s.Variables variables) = r.variables (map view_variable variables.items)
  view_statement (s.Expression x) = r.expression (view x)
  view_statement (If' test p body) = r.when (view test) (view_statement body)
  view_statement (IfElse' test p body q other) = r.either (view test) (view_statement body) (view_statement other)
  view_statement (While' test p body) = r.while (view test) (view_statement body)
  view_statement (For' start test step p body) =
      r.for (view_start start) (option_view view test) (option_view view step) (view_statement body)
  view_statement s.Break = r.break
  view_statement s.Continue = r.continue
  view_statement (s.Return value) = r.return (option_view view value)
  view_statement (s.Acquire place mode) = r.acquire (view_lock place) mode
  view_statement (s.Release place) = r.release (view_lock place)
  view_statement (s.Barrier bar) = r.barrier bar
  view_statement (s.Print parts) = r.print (map view_part parts.items)

  pub view_statement_row : {n : _} → Row_of-Statement n → r.Statements
  view_statement_row end_of-Statement = r.none
  view_statement_row (more_of-Statement statement rest) = r.then (view_statement statement) (view_statement_row rest)

-- statements, one after another
abbrev pub view_statements : List Statement → r.Statements
view_statements [] = r.none
view_statements (statement ∷ rest) = r.then (view_statement statement) (view_statements rest)

-- a function
abbrev pub view_function : Function → r.Function
view_function function = record {
  name = function.name;
  params = function.params;
  slots = function.slots;
  names = function.names;
  body = view_statements function.body.items;
}
