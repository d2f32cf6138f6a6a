-- What a syntax tree shows, wherever it lies in memory.
use Rattle.std.specs.Prelude.{List, [], ◌∷◌, map, Option, Some, None}
use Rattle.dsm_syntax.specs.declared.tree.Expression as e
use Rattle.dsm_syntax.specs.declared.tree.Place as p
use Rattle.dsm_syntax.specs.declared.tree.Expression.{Expression, Number, Paren', Call', Unary', Binary', Choice', Assign', Row_of-Expression, end_of-Expression, more_of-Expression}
use Rattle.dsm_syntax.specs.declared.tree.Place.{Place, Single, Element'}
use Rattle.dsm_syntax.specs.declared.tree.Initial.{Initial}
use Rattle.dsm_syntax.specs.declared.tree.Variable.{Variable}
use Rattle.dsm_syntax.specs.declared.tree.Part.{Part}
use Rattle.dsm_syntax.specs.declared.tree.Part.TheVariants as part
use Rattle.dsm_syntax.specs.declared.tree.ForStart.{ForStart}
use Rattle.dsm_syntax.specs.declared.tree.ForStart.TheVariants as start
use Rattle.dsm_syntax.specs.declared.tree.Statement as s
use Rattle.dsm_syntax.specs.declared.tree.Statement.{Statement, Block', If', IfElse', While', For', Row_of-Statement, end_of-Statement, more_of-Statement}
use Rattle.dsm_syntax.specs.declared.tree.Params.{Params}
use Rattle.dsm_syntax.specs.declared.tree.Params.TheVariants as params
use Rattle.dsm_syntax.specs.declared.tree.Function.{Function}
use Rattle.dsm_syntax.specs.declared.tree.Item.{Item}
use Rattle.dsm_syntax.specs.declared.tree.Item.TheVariants as i
use Rattle.dsm_syntax.specs.Tree as t

-- expressions and places, without what the code keeps beside them
abbrev mutual
  pub view : Expression → t.Expression
  view (Number n) = t.number n
  view (e.Place place) = t.at (view_place place)
  view (Paren' p x) = t.paren (view x)
  view (Call' name n arguments) = t.call name (view_row arguments)
  view (Unary' op line p x) = t.unary op line (view x)
  view (e.Prefix op line place) = t.prefix op line (view_place place)
  view (e.Postfix place op line) = t.postfix (view_place place) op line
  view (Binary' p x op line q y) = t.binary (view x) op line (view y)
  view (Choice' p x line q y r z) = t.choice (view x) line (view y) (view z)
  view (Assign' place op line p x) = t.assign (view_place place) op line (view x)

  pub view_place : Place → t.Place
  view_place (Single name) = t.single name
  view_place (Element' name p x) = t.element name (view x)

  pub view_row : {n : _} → Row_of-Expression n → t.Expressions
  view_row end_of-Expression = t.nil
  view_row (more_of-Expression x rest) = t.cons (view x) (view_row rest)

-- expressions, in order
abbrev pub views : List Expression → t.Expressions
views [] = t.nil
views (x ∷ rest) = t.cons (view x) (views rest)

-- what a variable begins with
abbrev pub view_initial : Initial → t.Initial
view_initial initial = record { line = initial.line; value = view initial.value }

-- what may be absent
abbrev pub option_view : {A B : Type 0} → (A → B) → Option A → Option B
option_view see None = None
option_view see (Some a) = Some (see a)

-- a variable
abbrev pub view_variable : Variable → t.Variable
view_variable variable = record { name = variable.name; initial = option_view view_initial variable.initial }

-- a part of a print
abbrev pub view_part : Part → t.Part
view_part (part.Text text) = t.part_text text
view_part (part.Value x) = t.part_value (view x)

-- what stands first in the head of a `for`
abbrev pub view_start : ForStart → t.ForStart
view_start start.Nothing = t.start_nothing
view_start (start.Variables variables) = t.start_variables (map view_variable variables.items)
view_start (start.Expression x) = t.start_expression (view x)

-- statements, one and many
abbrev mutual
  pub view_statement : Statement → t.Statement
  view_statement (Block' n statements) = t.block (view_statement_row statements)
  view_statement s.Empty = t.empty
  view_statement (s.Variables variables) = t.variables (map view_variable variables.items)
  view_statement (s.Expression x) = t.expression (view x)
  view_statement (If' test p body) = t.when (view test) (view_statement body)
  view_statement (IfElse' test p body q other) = t.either (view test) (view_statement body) (view_statement other)
  view_statement (While' test p body) = t.while (view test) (view_statement body)
  view_statement (For' start test step p body) =
      t.for (view_start start) (option_view view test) (option_view view step) (view_statement body)
  view_statement (s.Break line) = t.break line
  view_statement (s.Continue line) = t.continue line
  view_statement (s.Return line value) = t.return line (option_view view value)
  view_statement (s.Acquire place) = t.acquire (view_place place)
  view_statement (s.AcquireShared place) = t.acquire_shared (view_place place)
  view_statement (s.Release place) = t.release (view_place place)
  view_statement (s.Barrier name) = t.barrier name
  view_statement (s.Print parts) = t.print (map view_part parts.items)

  pub view_statement_row : {n : _} → Row_of-Statement n → t.Statements
  view_statement_row end_of-Statement = t.none
  view_statement_row (more_of-Statement statement rest) = t.then (view_statement statement) (view_statement_row rest)

-- statements, in order
abbrev pub view_statements : List Statement → t.Statements
view_statements [] = t.none
view_statements (statement ∷ rest) = t.then (view_statement statement) (view_statements rest)

-- parameters
abbrev pub view_params : Params → t.Params
view_params params.Nothing = t.no_params
view_params params.Void = t.void_params
view_params (params.Names names) = t.named_params names.items

-- a function
abbrev pub view_function : Function → t.Function
view_function function = record {
  returns = function.returns;
  name = function.name;
  params = view_params function.params;
  body = view_statements function.body.items;
}

-- an item
abbrev pub view_item : Item → t.Item
view_item (i.Data sharing cells) = t.cells sharing cells.items
view_item (i.Locks locks) = t.locks locks.items
view_item (i.Barriers barriers) = t.barriers barriers.items
view_item (i.Bind bind) = t.bind bind
view_item (i.BindEach bind) = t.bind_each bind
view_item (i.BindBarrier bind) = t.bind_barrier bind
view_item (i.Function function) = t.function (view_function function)

-- items, in order
abbrev pub view_items : List Item → List t.Item
view_items items = map view_item items
