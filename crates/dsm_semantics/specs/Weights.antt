-- How many unlabelled steps there can be at most: each leaves less to be done, for jumps back, calls and returns have labels.
use Rattle.std.specs.Prelude.{ℕ, ◌+◌, List, [], ◌∷◌, Option, Some, None}
use Rattle.dsm_check.specs.Resolved as r
use Rattle.dsm_semantics.specs.States.{Loop, Item, evaluate, evaluate_all, and_then, or_else, choose, execute, run, declare, branch, round, decide, third_part, gather}

-- how many steps without a label a place or an expression can still take
abbrev mutual
  -- of what is loaded or stored to
  pub location_weight : r.Location → ℕ
  location_weight (r.variable number) = 0
  location_weight (r.cell sharing number line) = 0
  location_weight (r.element sharing array index line) = expression_weight index + 1

  -- of an expression
  pub expression_weight : r.Expression → ℕ
  expression_weight (r.number n) = 1
  expression_weight (r.load location) = location_weight location + 2
  expression_weight (r.call function arguments line) = arguments_weight arguments + 2
  expression_weight (r.unary op line e) = expression_weight e + 2
  expression_weight (r.prefix op line location) = location_weight location + 4
  expression_weight (r.postfix location op line) = location_weight location + 5
  expression_weight (r.binary a op line b) = expression_weight a + expression_weight b + 3
  expression_weight (r.choice test a b) = expression_weight test + expression_weight a + expression_weight b + 2
  expression_weight (r.assign location op line e) = location_weight location + expression_weight e + 4

  -- of arguments
  pub arguments_weight : r.Expressions → ℕ
  arguments_weight r.nil = 1
  arguments_weight (r.cons e rest) = expression_weight e + arguments_weight rest + 1

-- of an expression that may be missing
abbrev pub option_weight : Option r.Expression → ℕ
option_weight None = 0
option_weight (Some e) = expression_weight e + 1

-- of declarations
abbrev pub variables_weight : List r.Variable → ℕ
variables_weight [] = 1
variables_weight (variable ∷ rest) = option_weight variable.initial + variables_weight rest + 2

-- of the parts of a print
abbrev pub parts_weight : List r.Part → ℕ
parts_weight [] = 1
parts_weight (r.part_text text ∷ rest) = parts_weight rest + 1
parts_weight (r.part_value e ∷ rest) = expression_weight e + parts_weight rest + 1

-- of the first part of a `for`
abbrev pub start_weight : r.ForStart → ℕ
start_weight r.start_nothing = 0
start_weight (r.start_variables variables) = variables_weight variables
start_weight (r.start_expression e) = expression_weight e + 1

-- of a lock
abbrev pub lock_weight : r.LockPlace → ℕ
lock_weight (r.one_lock lock line) = 0
lock_weight (r.lock_element array index line) = expression_weight index + 1

-- of a round, by the weights of the test, the third part and the body
abbrev pub round_weight : ℕ → ℕ → ℕ → ℕ
round_weight test step body = test + step + body + 5

-- the same of a statement, and of many
abbrev mutual
  -- of a statement
  pub statement_weight : r.Statement → ℕ
  statement_weight (r.block body) = statements_weight body + 1
  statement_weight r.empty = 1
  statement_weight (r.variables variables) = variables_weight variables + 1
  statement_weight (r.expression e) = expression_weight e + 2
  statement_weight (r.when test body) = expression_weight test + statement_weight body + 2
  statement_weight (r.either test body other) = expression_weight test + statement_weight body + statement_weight other + 2
  statement_weight (r.while test body) = round_weight (option_weight (Some test)) 0 (statement_weight body) + 1
  statement_weight (r.for start test step body) = start_weight start + round_weight (option_weight test) (option_weight step) (statement_weight body) + 1
  statement_weight r.break = 1
  statement_weight r.continue = 1
  statement_weight (r.return value) = option_weight value + 2
  statement_weight (r.acquire lock mode) = lock_weight lock + 2
  statement_weight (r.release lock) = lock_weight lock + 2
  statement_weight (r.barrier bar) = 1
  statement_weight (r.print parts) = parts_weight parts + 2

  -- of statements
  pub statements_weight : r.Statements → ℕ
  statements_weight r.none = 1
  statements_weight (r.then statement rest) = statement_weight statement + statements_weight rest + 1

-- of the other part of an `if`
abbrev pub other_weight : Option r.Statement → ℕ
other_weight None = 0
other_weight (Some other) = statement_weight other

-- of what comes behind the body
abbrev pub third_part_weight : Loop → ℕ
third_part_weight loop = option_weight loop.step + 2

-- of an item
abbrev pub weight_of : Item → ℕ
weight_of (evaluate e) = expression_weight e
weight_of (evaluate_all arguments) = arguments_weight arguments
weight_of (and_then e) = expression_weight e + 2
weight_of (or_else e) = expression_weight e + 2
weight_of (choose a b) = expression_weight a + expression_weight b + 1
weight_of (execute statement) = statement_weight statement
weight_of (run statements) = statements_weight statements
weight_of (declare variables) = variables_weight variables
weight_of (branch body other) = statement_weight body + other_weight other + 1
weight_of (round loop) = round_weight (option_weight loop.test) (option_weight loop.step) (statement_weight loop.body)
weight_of (decide loop) = statement_weight loop.body + third_part_weight loop + 1
weight_of (third_part loop) = third_part_weight loop
weight_of (gather parts) = parts_weight parts
weight_of _ = 1

-- of all that remains to be done
abbrev pub weight : List Item → ℕ
weight [] = 0
weight (item ∷ k) = weight_of item + weight k
