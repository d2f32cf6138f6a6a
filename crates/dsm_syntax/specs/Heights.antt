-- How high a tree is: the most nodes on a way down. Statements, function bodies, operators, assignments, calls,
-- indexings, pairs of parentheses, names and numbers are nodes; strings, types and words are none.
use Rattle.std.specs.Prelude.{ℕ, ◌+◌, max, List, [], ◌∷◌, Option, Some, None}
use Rattle.dsm_syntax.specs.Tree.{Place, single, element, Expression, number, at, paren, call, unary, prefix, postfix, binary, choice, assign, Expressions, nil, cons, Variable, Part, part_text, part_value, ForStart, start_nothing, start_variables, start_expression, Statement, block, empty, variables, expression, when, either, while, for, break, continue, return, acquire, acquire_shared, release, barrier, print, Statements, none, then, Item, function}

-- the greatest, or 0
abbrev pub highest : {A : Type 0} → (A → ℕ) → List A → ℕ
highest height [] = 0
highest height (a ∷ rest) = max (height a) (highest height rest)

-- of what may be absent: 0 where it is
abbrev pub height_option : {A : Type 0} → (A → ℕ) → Option A → ℕ
height_option height None = 0
height_option height (Some a) = height a

-- how high the tree of a place or an expression is
abbrev mutual
  pub height_place : Place → ℕ
  height_place (single name) = 1
  height_place (element name index) = max 1 (height index) + 1

  pub height : Expression → ℕ
  height (number value) = 1
  height (at place) = height_place place
  height (paren e) = height e + 1
  height (call name arguments) = max 1 (height_arguments arguments) + 1
  height (unary op line e) = height e + 1
  height (prefix op line place) = height_place place + 1
  height (postfix place op line) = height_place place + 1
  height (binary a op line b) = max (height a) (height b) + 1
  height (choice test line a b) = max (height test) (max (height a) (height b)) + 1
  height (assign place op line e) = max (height_place place) (height e) + 1

  pub height_arguments : Expressions → ℕ
  height_arguments nil = 0
  height_arguments (cons e rest) = max (height e) (height_arguments rest)

-- of a declared name with what it begins with
abbrev pub height_variable : Variable → ℕ
height_variable variable = max 1 (height_option (λ initial. height initial.value) variable.initial)

-- of a part of a print: a string is no node
abbrev pub height_part : Part → ℕ
height_part (part_text held) = 0
height_part (part_value e) = height e

-- of what stands first in the head of a `for`
abbrev pub height_start : ForStart → ℕ
height_start start_nothing = 0
height_start (start_variables all) = highest height_variable all
height_start (start_expression e) = height e

-- how high the tree of a statement is, or of many
abbrev mutual
  pub height_statement : Statement → ℕ
  height_statement (block body) = height_statements body + 1
  height_statement empty = 1
  height_statement (variables all) = highest height_variable all + 1
  height_statement (expression e) = height e + 1
  height_statement (when test body) = max (height test) (height_statement body) + 1
  height_statement (either test body other) = max (height test) (max (height_statement body) (height_statement other)) + 1
  height_statement (while test body) = max (height test) (height_statement body) + 1
  height_statement (for start test step body) =
      max (max (height_start start) (height_option height test)) (max (height_option height step) (height_statement body)) + 1
  height_statement (break line) = 1
  height_statement (continue line) = 1
  height_statement (return line value) = height_option height value + 1
  height_statement (acquire place) = height_place place + 1
  height_statement (acquire_shared place) = height_place place + 1
  height_statement (release place) = height_place place + 1
  height_statement (barrier name) = 2
  height_statement (print parts) = highest height_part parts + 1

  pub height_statements : Statements → ℕ
  height_statements none = 0
  height_statements (then statement rest) = max (height_statement statement) (height_statements rest)

-- from the body down; what isn't a function has no height
abbrev pub height_item : Item → ℕ
height_item (function f) = height_statements f.body + 1
height_item _ = 0

-- the highest function's
abbrev pub height_program : List Item → ℕ
height_program items = highest height_item items
