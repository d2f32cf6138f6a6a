-- What tokens and trees keep of numbers and strings: no number is below 0, and a string holds only what it may.
use Rattle.std.specs.Prelude.{ℕ, ℤ, pos, negsuc, Bool, true, false, ◌&&◌, List, [], ◌∷◌, Option, Some, None}
use Rattle.dsm_syntax.specs.declared.token.Token.{Token}
use Rattle.dsm_syntax.specs.declared.token.TokenKind.{TokenKind}
use Rattle.dsm_syntax.specs.declared.tree.Declarator.{Declarator}
use Rattle.dsm_syntax.specs.declared.tree.Bind.{Bind}
use Rattle.dsm_syntax.specs.declared.tree.BindEach.{BindEach}
use Rattle.dsm_syntax.specs.declared.tree.BindBarrier.{BindBarrier}
use Rattle.dsm_syntax.specs.Bytes.{is_string_byte}
use Rattle.dsm_syntax.specs.Tree.{Place, single, element, Expression, number, at, paren, call, unary, prefix, postfix, binary, choice, assign, Expressions, nil, cons, Initial, Variable, Part, part_text, part_value, ForStart, start_nothing, start_variables, start_expression, Statement, block, empty, variables, expression, when, either, while, for, break, continue, return, acquire, acquire_shared, release, barrier, print, Statements, none, then, Function, Item, cells, locks, barriers, bind, bind_each, bind_barrier, function}

-- the test holds of each
abbrev pub all_are : {A : Type 0} → (A → Bool) → List A → Bool
all_are test [] = true
all_are test (a ∷ rest) = test a && all_are test rest

-- where there is one
abbrev pub is_sound_option : {A : Type 0} → (A → Bool) → Option A → Bool
is_sound_option test None = true
is_sound_option test (Some a) = test a

-- at least 0
abbrev pub is_sound_number : ℤ → Bool
is_sound_number (pos n) = true
is_sound_number (negsuc n) = false

-- each byte is one that a string may hold
abbrev pub is_sound_string : List ℕ → Bool
is_sound_string held = all_are is_string_byte held

-- of a token's kind
abbrev pub is_sound_kind : TokenKind → Bool
is_sound_kind (TokenKind.Name name) = true
is_sound_kind (TokenKind.Number value) = is_sound_number value
is_sound_kind (TokenKind.Str held) = is_sound_string held
is_sound_kind (TokenKind.Word word) = true
is_sound_kind (TokenKind.Sign sign) = true

-- of tokens
abbrev pub are_sound : List Token → Bool
are_sound tokens = all_are (λ token. is_sound_kind token.kind) tokens

-- whether a place or an expression has only what a text can spell
abbrev mutual
  pub is_sound_place : Place → Bool
  is_sound_place (single name) = true
  is_sound_place (element name index) = is_sound index

  pub is_sound : Expression → Bool
  is_sound (number value) = is_sound_number value
  is_sound (at place) = is_sound_place place
  is_sound (paren e) = is_sound e
  is_sound (call name arguments) = are_sound_arguments arguments
  is_sound (unary op line e) = is_sound e
  is_sound (prefix op line place) = is_sound_place place
  is_sound (postfix place op line) = is_sound_place place
  is_sound (binary a op line b) = is_sound a && is_sound b
  is_sound (choice test line a b) = is_sound test && is_sound a && is_sound b
  is_sound (assign place op line e) = is_sound_place place && is_sound e

  pub are_sound_arguments : Expressions → Bool
  are_sound_arguments nil = true
  are_sound_arguments (cons e rest) = is_sound e && are_sound_arguments rest

-- of a variable: of what it begins with
abbrev pub is_sound_variable : Variable → Bool
is_sound_variable variable = is_sound_option (λ initial. is_sound initial.value) variable.initial

-- of a part of a print
abbrev pub is_sound_part : Part → Bool
is_sound_part (part_text held) = is_sound_string held
is_sound_part (part_value e) = is_sound e

-- of what stands first in the head of a `for`
abbrev pub is_sound_start : ForStart → Bool
is_sound_start start_nothing = true
is_sound_start (start_variables all) = all_are is_sound_variable all
is_sound_start (start_expression e) = is_sound e

-- the same of a statement, and of many
abbrev mutual
  pub is_sound_statement : Statement → Bool
  is_sound_statement (block body) = are_sound_statements body
  is_sound_statement empty = true
  is_sound_statement (variables all) = all_are is_sound_variable all
  is_sound_statement (expression e) = is_sound e
  is_sound_statement (when test body) = is_sound test && is_sound_statement body
  is_sound_statement (either test body other) = is_sound test && is_sound_statement body && is_sound_statement other
  is_sound_statement (while test body) = is_sound test && is_sound_statement body
  is_sound_statement (for start test step body) =
      is_sound_start start && is_sound_option is_sound test && is_sound_option is_sound step && is_sound_statement body
  is_sound_statement (break line) = true
  is_sound_statement (continue line) = true
  is_sound_statement (return line value) = is_sound_option is_sound value
  is_sound_statement (acquire place) = is_sound_place place
  is_sound_statement (acquire_shared place) = is_sound_place place
  is_sound_statement (release place) = is_sound_place place
  is_sound_statement (barrier name) = true
  is_sound_statement (print parts) = all_are is_sound_part parts

  pub are_sound_statements : Statements → Bool
  are_sound_statements none = true
  are_sound_statements (then statement rest) = is_sound_statement statement && are_sound_statements rest

-- of a declared name: of its size
abbrev pub is_sound_declarator : Declarator → Bool
is_sound_declarator declarator = is_sound_option is_sound_number declarator.size

-- of `bind`: of its index and its cells
abbrev pub is_sound_bind : Bind → Bool
is_sound_bind b = is_sound_option is_sound_number b.index && is_sound_number b.first && is_sound_number b.count

-- of `bindb`: of its cells, its owner and when it is its owner's
abbrev pub is_sound_bind_barrier : BindBarrier → Bool
is_sound_bind_barrier b =
    is_sound_number b.first && is_sound_number b.count && is_sound_number b.owner && is_sound_number b.phase && is_sound_number b.period

-- of an item
abbrev pub is_sound_item : Item → Bool
is_sound_item (cells sharing all) = all_are is_sound_declarator all
is_sound_item (locks all) = all_are is_sound_declarator all
is_sound_item (barriers all) = true
is_sound_item (bind b) = is_sound_bind b
is_sound_item (bind_each b) = is_sound_number b.count
is_sound_item (bind_barrier b) = is_sound_bind_barrier b
is_sound_item (function f) = are_sound_statements f.body

-- of a program: of each item
abbrev pub is_sound_program : List Item → Bool
is_sound_program items = all_are is_sound_item items
