-- Expressions and places from the left.
use Rattle.std.specs.Prelude.{ℕ, zero, suc, ◌+◌, Bool, if◌then◌else◌, nat_lt, List, [], ◌∷◌, Option, Some, None}
use Rattle.dsm_syntax.specs.declared.sign.Sign.{Sign}
use Rattle.dsm_syntax.specs.declared.tree.Name.{Name}
use Rattle.dsm_syntax.specs.declared.tree.StepOp.{StepOp}
use Rattle.dsm_syntax.specs.Tree.{Place, single, element, Expression, number, at, paren, call, unary, prefix, postfix, binary, choice, assign, Expressions, nil, cons}
use Rattle.dsm_syntax.specs.declared.operator.Infix.{Infix}
use Rattle.dsm_syntax.specs.declared.operator.Lead.{Lead}
use Rattle.dsm_syntax.specs.Operators.{binary_level}
use Rattle.dsm_syntax.specs.Heights.{height, height_place}
use Rattle.dsm_syntax.specs.Reading.{ok, unexpected, too_high, Reader, and_then, look, tail, is_sign, after_sign, ended_by, list_of}
use Rattle.dsm_syntax.specs.Tokens.{is_name, read_name}
use Rattle.dsm_syntax.specs.Roles.{lead, begins_expression, step_of, infix_of, tightness}

-- the readers of what is a level lower: an expression that binds at least so tightly, and a place
pub record Lower : Type 0 where
  pub at_least : ℕ → Reader Expression
  pub place : Reader Place

-- a list of arguments as a tree has it
abbrev pub expressions : List Expression → Expressions
expressions [] = nil
expressions (e ∷ rest) = cons e (expressions rest)

-- goes on behind the next token, which makes a node over what is so high, where at most d levels may be below a node
abbrev pub over : {A : Type 0} → ℕ → ℕ → Reader A → Reader A
over d high more tokens = if nat_lt d high then too_high tokens else more (tail tokens)

-- with at most d levels below the node
module _ (d : ℕ) (lower : Lower) where
  -- behind the name that it begins with
  abbrev pub place_behind : Name → Reader Place
  place_behind name tokens =
      if is_sign Sign.BracketOpen tokens
      then over d 1 (λ rest. and_then (lower.at_least 0 rest) (λ index. ended_by Sign.BracketClose (element name index))) tokens
      else ok (single name) tokens

  abbrev pub place_at : Reader Place
  place_at tokens = and_then (read_name tokens) place_behind

  abbrev pub stepped_by : Option (StepOp × ℕ) → Place → Reader Expression
  stepped_by None place tokens = ok (at place) tokens
  stepped_by (Some (op, line)) place tokens = over d (height_place place) (ok (postfix place op line)) tokens

  -- behind a place, where a step may follow
  abbrev pub stepped : Place → Reader Expression
  stepped place tokens = stepped_by (step_of (look tokens)) place tokens

  -- behind the parenthesis that opens a call's arguments
  abbrev pub arguments : Name → Reader Expression
  arguments name tokens =
      if is_sign Sign.ParenClose tokens
      then ok (call name nil) (tail tokens)
      else and_then (list_of (lower.at_least 0) tokens) (λ list. ended_by Sign.ParenClose (call name (expressions list)))

  abbrev pub named_behind : Name → Reader Expression
  named_behind name tokens =
      if is_sign Sign.ParenOpen tokens then over d 1 (arguments name) tokens else and_then (place_behind name tokens) stepped

  abbrev pub operand_by : Lead → Reader Expression
  operand_by (Lead.Number value) tokens = ok (number value) (tail tokens)
  operand_by Lead.Name tokens = and_then (read_name tokens) named_behind
  operand_by Lead.Paren tokens = over d 1 (λ rest. and_then (lower.at_least 0 rest) (λ e. ended_by Sign.ParenClose (paren e))) tokens
  operand_by (Lead.Unary op line) tokens = over d 1 (λ rest. and_then (lower.at_least 12 rest) (λ e. ok (unary op line e))) tokens
  operand_by (Lead.Step op line) tokens = over d 1 (λ rest. and_then (lower.place rest) (λ place. ok (prefix op line place))) tokens
  operand_by Lead.Nothing tokens = unexpected tokens

  -- what stands between operators that have two sides
  abbrev pub operand : Reader Expression
  operand tokens = operand_by (lead (look tokens)) tokens

  abbrev pub assignment : Expression → (Place → Reader Expression) → Reader Expression
  assignment (at place) more tokens = more place tokens
  assignment _ more tokens = unexpected tokens

  -- behind an operator and what stands before it
  abbrev pub operation : Option (Infix × ℕ) → Expression → Reader Expression
  operation None left tokens = unexpected tokens
  operation (Some (Infix.Binary op, line)) left tokens =
      and_then (lower.at_least (binary_level op + 1) tokens) (λ right. ok (binary left op line right))
  operation (Some (Infix.Question, line)) left tokens =
      and_then (lower.at_least 0 tokens) (λ a. after_sign Sign.Colon (λ rest.
      and_then (lower.at_least 1 rest) (λ b. ok (choice left line a b))))
  operation (Some (Infix.Assign op, line)) left tokens =
      assignment left (λ place rest. and_then (lower.at_least 0 rest) (λ e. ok (assign place op line e))) tokens

  -- goes on while what comes next binds more tightly; each turn adds a level, so there are at most so many
  abbrev pub climb : ℕ → ℕ → Expression → Reader Expression
  climb zero least left tokens = if nat_lt least (tightness left (look tokens)) then too_high tokens else ok left tokens
  climb (suc n) least left tokens =
      if nat_lt least (tightness left (look tokens))
      then over d (height left) (λ rest. and_then (operation (infix_of (look tokens)) left rest) (climb n least)) tokens
      else ok left tokens

  abbrev pub at_least : ℕ → Reader Expression
  at_least least tokens = and_then (operand tokens) (climb d least)

-- where not even the least fits
abbrev pub none_fits : {A : Type 0} → Bool → Reader A
none_fits begins tokens = if begins then too_high tokens else unexpected tokens

-- the readers of what has at most so many levels
abbrev pub below : ℕ → Lower
below zero = record {
  at_least = λ least tokens. none_fits (begins_expression (look tokens)) tokens;
  place = λ tokens. none_fits (is_name (look tokens)) tokens;
}
below (suc d) = record { at_least = at_least d (below d); place = place_at d (below d) }

-- an expression of at most so many levels
abbrev pub expression : ℕ → Reader Expression
expression most = (below most).at_least 0

-- a place of at most so many levels
abbrev pub place : ℕ → Reader Place
place most = (below most).place
