-- The code of expressions. It finds so many operands, and leaves its value above them.
use Rattle.std.specs.Prelude.{ℕ, ◌+◌, ℤ, pos, List, [], ◌∷◌, ◌++◌, length, Option, Some, None}
use Rattle.dsm_base.specs.declared.setup.Piece.{Piece}
use Rattle.dsm_syntax.specs.declared.tree.BinaryOp.{BinaryOp}
use Rattle.dsm_check.specs.Resolved as r
use Rattle.dsm_semantics.specs.Assignments.{operator_of}
use Rattle.dsm_semantics.specs.Semantics.{place_of}
use Rattle.dsm_code.specs.declared.instruction.Use.{Use}
use Rattle.dsm_code.specs.declared.instruction.Instr.{Instr}
use Rattle.dsm_code.specs.declared.parts.Row.{Row}
use Rattle.dsm_laws_code.specs.Instructions.{row, array_of, loading, storing, depth_at}

-- the operands before the second operand of an operator: `&&` and `||` have taken the first one
abbrev pub second_depth : BinaryOp → ℕ → ℕ
second_depth BinaryOp.And depth = depth
second_depth BinaryOp.Or depth = depth
second_depth op depth = depth + 1

-- what comes behind the first operand of `&&`: where it is 0, the value is 0
abbrev pub and_code : ℕ → List Row → List Row
and_code depth second =
    row (depth + 1) (Instr.SkipIfZero (length second + 2)) ∷ (second ++ (row (depth + 1) Instr.ToTruth ∷ row (depth + 1) (Instr.GoOn 1) ∷ row depth (Instr.Push (pos 0)) ∷ []))

-- what comes behind the first operand of `||`: where it isn't 0, the value is 1
abbrev pub or_code : ℕ → List Row → List Row
or_code depth second =
    row (depth + 1) (Instr.SkipIfZero 2) ∷ row depth (Instr.Push (pos 1)) ∷ row (depth + 1) (Instr.GoOn (length second + 1)) ∷ (second ++ (row (depth + 1) Instr.ToTruth ∷ []))

-- what comes behind the first operand of an operator, by the code of the second one
abbrev pub second_code : BinaryOp → ℕ → ℕ → List Row → List Row
second_code BinaryOp.And line depth second = and_code depth second
second_code BinaryOp.Or line depth second = or_code depth second
second_code op line depth second = second ++ (row (depth + 2) (Instr.Binary op line) ∷ [])

-- one of two parts, by the value on top; behind the first one so many operands are there
abbrev pub chosen_code : ℕ → ℕ → List Row → List Row → List Row
chosen_code depth after one other = row depth (Instr.SkipIfZero (length one + 1)) ∷ (one ++ (row after (Instr.GoOn (length other)) ∷ other))

-- the operands before the value that is assigned: where the place is loaded first, its value is one more
abbrev pub assigned_depth : Option BinaryOp → ℕ → ℕ
assigned_depth None depth = depth
assigned_depth (Some op) depth = depth + 1

-- what an assignment does behind the index of its place, by the load, the store and the code of the value
abbrev pub assigning_code : Option BinaryOp → ℕ → ℕ → Instr → Instr → List Row → List Row
assigning_code None line depth load store value = value ++ (row (depth + 1) store ∷ [])
assigning_code (Some op) line depth load store value = row depth load ∷ (value ++ (row (depth + 2) (Instr.Binary op line) ∷ row (depth + 1) store ∷ []))

-- how many arguments there are
abbrev pub count_of : r.Expressions → ℕ
count_of r.nil = 0
count_of (r.cons e rest) = count_of rest + 1

abbrev mutual
  -- the index of a location, if it has one, which is tested
  pub reaching_code : List Piece → ℕ → r.Location → List Row
  reaching_code pieces depth (r.variable number) = []
  reaching_code pieces depth (r.cell sharing number line) = []
  reaching_code pieces depth (r.element sharing array index line) =
      expression_code pieces depth index ++ (row (depth + 1) (Instr.TestIndex (array_of array) line) ∷ [])

  -- what an expression is made of comes first, from the left
  pub expression_code : List Piece → ℕ → r.Expression → List Row
  expression_code pieces depth (r.number n) = row depth (Instr.Push n) ∷ []
  expression_code pieces depth (r.load location) =
      reaching_code pieces depth location ++ (row (depth_at depth location) (loading (place_of location) Use.Value) ∷ [])
  expression_code pieces depth (r.call function arguments line) =
      arguments_code pieces depth arguments ++ (row (depth + count_of arguments) (Instr.Enter function line) ∷ [])
  expression_code pieces depth (r.unary op line e) = expression_code pieces depth e ++ (row (depth + 1) (Instr.Unary op line) ∷ [])
  expression_code pieces depth (r.prefix op line location) =
      let place = place_of location in
      let at = depth_at depth location in
      reaching_code pieces depth location
      ++ (row at (loading place Use.Change) ∷ row (at + 1) (Instr.StepBy op line) ∷ row (at + 1) (storing pieces place) ∷ [])
  expression_code pieces depth (r.postfix location op line) =
      let place = place_of location in
      let at = depth_at depth location in
      reaching_code pieces depth location
      ++ (row at (loading place Use.StepBehind) ∷ row (at + 2) (Instr.StepBy op line) ∷ row (at + 2) (storing pieces place) ∷ row (depth + 2) Instr.Discard ∷ [])
  expression_code pieces depth (r.binary a op line b) =
      expression_code pieces depth a ++ second_code op line depth (expression_code pieces (second_depth op depth) b)
  expression_code pieces depth (r.choice test a b) =
      expression_code pieces depth test ++ chosen_code (depth + 1) (depth + 1) (expression_code pieces depth a) (expression_code pieces depth b)
  expression_code pieces depth (r.assign location op line e) =
      let place = place_of location in
      let at = depth_at depth location in
      reaching_code pieces depth location
      ++ assigning_code (operator_of op) line at (loading place Use.Change) (storing pieces place) (expression_code pieces (assigned_depth (operator_of op) at) e)

  -- arguments from the left
  pub arguments_code : List Piece → ℕ → r.Expressions → List Row
  arguments_code pieces depth r.nil = []
  arguments_code pieces depth (r.cons e rest) = expression_code pieces depth e ++ arguments_code pieces (depth + 1) rest
