-- The code of statements. No operands are there before a statement and behind it.
use Rattle.std.specs.Prelude.{ℕ, ◌+◌, ℤ, pos, List, [], ◌∷◌, ◌++◌, length, Option, Some, None}
use Rattle.dsm_base.specs.declared.setup.Piece.{Piece}
use Rattle.dsm_base.specs.declared.names.Mode.{Mode}
use Rattle.dsm_check.specs.Resolved as r
use Rattle.dsm_semantics.specs.States.{LockPlace}
use Rattle.dsm_semantics.specs.Semantics.{lock_place_of, lock_line}
use Rattle.dsm_code.specs.declared.instruction.Instr.{Instr}
use Rattle.dsm_code.specs.declared.parts.Row.{Row}
use Rattle.dsm_code.specs.declared.parts.PrintPart.{PrintPart}
use Rattle.dsm_code.specs.Programs.{values_in}
use Rattle.dsm_laws_code.specs.Instructions.{row, array_of, lock_target, lock_depth}
use Rattle.dsm_laws_code.specs.Expressions.{expression_code, chosen_code}

-- Prints.

-- the parts of a print, whose values are operands
abbrev pub print_of : List r.Part → List PrintPart
print_of [] = []
print_of (r.part_text text ∷ rest) = PrintPart.Text text ∷ print_of rest
print_of (r.part_value e ∷ rest) = PrintPart.Value ∷ print_of rest

-- the prints of a statement in the order of their numbers: those that stand behind come first
abbrev mutual
  pub statement_prints : r.Statement → List (List PrintPart)
  statement_prints (r.block body) = statements_prints body
  statement_prints (r.when test body) = statement_prints body
  statement_prints (r.either test body other) = statement_prints other ++ statement_prints body
  statement_prints (r.while test body) = statement_prints body
  statement_prints (r.for start test step body) = statement_prints body
  statement_prints (r.print parts) = print_of parts ∷ []
  statement_prints _ = []

  pub statements_prints : r.Statements → List (List PrintPart)
  statements_prints r.none = []
  statements_prints (r.then statement rest) = statements_prints rest ++ statement_prints statement

-- Parts of statements.

-- the variable of a slot is set to its first value, or to 0
abbrev pub initial_code : List Piece → Option r.Expression → List Row
initial_code pieces None = row 0 (Instr.Push (pos 0)) ∷ []
initial_code pieces (Some e) = expression_code pieces 0 e

abbrev pub variables_code : List Piece → List r.Variable → List Row
variables_code pieces [] = []
variables_code pieces (variable ∷ rest) =
    initial_code pieces variable.initial ++ (row 1 (Instr.StoreSlot variable.slot) ∷ row 1 Instr.Discard ∷ variables_code pieces rest)

-- an expression whose value isn't needed
abbrev pub effect_code : List Piece → r.Expression → List Row
effect_code pieces e = expression_code pieces 0 e ++ (row 1 Instr.Discard ∷ [])

-- the same, where there is one
abbrev pub option_code : List Piece → Option r.Expression → List Row
option_code pieces None = []
option_code pieces (Some e) = effect_code pieces e

-- the first part of a `for`
abbrev pub start_code : List Piece → r.ForStart → List Row
start_code pieces r.start_nothing = []
start_code pieces (r.start_variables variables) = variables_code pieces variables
start_code pieces (r.start_expression e) = effect_code pieces e

-- the index of a lock, if it has one, which is tested
abbrev pub reaching_lock_code : List Piece → r.LockPlace → List Row
reaching_lock_code pieces (r.one_lock lock line) = []
reaching_lock_code pieces (r.lock_element array index line) = expression_code pieces 0 index ++ (row 1 (Instr.TestIndex (array_of array) line) ∷ [])

-- the values of a print from the left
abbrev pub parts_code : List Piece → ℕ → List r.Part → List Row
parts_code pieces depth [] = []
parts_code pieces depth (r.part_text text ∷ rest) = parts_code pieces depth rest
parts_code pieces depth (r.part_value e ∷ rest) = expression_code pieces depth e ++ parts_code pieces (depth + 1) rest

-- Loops.

-- how many instructions behind a statement the innermost loop is left, and how many behind it the loop's body ends
pub record Exits : Type 0 where
  pub loop : ℕ
  pub body : ℕ

-- the same from so many instructions before
abbrev pub before : ℕ → Exits → Exits
before count exits = record { loop = exits.loop + count; body = exits.body + count }

-- what comes behind the body, before the jump back
abbrev pub loop_exits : List Row → Exits
loop_exits step = record { loop = length step + 1; body = 0 }

-- the test of a loop, where it has one; where it fails, so many instructions are left out
abbrev pub test_code : List Piece → Option r.Expression → ℕ → List Row
test_code pieces None count = []
test_code pieces (Some e) count = expression_code pieces 0 e ++ (row 1 (Instr.SkipIfZero count) ∷ [])

-- a round of a loop, by the code of its body and its third part
abbrev pub round_code : List Piece → Option r.Expression → List Row → List Row → List Row
round_code pieces test body step = test_code pieces test (length body + (length step + 1)) ++ (body ++ step)

-- a round, and the jump back to its beginning
abbrev pub loop_code : List Piece → Option r.Expression → List Row → List Row → List Row
loop_code pieces test body step = round_code pieces test body step ++ (row 0 (Instr.GoBack (length (round_code pieces test body step))) ∷ [])

-- Statements. `prints` is the number of the first of their prints.

abbrev mutual
  pub statement_code : List Piece → Exits → ℕ → r.Statement → List Row
  statement_code pieces exits prints (r.block body) = statements_code pieces exits prints body
  statement_code pieces exits prints r.empty = []
  statement_code pieces exits prints (r.variables variables) = variables_code pieces variables
  statement_code pieces exits prints (r.expression e) = effect_code pieces e
  statement_code pieces exits prints (r.when test body) =
      let one = statement_code pieces exits prints body in
      expression_code pieces 0 test ++ (row 1 (Instr.SkipIfZero (length one)) ∷ one)
  statement_code pieces exits prints (r.either test body other) =
      let two = statement_code pieces exits prints other in
      let one = statement_code pieces (before (length two + 1) exits) (prints + length (statement_prints other)) body in
      expression_code pieces 0 test ++ chosen_code 1 0 one two
  statement_code pieces exits prints (r.while test body) =
      loop_code pieces (Some test) (statement_code pieces (loop_exits []) prints body) []
  statement_code pieces exits prints (r.for start test step body) =
      let third = option_code pieces step in
      start_code pieces start ++ loop_code pieces test (statement_code pieces (loop_exits third) prints body) third
  statement_code pieces exits prints r.break = row 0 (Instr.GoOn exits.loop) ∷ []
  statement_code pieces exits prints r.continue = row 0 (Instr.GoOn exits.body) ∷ []
  statement_code pieces exits prints (r.return None) = row 0 (Instr.Push (pos 0)) ∷ row 1 Instr.Leave ∷ []
  statement_code pieces exits prints (r.return (Some e)) = expression_code pieces 0 e ++ (row 1 Instr.Leave ∷ [])
  statement_code pieces exits prints (r.acquire lock mode) =
      let place = lock_place_of lock in
      reaching_lock_code pieces lock
      ++ (row (lock_depth lock) (Instr.Ask (lock_target place) mode (lock_line place)) ∷ row (lock_depth lock) (Instr.Take (lock_target place) mode (lock_line place)) ∷ [])
  statement_code pieces exits prints (r.release lock) =
      let place = lock_place_of lock in
      reaching_lock_code pieces lock ++ (row (lock_depth lock) (Instr.Give (lock_target place) (lock_line place)) ∷ [])
  statement_code pieces exits prints (r.barrier bar) = row 0 (Instr.Arrive bar) ∷ row 0 (Instr.Cross bar) ∷ []
  statement_code pieces exits prints (r.print parts) = parts_code pieces 0 parts ++ (row (values_in (print_of parts)) (Instr.Print prints) ∷ [])

  -- one after the other
  pub statements_code : List Piece → Exits → ℕ → r.Statements → List Row
  statements_code pieces exits prints r.none = []
  statements_code pieces exits prints (r.then statement rest) =
      let behind = statements_code pieces exits prints rest in
      statement_code pieces (before (length behind) exits) (prints + length (statements_prints rest)) statement ++ behind
