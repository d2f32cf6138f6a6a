-- At which instructions a thread can stand, and which value decides whether it stops there.
use Rattle.std.specs.Prelude.{ℕ, ◌+◌, ◌-◌, ◌==◌, nat_le, ℤ, pos, Bool, true, false, ◌&&◌, ◌||◌, not, Option, Some, None, is_none, is_err}
use Rattle.dsm_syntax.specs.declared.tree.UnaryOp.{UnaryOp}
use Rattle.dsm_syntax.specs.declared.tree.BinaryOp.{BinaryOp}
use Rattle.dsm_values.specs.Values.{unary_value, step_value, binary_value}
use Rattle.dsm_code.specs.declared.instruction.Target.{Target}
use Rattle.dsm_code.specs.declared.instruction.Instr.{Instr}
use Rattle.dsm_code.specs.declared.parts.Row.{Row}
use Rattle.dsm_code.specs.Instructions.{number_at}
use Rattle.dsm_code.specs.Programs.{Program, function_at}
use Rattle.dsm_code.specs.Valid.{takes}

-- an operator that comes to a fault for some operand
abbrev pub can_fail : UnaryOp → Bool
can_fail UnaryOp.Negate = true
can_fail _ = false

-- an operator that comes to a fault for some operands
abbrev pub can_fail_of_two : BinaryOp → Bool
can_fail_of_two BinaryOp.Times = true
can_fail_of_two BinaryOp.Divide = true
can_fail_of_two BinaryOp.Remainder = true
can_fail_of_two BinaryOp.Plus = true
can_fail_of_two BinaryOp.Minus = true
can_fail_of_two BinaryOp.ShiftLeft = true
can_fail_of_two BinaryOp.ShiftRight = true
can_fail_of_two _ = false

-- it has an index
abbrev pub is_member : Target → Bool
is_member (Target.One number) = false
is_member (Target.Member array) = true

-- an instruction that wants something, or stops for a fault, with some operands
abbrev pub may_want : Instr → Bool
may_want (Instr.Push n) = false
may_want Instr.Discard = false
may_want (Instr.LoadSlot x way) = false
may_want (Instr.StoreSlot x) = false
may_want (Instr.LoadOwn target way line) = is_member target
may_want (Instr.StoreOwn target line) = is_member target
may_want (Instr.Unary op line) = can_fail op
may_want (Instr.Binary op line) = can_fail_of_two op
may_want Instr.ToTruth = false
may_want (Instr.GoOn count) = false
may_want (Instr.SkipIfZero count) = false
may_want _ = true

-- how far from the end the operand stands that decides whether an instruction stops; 0 where none does
abbrev pub decider : Instr → ℕ
decider (Instr.TestIndex array line) = 1
decider (Instr.LoadOwn target way line) = 1
decider (Instr.StoreOwn target line) = 2
decider (Instr.Unary op line) = 1
decider (Instr.StepBy op line) = 1
decider (Instr.Binary op line) = 1
decider _ = 0

-- an instruction stops for that operand, above another one
abbrev pub stops : Instr → ℤ → ℤ → Bool
stops (Instr.TestIndex array line) under value = is_none (number_at (Target.Member array) value)
stops (Instr.LoadOwn target way line) under value = is_none (number_at target value)
stops (Instr.StoreOwn target line) under value = is_none (number_at target value)
stops (Instr.Unary op line) under value = is_err (unary_value op value)
stops (Instr.StepBy op line) under value = is_err (step_value op value)
stops (Instr.Binary op line) under value = is_err (binary_value op under value)
stops _ under value = true

-- the function that an instruction calls
abbrev pub called : Instr → Option ℕ
called (Instr.Enter number line) = Some number
called _ = None

-- a place at which the innermost function can stand, with no more operands than the program has
abbrev pub is_stand : Program → Row → Bool
is_stand program row = may_want row.instr && nat_le row.depth program.deepest

-- a place of the innermost function, or the call of a function that waits
abbrev pub is_place : Program → Bool → Option Row → Bool
is_place program is_last None = false
is_place program true (Some row) = is_stand program row
is_place program false (Some row) = not (is_none (called row.instr))

-- the operands that a function keeps: all of those that the code has at its place, or, at a call, those below its arguments
abbrev pub kept_operands : Program → Bool → Option Row → ℕ
kept_operands program is_last None = 0
kept_operands program true (Some row) = row.depth
kept_operands program false (Some row) = row.depth - takes program row.instr

-- how many values a function is saved with
abbrev pub value_count : Program → Bool → ℕ → Option Row → ℕ
value_count program is_last number row = (function_at program number).slots + kept_operands program is_last row

-- the value under the one that decides
abbrev pub under : Option ℤ → ℤ
under None = pos 0
under (Some value) = value

-- a value of so many is such that the instruction stops, where it decides
abbrev pub is_value : Option Row → ℕ → ℕ → Option ℤ → ℤ → Bool
is_value None count at last value = true
is_value (Some row) count at last value = not (at + decider row.instr == count) || stops row.instr (under last) value
