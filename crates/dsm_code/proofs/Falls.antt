-- Steps without a label lead further on in the code of their function.
use Rattle.std.proofs.Common.{◌≡◌, ℕ, ◌+◌, ◌<◌, nat_lt, ℤ, Bool, true, false, cond, List, [], ◌∷◌, length, Option, Some, None, Ok, Err, refl, arith}
use Rattle.std.proofs.lemmas.Option.{slice_get_within}
use Rattle.dsm_base.specs.declared.label.Want.{Want}
use Rattle.dsm_base.specs.Steps.{Move, goes, asks, Over}
use Rattle.dsm_base.proofs.StepsSettle.{Falls, settled_asks}
use Rattle.dsm_values.specs.Values.{Outcome, holds, unary_value, step_value, binary_value}
use Rattle.dsm_code.specs.declared.instruction.Target.{Target}
use Rattle.dsm_code.specs.declared.instruction.Instr.{Instr}
use Rattle.dsm_code.specs.declared.parts.Row.{Row}
use Rattle.dsm_code.specs.Instructions.{top, below, number_at}
use Rattle.dsm_code.specs.Programs.{function_at, row_at}
use Rattle.dsm_code.specs.Machine.{State, Frame, over, comes_to, at_number, returns, act, act_at, step_in, step, weight, ready}

-- a step without a label leads further on in the same function, and any step in the same program
abbrev OnlyOn : State → Move State → Type 0
OnlyOn s (goes t) = (s.place < t.place) × (t.program ≡ s.program) × (t.function ≡ s.function)
OnlyOn s (asks want after) = (answer : ℤ) → (after answer).program ≡ s.program

module _ (s : State) where
  number_on : (line : ℕ) (found : Option ℕ) (go : ℕ → Move State) → ((n : ℕ) → OnlyOn s (go n)) → OnlyOn s (at_number s line found go)
  number_on line None go h = λ answer. refl
  number_on line (Some n) go h = h n

  outcome_on : (rest : List ℤ) (line : ℕ) (outcome : Outcome) → OnlyOn s (comes_to s rest line outcome)
  outcome_on rest line (Ok value) = (omega arith, refl, refl)
  outcome_on rest line (Err fault) = λ answer. refl

  skips_on : (count : ℕ) (test : Bool) → s.place < cond test (s.place + 1) (s.place + 1 + count)
  skips_on count true = omega arith
  skips_on count false = omega arith

  if_on : (few : Bool) (a b : Move State) → OnlyOn s a → OnlyOn s b → OnlyOn s (cond few a b)
  if_on true a b p q = p
  if_on false a b p q = q

  returns_on : (value : ℤ) (outer : List Frame) → OnlyOn s (returns s value outer)
  returns_on value [] = λ answer. refl
  returns_on value (caller ∷ outer) = λ answer. refl

  act_on : (i : Instr) → OnlyOn s (act s i)
  act_on (Instr.Push n) = (omega arith, refl, refl)
  act_on Instr.Discard = (omega arith, refl, refl)
  act_on (Instr.LoadSlot x way) = (omega arith, refl, refl)
  act_on (Instr.StoreSlot x) = (omega arith, refl, refl)
  act_on (Instr.TestIndex array line) = number_on line (number_at (Target.Member array) (top s.operands)) _ (λ n. (omega arith, refl, refl))
  act_on (Instr.LoadOwn target way line) = number_on line (number_at target (top s.operands)) _ (λ n. (omega arith, refl, refl))
  act_on (Instr.StoreOwn target line) = number_on line (number_at target (top (below s.operands))) _ (λ n. (omega arith, refl, refl))
  act_on (Instr.Load target way line) = number_on line (number_at target (top s.operands)) _ (λ n answer. refl)
  act_on (Instr.Store target bound line) = number_on line (number_at target (top (below s.operands))) _ (λ n answer. refl)
  act_on (Instr.Unary op line) = outcome_on (below s.operands) line (unary_value op (top s.operands))
  act_on (Instr.StepBy op line) = outcome_on (below s.operands) line (step_value op (top s.operands))
  act_on (Instr.Binary op line) = outcome_on (below (below s.operands)) line (binary_value op (top (below s.operands)) (top s.operands))
  act_on Instr.ToTruth = (omega arith, refl, refl)
  act_on (Instr.GoOn count) = (omega arith, refl, refl)
  act_on (Instr.SkipIfZero count) = (skips_on count (holds (top s.operands)), refl, refl)
  act_on (Instr.GoBack count) = λ answer. refl
  act_on (Instr.Enter number line) = if_on (nat_lt (length s.outer + 1) 256) _ _ (λ answer. refl) (λ answer. refl)
  act_on Instr.Leave = returns_on (top s.operands) s.outer
  act_on (Instr.Ask target mode line) = number_on line (number_at target (top s.operands)) _ (λ n answer. refl)
  act_on (Instr.Take target mode line) = number_on line (number_at target (top s.operands)) _ (λ n answer. refl)
  act_on (Instr.Give target line) = number_on line (number_at target (top s.operands)) _ (λ n answer. refl)
  act_on (Instr.Arrive bar) = λ answer. refl
  act_on (Instr.Cross bar) = λ answer. refl
  act_on (Instr.Print number) = λ answer. refl

  falls_from : (move : Move State) → s.place < length (function_at s.program s.function).rows → OnlyOn s move → Falls weight (weight s) move
  falls_from (goes t) there on = rw (on.1, on.2) (omega (arith, on.0, there))
  falls_from (asks want after) there on = tt

  falls_at : (o : Option Row) → row_at s.program s.function s.place ≡ o → Falls weight (weight s) (act_at s o)
  falls_at None is = tt
  falls_at (Some row) is = falls_from (act s row.instr) (slice_get_within (function_at s.program s.function).rows s.place row is) (act_on row.instr)

  falls_in : (life : Option Over) → Falls weight (weight s) (step_in s life)
  falls_in None = falls_at (row_at s.program s.function s.place) refl
  falls_in (Some way) = tt

-- the program stays
abbrev pub IsSame : State → Move State → Type 0
IsSame s (goes t) = t.program ≡ s.program
IsSame s (asks want after) = (answer : ℤ) → (after answer).program ≡ s.program

same_move : (s : State) (move : Move State) → OnlyOn s move → IsSame s move
same_move s (goes t) on = on.1
same_move s (asks want after) on = on

same_at : (s : State) (o : Option Row) → IsSame s (act_at s o)
same_at s None = λ answer. refl
same_at s (Some row) = same_move s (act s row.instr) (act_on s row.instr)

same_in : (s : State) (life : Option Over) → IsSame s (step_in s life)
same_in s None = same_at s (row_at s.program s.function s.place)
same_in s (Some way) = λ answer. refl

pub step_same : (s : State) → IsSame s (step s)
step_same s = same_in s s.life

pub step_falls : (s : State) → Falls weight (weight s) (step s)
step_falls s = falls_in s s.life

-- a thread that is over stays as it is
pub ready_over : (s : State) (way : Over) → ready (over s way) ≡ over s way
ready_over s way = settled_asks step weight step_falls (over s way) Want.Over (λ answer. over s way) refl
