-- What a thread of code does.
use Rattle.std.specs.Prelude.{ℕ, ◌+◌, ◌-◌, nat_lt, ℤ, pos, if◌then◌else◌, List, [], ◌∷◌, ◌++◌, length, reverse, take, drop, get_or, set, replicate, Option, Some, None, Ok, Err}
use Rattle.dsm_base.specs.declared.names.Fault.{Fault}
use Rattle.dsm_base.specs.declared.label.Want.{Want}
use Rattle.dsm_base.specs.declared.label.Label.{Label}
use Rattle.dsm_base.specs.Threads.{Semantics}
use Rattle.dsm_base.specs.Steps as steps
use Rattle.dsm_base.specs.Steps.{Move, goes, asks, Over, ended, Machine, semantics_of}
use Rattle.dsm_values.specs.Values.{Outcome, holds, truth, unary_value, step_value, binary_value}
use Rattle.dsm_code.specs.declared.instruction.Target.{Target}
use Rattle.dsm_code.specs.declared.instruction.Use.{Use}
use Rattle.dsm_code.specs.declared.instruction.Instr.{Instr}
use Rattle.dsm_code.specs.declared.parts.Row.{Row}
use Rattle.dsm_code.specs.declared.parts.PrintPart.{PrintPart}
use Rattle.dsm_code.specs.Instructions.{top, below, number_at, index_of, below_index, loaded, stored}
use Rattle.dsm_code.specs.Programs.{Program, Function, function_at, row_at, print_at, values_in, parts_text}

-- a function that waits for the one that it has called, at its call
pub record Frame : Type 0 where
  pub function : ℕ
  pub place : ℕ
  pub operands : List ℤ
  pub slots : List ℤ

-- the program; of the innermost function its number, its place, its operands (the last one first) and its slots;
-- the functions that wait for it, the innermost first; the private cells; and how the thread came to be over, if it is
pub record State : Type 0 where
  pub program : Program
  pub function : ℕ
  pub place : ℕ
  pub operands : List ℤ
  pub slots : List ℤ
  pub outer : List Frame
  pub own : List ℤ
  pub life : Option Over

-- the thread is over; only its private cells are left
abbrev pub over : State → Over → State
over s way = record { program = s.program; function = 0; place = 0; operands = []; slots = []; outer = []; own = s.own; life = Some way }

-- How steps go. In what follows `s` is the state before the instruction.

-- goes on behind the instruction with these operands
abbrev pub onward : State → List ℤ → State
onward s operands = record s { place = s.place + 1; operands = operands }

-- stops for a fault at a line
abbrev pub faults : State → Fault → ℕ → Move State
faults s fault line = asks (Want.Stop fault line) (λ answer. s)

-- leaves what an operator comes to in place of its operands, or stops for its fault
abbrev pub comes_to : State → List ℤ → ℕ → Outcome → Move State
comes_to s rest line (Ok value) = goes (onward s (value ∷ rest))
comes_to s rest line (Err fault) = faults s fault line

-- goes on with a number, or stops where the index isn't one of the array's
abbrev pub at_number : State → ℕ → Option ℕ → (ℕ → Move State) → Move State
at_number s line None go = faults s Fault.Index line
at_number s line (Some number) go = go number

-- what a load leaves
abbrev pub after_load : State → Target → Use → ℤ → State
after_load s target way value = onward s (loaded way (index_of target s.operands) (below_index target s.operands) value)

-- the slots of a function that is entered: its arguments, and zeros
abbrev pub new_slots : Function → List ℤ → List ℤ
new_slots f arguments = arguments ++ replicate (f.slots - length arguments) (pos 0)

-- the function that calls, as it waits
abbrev pub waiting : State → List ℤ → Frame
waiting s operands = record { function = s.function; place = s.place; operands = operands; slots = s.slots }

-- a function is entered with its arguments
abbrev pub entered : State → ℕ → Function → State
entered s number f = record s {
  function = number;
  place = 0;
  operands = [];
  slots = new_slots f (reverse (take f.params s.operands));
  outer = waiting s (drop f.params s.operands) ∷ s.outer;
}

-- a caller goes on behind its call with the value
abbrev pub back_in : State → ℤ → Frame → List Frame → State
back_in s value caller outer = record s {
  function = caller.function;
  place = caller.place + 1;
  operands = value ∷ caller.operands;
  slots = caller.slots;
  outer = outer;
}

-- at most 256 functions are under way
abbrev pub entering : State → ℕ → ℕ → Function → Move State
entering s number line f = if nat_lt (length s.outer + 1) 256 then asks Want.Quiet (λ answer. entered s number f) else faults s Fault.Depth line

-- main ends the thread
abbrev pub returns : State → ℤ → List Frame → Move State
returns s value [] = asks Want.End (λ answer. over s ended)
returns s value (caller ∷ outer) = asks Want.Quiet (λ answer. back_in s value caller outer)

-- the step of an instruction
abbrev pub act : State → Instr → Move State
act s (Instr.Push n) = goes (onward s (n ∷ s.operands))
act s Instr.Discard = goes (onward s (below s.operands))
act s (Instr.LoadSlot x way) = goes (onward s (loaded way [] s.operands (get_or s.slots x (pos 0))))
act s (Instr.StoreSlot x) = goes (record (onward s s.operands) { slots = set s.slots x (top s.operands) })
act s (Instr.TestIndex array line) = at_number s line (number_at (Target.Member array) (top s.operands)) (λ n. goes (onward s s.operands))
act s (Instr.LoadOwn target way line) =
    at_number s line (number_at target (top s.operands)) (λ n. goes (after_load s target way (get_or s.own n (pos 0))))
act s (Instr.StoreOwn target line) =
    at_number s line (number_at target (top (below s.operands))) (λ n. goes (record (onward s (stored target s.operands)) { own = set s.own n (top s.operands) }))
act s (Instr.Load target way line) =
    at_number s line (number_at target (top s.operands)) (λ n. asks (Want.Load (record { 0 = n }) line) (after_load s target way))
act s (Instr.Store target bound line) =
    at_number s line (number_at target (top (below s.operands)))
    (λ n. asks (Want.Store (record { 0 = n }) (top s.operands) line) (λ answer. onward s (stored target s.operands)))
act s (Instr.Unary op line) = comes_to s (below s.operands) line (unary_value op (top s.operands))
act s (Instr.StepBy op line) = comes_to s (below s.operands) line (step_value op (top s.operands))
act s (Instr.Binary op line) = comes_to s (below (below s.operands)) line (binary_value op (top (below s.operands)) (top s.operands))
act s Instr.ToTruth = goes (onward s (truth (holds (top s.operands)) ∷ below s.operands))
act s (Instr.GoOn count) = goes (record s { place = s.place + 1 + count })
act s (Instr.SkipIfZero count) =
    goes (record s { place = (if holds (top s.operands) then s.place + 1 else s.place + 1 + count); operands = below s.operands })
act s (Instr.GoBack count) = asks Want.Quiet (λ answer. record s { place = s.place - count })
act s (Instr.Enter number line) = entering s number line (function_at s.program number)
act s Instr.Leave = returns s (top s.operands) s.outer
act s (Instr.Ask target mode line) =
    at_number s line (number_at target (top s.operands)) (λ n. asks (Want.Ask (record { 0 = n }) mode line) (λ answer. onward s s.operands))
act s (Instr.Take target mode line) =
    at_number s line (number_at target (top s.operands)) (λ n. asks (Want.Take (record { 0 = n }) mode) (λ answer. onward s (below_index target s.operands)))
act s (Instr.Give target line) =
    at_number s line (number_at target (top s.operands)) (λ n. asks (Want.Give (record { 0 = n }) line) (λ answer. onward s (below_index target s.operands)))
act s (Instr.Arrive bar) = asks (Want.Arrive bar) (λ answer. onward s s.operands)
act s (Instr.Cross bar) = asks (Want.Cross bar) (λ answer. onward s s.operands)
act s (Instr.Print number) = asks Want.Line (λ answer. onward s (drop (values_in (print_at s.program number)) s.operands))

-- no place without an instruction is ever reached
abbrev pub act_at : State → Option Row → Move State
act_at s None = asks Want.Over (λ answer. s)
act_at s (Some row) = act s row.instr

-- one that is over wants nothing more
abbrev pub step_in : State → Option Over → Move State
step_in s None = act_at s (row_at s.program s.function s.place)
step_in s (Some way) = asks Want.Over (λ answer. s)

-- a step of a state
abbrev pub step : State → Move State
step s = step_in s s.life

-- what is left of the function's code
abbrev pub weight : State → ℕ
weight s = length (function_at s.program s.function).rows - s.place

-- the text of a print whose values are on top
abbrev pub print_text : State → List PrintPart → List ℕ
print_text s parts = parts_text parts (reverse (take (values_in parts) s.operands))

-- the text of the line that is wanted, where one is
abbrev pub text_of : State → Instr → List ℕ
text_of s (Instr.Print number) = print_text s (print_at s.program number)
text_of s _ = []

abbrev pub text_at : State → Option Row → List ℕ
text_at s None = []
text_at s (Some row) = text_of s row.instr

abbrev pub text_in : State → Option Over → List ℕ
text_in s None = text_at s (row_at s.program s.function s.place)
text_in s (Some way) = []

abbrev pub text : State → List ℕ
text s = text_in s s.life

-- the machine that each thread of code is; a step without a label leads further on in the code
abbrev pub code_machine : Machine State
code_machine = record { step = step; weight = weight; text = text; over = over }

-- the state right before the next labelled step
abbrev pub ready : State → State
ready s = steps.ready code_machine s

-- the state right after a label, before the steps without a label that come next
abbrev pub completed : State → Label → State
completed s label = steps.completed code_machine s label

-- what threads of code do
abbrev pub code_semantics : Semantics State
code_semantics = semantics_of code_machine

-- the thread of a processor before its first step, of so many
abbrev pub started : Program → ℕ → ℕ → State
started program procs me = record {
  program = program;
  function = program.main;
  place = 0;
  operands = [];
  slots = new_slots (function_at program program.main) (pos me ∷ pos procs ∷ []);
  outer = [];
  own = replicate program.private_cells (pos 0);
  life = None;
}

-- the same, right before its first labelled step
abbrev pub first_state : Program → ℕ → ℕ → State
first_state program procs me = ready (started program procs me)
