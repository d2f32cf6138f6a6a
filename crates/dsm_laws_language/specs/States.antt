-- Closed states: what remains to be done is closed, and each item finds the operands that it takes.
use Rattle.std.specs.Prelude.{◌≡◌, ℕ, ◌+◌, nat_lt, nat_le, ℤ, Bool, true, false, ◌&&◌, IsTrue, List, [], ◌∷◌, length, slice_get, Option, Some, None, is_some}
use Rattle.dsm_base.specs.Steps.{goes, want_of}
use Rattle.dsm_base.specs.Threads.{AnswersTo, state_after}
use Rattle.dsm_base.specs.declared.label.Label.{Label}
use Rattle.dsm_syntax.specs.declared.tree.Sharing.{Sharing}
use Rattle.dsm_check.specs.Resolved as r
use Rattle.dsm_check.specs.Programs.{Program}
use Rattle.dsm_semantics.specs.States.{Place, slot, cell, member, LockPlace, one_lock, lock_member, Use, for_value, for_change, for_step_behind, Loop, Item, evaluate, evaluate_all, test_index, load, store, unary, step_by, binary, and_then, or_else, to_truth, choose, enter, discard, execute, run, declare, branch, round, decide, third_part, jump_back, leave, ask, take_lock, give, cross, gather, print, Frame, State, top, below}
use Rattle.dsm_semantics.specs.Semantics.{member_number, numbered, values_in, step, completed, started}
use Rattle.dsm_semantics.specs.Programs.{threads_of, first_states}
use Rattle.dsm_laws_language.specs.Closed.{cells_of, is_below, count_in, is_closed_option, is_closed_expression, are_closed_arguments, are_closed_variables, are_closed_parts, is_closed_statement, are_closed_statements}

-- How many operands items take and leave.

-- how many operands name a place: the index of a member
abbrev pub index_count : Place → ℕ
index_count (slot number) = 0
index_count (cell sharing number line) = 0
index_count (member sharing array line) = 1

-- how many operands name a lock
abbrev pub lock_index_count : LockPlace → ℕ
lock_index_count (one_lock lock line) = 0
lock_index_count (lock_member array line) = 1

-- how many operands a load leaves
abbrev pub loaded_count : Use → ℕ → ℕ
loaded_count for_value indexes = 1
loaded_count for_change indexes = indexes + 1
loaded_count for_step_behind indexes = indexes + 2

-- how many parameters the function of a number has
abbrev pub params_of : Program → ℕ → ℕ
params_of program number = (numbered (slice_get program.functions number)).params

-- how many operands an item takes
abbrev pub takes : Program → Item → ℕ
takes program (test_index array line) = 1
takes program (load place way) = index_count place
takes program (store place) = index_count place + 1
takes program (unary op line) = 1
takes program (step_by op line) = 1
takes program (binary op line) = 2
takes program (and_then e) = 1
takes program (or_else e) = 1
takes program to_truth = 1
takes program (choose a b) = 1
takes program (enter number line) = params_of program number
takes program discard = 1
takes program (branch body other) = 1
takes program (decide loop) = 1
takes program leave = 1
takes program (ask lock mode) = lock_index_count lock
takes program (take_lock lock mode) = lock_index_count lock
takes program (give lock) = lock_index_count lock
takes program (print parts) = values_in parts
takes program _ = 0

-- how many it leaves in their place, once all that it brings with it is done
abbrev pub gives : Item → ℕ
gives (evaluate e) = 1
gives (evaluate_all arguments) = count_in arguments
gives (test_index array line) = 1
gives (load place way) = loaded_count way (index_count place)
gives (store place) = 1
gives (unary op line) = 1
gives (step_by op line) = 1
gives (binary op line) = 1
gives (and_then e) = 1
gives (or_else e) = 1
gives to_truth = 1
gives (choose a b) = 1
gives (enter number line) = 1
gives (gather parts) = values_in parts
gives _ = 0

-- an item of statements; below the operands that it takes there are no others
abbrev pub is_outermost : Item → Bool
is_outermost (execute statement) = true
is_outermost (run statements) = true
is_outermost (declare variables) = true
is_outermost (branch body other) = true
is_outermost (round loop) = true
is_outermost (decide loop) = true
is_outermost (third_part loop) = true
is_outermost (jump_back loop) = true
is_outermost leave = true
is_outermost (ask lock mode) = true
is_outermost (take_lock lock mode) = true
is_outermost (give lock) = true
is_outermost (cross bar) = true
is_outermost (print parts) = true
is_outermost _ = false

-- What items name.

-- a place is there, in a function with so many slots
abbrev pub is_closed_place : Program → ℕ → Place → Bool
is_closed_place program slots (slot number) = nat_lt number slots
is_closed_place program slots (cell sharing number line) = nat_lt number (cells_of program sharing)
is_closed_place program slots (member sharing array line) = is_below (cells_of program sharing) array

-- a lock is there
abbrev pub is_closed_lock_place : Program → LockPlace → Bool
is_closed_lock_place program (one_lock lock line) = nat_lt lock.0 program.locks
is_closed_lock_place program (lock_member array line) = is_below program.locks array

-- of a loop
abbrev pub is_closed_loop : Program → ℕ → Loop → Bool
is_closed_loop program slots loop =
    is_closed_option (is_closed_expression program slots) loop.test
    && (is_closed_option (is_closed_expression program slots) loop.step && is_closed_statement program slots true loop.body)

-- a loop is under way
abbrev pub has_loop : List Item → Bool
has_loop [] = false
has_loop (third_part loop ∷ k) = true
has_loop (item ∷ k) = has_loop k

-- of an item, by whether it is in a loop
abbrev pub is_closed_item : Program → ℕ → Bool → Item → Bool
is_closed_item program slots looped (evaluate e) = is_closed_expression program slots e
is_closed_item program slots looped (evaluate_all arguments) = are_closed_arguments program slots arguments
is_closed_item program slots looped (load place way) = is_closed_place program slots place
is_closed_item program slots looped (store place) = is_closed_place program slots place
is_closed_item program slots looped (and_then e) = is_closed_expression program slots e
is_closed_item program slots looped (or_else e) = is_closed_expression program slots e
is_closed_item program slots looped (choose a b) = is_closed_expression program slots a && is_closed_expression program slots b
is_closed_item program slots looped (enter number line) = is_some (slice_get program.functions number)
is_closed_item program slots looped (execute statement) = is_closed_statement program slots looped statement
is_closed_item program slots looped (run statements) = are_closed_statements program slots looped statements
is_closed_item program slots looped (declare variables) = are_closed_variables program slots variables
is_closed_item program slots looped (branch body other) =
    is_closed_statement program slots looped body && is_closed_option (is_closed_statement program slots looped) other
is_closed_item program slots looped (round loop) = is_closed_loop program slots loop
is_closed_item program slots looped (decide loop) = is_closed_loop program slots loop
is_closed_item program slots looped (third_part loop) = is_closed_loop program slots loop
is_closed_item program slots looped (jump_back loop) = is_closed_loop program slots loop
is_closed_item program slots looped (ask lock mode) = is_closed_lock_place program lock
is_closed_item program slots looped (take_lock lock mode) = is_closed_lock_place program lock
is_closed_item program slots looped (give lock) = is_closed_lock_place program lock
is_closed_item program slots looped (cross bar) = nat_lt bar.0 program.barriers
is_closed_item program slots looped (gather parts) = are_closed_parts program slots parts
is_closed_item program slots looped _ = true

-- States.

-- an item finds its operands above so many others, and these are none where it is one of statements
pub record Finds (program : Program) (item : Item) (depth rest : ℕ) : Type 0 where
  pub operands : depth ≡ rest + takes program item
  pub outermost : IsTrue (is_outermost item) → rest ≡ 0

-- what remains to be done is closed, and each item of it finds the operands that it takes, from so many on
abbrev pub AreClosed : Program → ℕ → ℕ → List Item → Type 0
AreClosed program slots depth [] = depth ≡ 0
AreClosed program slots depth (item ∷ k) =
    (rest : ℕ) × Finds program item depth rest × IsTrue (is_closed_item program slots (has_loop k) item)
    × AreClosed program slots (rest + gives item) k

-- so it is with the functions that wait, once they have the value that they wait for
abbrev pub AllWait : Program → List Frame → Type 0
AllWait program [] = Unit {0}
AllWait program (frame ∷ outer) = AreClosed program (length frame.slots) (length frame.operands + 1) frame.todo × AllWait program outer

-- a state of a thread of a program
pub record IsClosedState (program : Program) (s : State) : Type 0 where
  pub own : length s.own ≡ program.private_cells
  pub inner : AreClosed program (length s.slots) (length s.operands) s.todo
  pub outer : AllWait program s.outer

-- What a step reads.

-- a private cell that is used is there; no cell is used where the index is none of the array's
abbrev pub is_own : State → Sharing → Option ℕ → Bool
is_own s Sharing.Shared number = true
is_own s Sharing.Private None = true
is_own s Sharing.Private (Some number) = nat_lt number (length s.own)

-- the slot or the private cell of a place is there, where this is the index
abbrev pub has_place : State → ℤ → Place → Bool
has_place s index (slot number) = nat_lt number (length s.slots)
has_place s index (cell sharing number line) = is_own s sharing (Some number)
has_place s index (member sharing array line) = is_own s sharing (member_number array index)

-- the slot of the first variable is there
abbrev pub has_slot : State → List r.Variable → Bool
has_slot s [] = true
has_slot s (variable ∷ rest) = nat_lt variable.slot (length s.slots)

-- a function is there, and has slots for its parameters
abbrev pub has_function : Option r.Function → Bool
has_function None = false
has_function (Some function) = nat_le function.params function.slots

-- the loop that a statement leaves or goes on with is there
abbrev pub has_its_loop : List Item → r.Statement → Bool
has_its_loop k r.break = has_loop k
has_its_loop k r.continue = has_loop k
has_its_loop k _ = true

-- what an item names is there, and k is done behind it
abbrev pub has_named : Program → State → Item → List Item → Bool
has_named program s (load place way) k = has_place s (top s.operands) place
has_named program s (store place) k = has_place s (top (below s.operands)) place
has_named program s (enter number line) k = has_function (slice_get program.functions number)
has_named program s (declare variables) k = has_slot s variables
has_named program s (execute statement) k = has_its_loop k statement
has_named program s _ k = true

-- an item finds its operands and what it names
abbrev pub finds : Program → State → List Item → Bool
finds program s [] = true
finds program s (item ∷ k) = nat_le (takes program item) (length s.operands) && has_named program s item k

-- the next step finds all that it reads
abbrev pub finds_all : Program → State → Bool
finds_all program s = finds program s s.todo

-- the states that a thread comes to from a first one by labels that answer what it wants, with those between labelled steps
pub data IsReached (program : Program) (first : State) : State → Type 0 where
  at_first : IsReached program first first
  by_step : (s t : State) → IsReached program first s → step program.functions s ≡ goes t → IsReached program first t
  by_label : (s : State) (label : Label) → IsReached program first s → AnswersTo (want_of (step program.functions s)) label
      → IsReached program first (completed program.functions s label)

-- a thread of a program before its first step
abbrev pub started_in : Program → ℕ → ℕ → State
started_in program procs me = started (numbered (slice_get program.functions program.main)) program.private_cells procs me

-- each label answers what the thread wants behind those before it; the newest comes first
abbrev pub AllAnswer : Program → ℕ → ℕ → List Label → Type 0
AllAnswer program procs me [] = Unit {0}
AllAnswer program procs me (label ∷ before) =
    AllAnswer program procs me before
    × AnswersTo ((threads_of program).want (state_after (threads_of program) (first_states program procs me) before)) label

-- a print comes next
abbrev pub is_print_next : List Item → Bool
is_print_next (print parts ∷ k) = true
is_print_next _ = false
