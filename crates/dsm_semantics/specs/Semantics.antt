-- What a thread of a program does. A step takes the first item of what remains to be done.
use Rattle.std.specs.Prelude.{ℕ, ◌+◌, ◌-◌, nat_lt, ℤ, pos, negsuc, if◌then◌else◌, List, [], ◌∷◌, ◌++◌, length, reverse, take, drop, get_or, set, replicate, slice_get, Option, Some, None, Ok, Err}
use Rattle.std.specs.Fmt.{signed_decimal}
use Rattle.dsm_base.specs.declared.names.Lock.{Lock}
use Rattle.dsm_base.specs.declared.names.Fault.{Fault}
use Rattle.dsm_base.specs.declared.label.Want.{Want}
use Rattle.dsm_base.specs.declared.label.Label.{Label}
use Rattle.dsm_base.specs.Threads.{Semantics}
use Rattle.dsm_syntax.specs.declared.tree.BinaryOp.{BinaryOp}
use Rattle.dsm_syntax.specs.declared.tree.Sharing.{Sharing}
use Rattle.dsm_check.specs.declared.resolved.Array.{Array}
use Rattle.dsm_check.specs.Resolved as r
use Rattle.dsm_values.specs.Values.{Outcome, holds, truth, unary_value, step_value, binary_value}
use Rattle.dsm_semantics.specs.Assignments.{operator_of}
use Rattle.dsm_base.specs.Steps as steps
use Rattle.dsm_base.specs.Steps.{Move, goes, asks, Over, Machine, semantics_of}
use Rattle.dsm_semantics.specs.States.{Place, slot, cell, member, LockPlace, one_lock, lock_member, Use, for_value, for_change, for_step_behind, Loop, Item, evaluate, evaluate_all, test_index, load, store, unary, step_by, binary, and_then, or_else, to_truth, choose, enter, discard, execute, run, declare, branch, round, decide, third_part, jump_back, leave, ask, take_lock, give, cross, gather, print, Frame, State, top, below, over}
use Rattle.dsm_semantics.specs.Weights.{weight}

-- How steps go. In what follows `s` is the state behind the item that is done.

-- goes on with this to be done
abbrev pub does : State → List Item → Move State
does s todo = goes (record s { todo = todo })

-- leaves a value above the operands that are left
abbrev pub leaves : State → List ℤ → ℤ → Move State
leaves s rest value = goes (record s { operands = value ∷ rest })

-- stops for a fault at a line
abbrev pub faults : State → Fault → ℕ → Move State
faults s fault line = asks (Want.Stop fault line) (λ answer. s)

-- leaves what an operator comes to in place of its operands, or stops for its fault
abbrev pub comes_to : State → List ℤ → ℕ → Outcome → Move State
comes_to s rest line (Ok value) = leaves s rest value
comes_to s rest line (Err fault) = faults s fault line

-- the number of an array's member, where the index is one of the array's
abbrev pub member_number : Array → ℤ → Option ℕ
member_number array (pos i) = if nat_lt i array.size then Some (array.first + i) else None
member_number array (negsuc i) = None

-- goes on with that number
abbrev pub at_member : State → ℕ → Option ℕ → (ℕ → Move State) → Move State
at_member s line None go = faults s Fault.Index line
at_member s line (Some number) go = go number

-- Loads and stores. The index of a member is tested once it is evaluated, and again where the member is used, since it may have come with a saved thread.

-- the index of a member comes before all else that is done with the location
abbrev pub reaching : r.Location → List Item → List Item
reaching (r.variable number) k = k
reaching (r.cell sharing number line) k = k
reaching (r.element sharing array index line) k = evaluate index ∷ test_index array line ∷ k

-- where a location is
abbrev pub place_of : r.Location → Place
place_of (r.variable number) = slot number
place_of (r.cell sharing number line) = cell sharing number line
place_of (r.element sharing array index line) = member sharing array line

-- the operands that a load leaves; those before it were the index, if any, and the rest
abbrev pub loaded : Use → List ℤ → List ℤ → ℤ → List ℤ
loaded for_value index rest value = value ∷ rest
loaded for_change index rest value = value ∷ (index ++ rest)
loaded for_step_behind index rest value = value ∷ (index ++ value ∷ rest)

-- only accesses of shared cells have labels
abbrev pub loads : State → Sharing → ℕ → ℕ → (ℤ → State) → Move State
loads s Sharing.Shared number line after = asks (Want.Load (record { 0 = number }) line) after
loads s Sharing.Private number line after = goes (after (get_or s.own number (pos 0)))

-- a load of a place
abbrev pub load_at : State → Use → Place → Move State
load_at s way (slot number) = goes (record s { operands = loaded way [] s.operands (get_or s.slots number (pos 0)) })
load_at s way (cell sharing number line) = loads s sharing number line (λ v. record s { operands = loaded way [] s.operands v })
load_at s way (member sharing array line) = at_member s line (member_number array (top s.operands)) (λ number.
    loads s sharing number line (λ v. record s { operands = loaded way (top s.operands ∷ []) (below s.operands) v }))

-- only stores to shared cells have labels
abbrev pub stores : Sharing → ℕ → ℕ → ℤ → State → Move State
stores Sharing.Shared number line value after = asks (Want.Store (record { 0 = number }) value line) (λ answer. after)
stores Sharing.Private number line value after = goes (record after { own = set after.own number value })

-- a store of the value on top to a place
abbrev pub store_at : State → Place → Move State
store_at s (slot number) = goes (record s { slots = set s.slots number (top s.operands) })
store_at s (cell sharing number line) = stores sharing number line (top s.operands) s
store_at s (member sharing array line) = at_member s line (member_number array (top (below s.operands))) (λ number.
    stores sharing number line (top s.operands) (record s { operands = top s.operands ∷ below (below s.operands) }))

-- Expressions.

-- what comes behind the first operand of an operator
abbrev pub second : BinaryOp → ℕ → r.Expression → List Item → List Item
second BinaryOp.And line e k = and_then e ∷ k
second BinaryOp.Or line e k = or_else e ∷ k
second op line e k = evaluate e ∷ binary op line ∷ k

-- what comes behind the index of an assignment's location: `=` evaluates and stores, the others load first
abbrev pub assigning : Option BinaryOp → ℕ → Place → r.Expression → List Item → List Item
assigning None line place e k = evaluate e ∷ store place ∷ k
assigning (Some op) line place e k = load place for_change ∷ evaluate e ∷ binary op line ∷ store place ∷ k

-- the step of an expression: what it is made of comes first, from the left
abbrev pub evaluation : State → r.Expression → Move State
evaluation s (r.number n) = leaves s s.operands n
evaluation s (r.load location) = does s (reaching location (load (place_of location) for_value ∷ s.todo))
evaluation s (r.call function arguments line) = does s (evaluate_all arguments ∷ enter function line ∷ s.todo)
evaluation s (r.unary op line e) = does s (evaluate e ∷ unary op line ∷ s.todo)
evaluation s (r.prefix op line location) =
    does s (reaching location (load (place_of location) for_change ∷ step_by op line ∷ store (place_of location) ∷ s.todo))
evaluation s (r.postfix location op line) =
    does s (reaching location (load (place_of location) for_step_behind ∷ step_by op line ∷ store (place_of location) ∷ discard ∷ s.todo))
evaluation s (r.binary a op line b) = does s (evaluate a ∷ second op line b s.todo)
evaluation s (r.choice test a b) = does s (evaluate test ∷ choose a b ∷ s.todo)
evaluation s (r.assign location op line e) = does s (reaching location (assigning (operator_of op) line (place_of location) e s.todo))

-- arguments from the left
abbrev pub evaluation_of_all : State → r.Expressions → Move State
evaluation_of_all s r.nil = goes s
evaluation_of_all s (r.cons e rest) = does s (evaluate e ∷ evaluate_all rest ∷ s.todo)

-- Calls.

-- so many functions may be under way
abbrev pub most_depth : ℕ
most_depth = 256

-- the function of a number; each number in a program is that of a function
abbrev pub numbered : Option r.Function → r.Function
numbered None = record { name = []; params = 0; slots = 0; names = []; body = r.none }
numbered (Some function) = function

-- the slots of a function that is entered: its arguments, and zeros
abbrev pub new_slots : r.Function → List ℤ → List ℤ
new_slots function arguments = arguments ++ replicate (function.slots - length arguments) (pos 0)

-- the function is entered; its last argument is on top
abbrev pub entered : State → r.Function → State
entered s function = record s {
  todo = run function.body ∷ [];
  operands = [];
  slots = new_slots function (reverse (take function.params s.operands));
  outer = record { todo = s.todo; operands = drop function.params s.operands; slots = s.slots } ∷ s.outer;
}

-- a call enters a function, where it is not one too many
abbrev pub entering : State → ℕ → r.Function → Move State
entering s line function =
    if nat_lt (length s.outer + 1) most_depth then asks Want.Quiet (λ answer. entered s function) else faults s Fault.Depth line

-- the innermost function returns with a value; that of main isn't used
abbrev pub returns : State → ℤ → List Frame → Move State
returns s value [] = asks Want.End (λ answer. s)
returns s value (caller ∷ outer) = asks Want.Quiet (λ answer. record s {
  todo = caller.todo;
  operands = value ∷ caller.operands;
  slots = caller.slots;
  outer = outer;
})

-- Statements.

-- a variable that is declared without a value is set to 0
abbrev pub declaring : State → ℕ → Option r.Expression → Move State
declaring s number None = goes (record s { slots = set s.slots number (pos 0) })
declaring s number (Some e) = does s (evaluate e ∷ store (slot number) ∷ discard ∷ s.todo)

-- variables from the first on
abbrev pub declaration : State → List r.Variable → Move State
declaration s [] = goes s
declaration s (variable ∷ rest) = declaring (record s { todo = declare rest ∷ s.todo }) variable.slot variable.initial

-- the chosen part of an `if`, where there is one
abbrev pub branching : List Item → Option r.Statement → List Item
branching k None = k
branching k (Some body) = execute body ∷ k

-- the first part of a `for`
abbrev pub starting : r.ForStart → List Item → List Item
starting r.start_nothing k = k
starting (r.start_variables variables) k = declare variables ∷ k
starting (r.start_expression e) k = evaluate e ∷ discard ∷ k

-- the test of a loop, where it has one, comes before its body
abbrev pub testing : List Item → Loop → Option r.Expression → List Item
testing k loop None = execute loop.body ∷ third_part loop ∷ k
testing k loop (Some e) = evaluate e ∷ decide loop ∷ k

-- the third part of a `for`, where it has one
abbrev pub stepping : List Item → Option r.Expression → List Item
stepping k None = k
stepping k (Some e) = evaluate e ∷ discard ∷ k

-- what follows the innermost loop
abbrev pub after_loop : List Item → List Item
after_loop [] = []
after_loop (third_part loop ∷ k) = k
after_loop (item ∷ k) = after_loop k

-- what follows the body of the innermost loop
abbrev pub after_body : List Item → List Item
after_body [] = []
after_body (third_part loop ∷ k) = third_part loop ∷ k
after_body (item ∷ k) = after_body k

-- the index of a lock comes before all else that is done with it
abbrev pub reaching_lock : r.LockPlace → List Item → List Item
reaching_lock (r.one_lock lock line) k = k
reaching_lock (r.lock_element array index line) k = evaluate index ∷ test_index array line ∷ k

-- where a lock is
abbrev pub lock_place_of : r.LockPlace → LockPlace
lock_place_of (r.one_lock lock line) = one_lock lock line
lock_place_of (r.lock_element array index line) = lock_member array line

-- a lock's number, where its index is one of the array's
abbrev pub lock_number : LockPlace → List ℤ → Option ℕ
lock_number (one_lock lock line) operands = Some lock.0
lock_number (lock_member array line) operands = member_number array (top operands)

-- the line of the name of a lock
abbrev pub lock_line : LockPlace → ℕ
lock_line (one_lock lock line) = line
lock_line (lock_member array line) = line

-- the operands below a lock's index, if it has one
abbrev pub below_index : LockPlace → List ℤ → List ℤ
below_index (one_lock lock line) operands = operands
below_index (lock_member array line) operands = below operands

-- goes on with the lock
abbrev pub at_lock : State → LockPlace → (Lock → Move State) → Move State
at_lock s lock go = at_member s (lock_line lock) (lock_number lock s.operands) (λ number. go (record { 0 = number }))

-- the values of a print from the left
abbrev pub gathering : State → List r.Part → Move State
gathering s [] = goes s
gathering s (r.part_text text ∷ rest) = does s (gather rest ∷ s.todo)
gathering s (r.part_value e ∷ rest) = does s (evaluate e ∷ gather rest ∷ s.todo)

-- how many values a print has
abbrev pub values_in : List r.Part → ℕ
values_in [] = 0
values_in (r.part_text text ∷ rest) = values_in rest
values_in (r.part_value e ∷ rest) = values_in rest + 1

-- strings as they are and values in decimal, with nothing between
abbrev pub parts_text : List r.Part → List ℤ → List ℕ
parts_text [] values = []
parts_text (r.part_text text ∷ rest) values = text ++ parts_text rest values
parts_text (r.part_value e ∷ rest) values = signed_decimal (top values) ++ parts_text rest (below values)

-- the step of a statement
abbrev pub execution : State → r.Statement → Move State
execution s (r.block body) = does s (run body ∷ s.todo)
execution s r.empty = goes s
execution s (r.variables variables) = does s (declare variables ∷ s.todo)
execution s (r.expression e) = does s (evaluate e ∷ discard ∷ s.todo)
execution s (r.when test body) = does s (evaluate test ∷ branch body None ∷ s.todo)
execution s (r.either test body other) = does s (evaluate test ∷ branch body (Some other) ∷ s.todo)
execution s (r.while test body) = does s (round (record { test = Some test; step = None; body = body }) ∷ s.todo)
execution s (r.for start test step body) = does s (starting start (round (record { test = test; step = step; body = body }) ∷ s.todo))
execution s r.break = does s (after_loop s.todo)
execution s r.continue = does s (after_body s.todo)
execution s (r.return None) = goes (record s { todo = leave ∷ s.todo; operands = pos 0 ∷ s.operands })
execution s (r.return (Some e)) = does s (evaluate e ∷ leave ∷ s.todo)
execution s (r.acquire lock mode) = does s (reaching_lock lock (ask (lock_place_of lock) mode ∷ s.todo))
execution s (r.release lock) = does s (reaching_lock lock (give (lock_place_of lock) ∷ s.todo))
execution s (r.barrier bar) = asks (Want.Arrive bar) (λ answer. record s { todo = cross bar ∷ s.todo })
execution s (r.print parts) = does s (gather parts ∷ print parts ∷ s.todo)

-- statements from the first on
abbrev pub execution_of_all : State → r.Statements → Move State
execution_of_all s r.none = goes s
execution_of_all s (r.then statement rest) = does s (execute statement ∷ run rest ∷ s.todo)

-- Steps.

-- the step of an item
abbrev pub act : List r.Function → State → Item → Move State
act functions s (evaluate e) = evaluation s e
act functions s (evaluate_all arguments) = evaluation_of_all s arguments
act functions s (test_index array line) = at_member s line (member_number array (top s.operands)) (λ number. goes s)
act functions s (load place way) = load_at s way place
act functions s (store place) = store_at s place
act functions s (unary op line) = comes_to s (below s.operands) line (unary_value op (top s.operands))
act functions s (step_by op line) = comes_to s (below s.operands) line (step_value op (top s.operands))
act functions s (binary op line) = comes_to s (below (below s.operands)) line (binary_value op (top (below s.operands)) (top s.operands))
act functions s (and_then e) =
    let rest = below s.operands in
    if holds (top s.operands) then goes (record s { todo = evaluate e ∷ to_truth ∷ s.todo; operands = rest }) else leaves s rest (pos 0)
act functions s (or_else e) =
    let rest = below s.operands in
    if holds (top s.operands) then leaves s rest (pos 1) else goes (record s { todo = evaluate e ∷ to_truth ∷ s.todo; operands = rest })
act functions s to_truth = leaves s (below s.operands) (truth (holds (top s.operands)))
act functions s (choose a b) = goes (record s { todo = evaluate (if holds (top s.operands) then a else b) ∷ s.todo; operands = below s.operands })
act functions s (enter number line) = entering s line (numbered (slice_get functions number))
act functions s discard = goes (record s { operands = below s.operands })
act functions s (execute statement) = execution s statement
act functions s (run statements) = execution_of_all s statements
act functions s (declare variables) = declaration s variables
act functions s (branch body other) =
    goes (record s { todo = branching s.todo (if holds (top s.operands) then Some body else other); operands = below s.operands })
act functions s (round loop) = does s (testing s.todo loop loop.test)
act functions s (decide loop) =
    goes (record s { todo = (if holds (top s.operands) then execute loop.body ∷ third_part loop ∷ s.todo else s.todo); operands = below s.operands })
act functions s (third_part loop) = does s (stepping (jump_back loop ∷ s.todo) loop.step)
act functions s (jump_back loop) = asks Want.Quiet (λ answer. record s { todo = round loop ∷ s.todo })
act functions s leave = returns s (top s.operands) s.outer
act functions s (ask lock mode) = at_lock s lock (λ l. asks (Want.Ask l mode (lock_line lock)) (λ answer. record s { todo = take_lock lock mode ∷ s.todo }))
act functions s (take_lock lock mode) = at_lock s lock (λ l. asks (Want.Take l mode) (λ answer. record s { operands = below_index lock s.operands }))
act functions s (give lock) = at_lock s lock (λ l. asks (Want.Give l (lock_line lock)) (λ answer. record s { operands = below_index lock s.operands }))
act functions s (cross bar) = asks (Want.Cross bar) (λ answer. s)
act functions s (gather parts) = gathering s parts
act functions s (print parts) = asks Want.Line (λ answer. record s { operands = drop (values_in parts) s.operands })

-- a function that ends without a value gives 0
abbrev pub act_first : List r.Function → State → List Item → Move State
act_first functions s [] = returns s (pos 0) s.outer
act_first functions s (item ∷ k) = act functions (record s { todo = k }) item

-- one that is over wants nothing more
abbrev pub step_in : List r.Function → State → Option Over → Move State
step_in functions s None = act_first functions s s.todo
step_in functions s (Some way) = asks Want.Over (λ answer. s)

-- a step of a state
abbrev pub step : List r.Function → State → Move State
step functions s = step_in functions s s.life

-- Threads.

-- the text of a line that is wanted
abbrev pub text_at : List Item → List ℤ → List ℕ
text_at (print parts ∷ k) operands = parts_text parts (reverse (take (values_in parts) operands))
text_at _ operands = []

-- the machine that each thread of a program is; a step without a label leaves less to be done
abbrev pub machine : List r.Function → Machine State
machine functions = record {
  step = step functions;
  weight = λ s. weight s.todo;
  text = λ s. text_at s.todo s.operands;
  over = over;
}

-- the state right before the next labelled step
abbrev pub ready : List r.Function → State → State
ready functions s = steps.ready (machine functions) s

-- the state right after a label, before the steps without a label that come next
abbrev pub completed : List r.Function → State → Label → State
completed functions s label = steps.completed (machine functions) s label

-- what threads of a program do
abbrev pub program_semantics : List r.Function → Semantics State
program_semantics functions = semantics_of (machine functions)

-- the thread of a processor before its first step: main is the function of a number, with the processor and how many there are as its arguments
abbrev pub started : r.Function → ℕ → ℕ → ℕ → State
started main private_cells procs me = record {
  todo = run main.body ∷ [];
  operands = [];
  slots = new_slots main (pos me ∷ pos procs ∷ []);
  outer = [];
  own = replicate private_cells (pos 0);
  life = None;
}

-- the same, right before its first labelled step
abbrev pub first_state : List r.Function → ℕ → ℕ → ℕ → ℕ → State
first_state functions main private_cells procs me = ready functions (started (numbered (slice_get functions main)) private_cells procs me)
