-- Steps without a label end: each leaves less to be done.
use Rattle.std.proofs.Common.{◌≡◌, ℕ, ◌+◌, ◌<◌, ◌≤◌, nat_lt, ℤ, pos, Bool, true, false, cond, List, [], ◌∷◌, Option, Some, None, Ok, Err, length, arith, refl}
use Rattle.dsm_base.specs.declared.label.Want.{Want}
use Rattle.dsm_syntax.specs.declared.tree.BinaryOp.{BinaryOp}
use Rattle.dsm_syntax.specs.declared.tree.Sharing.{Sharing}
use Rattle.dsm_check.specs.Resolved as r
use Rattle.dsm_values.specs.Values.{Outcome, holds, unary_value, step_value, binary_value}
use Rattle.dsm_semantics.specs.Assignments.{operator_of}
use Rattle.dsm_base.specs.Steps.{Move, goes, asks, Over}
use Rattle.dsm_semantics.specs.States.{Place, slot, cell, member, Use, Loop, Item, evaluate, evaluate_all, test_index, load, store, unary, step_by, binary, and_then, or_else, to_truth, choose, enter, discard, execute, run, declare, branch, round, decide, third_part, jump_back, leave, ask, take_lock, give, cross, gather, print, Frame, State, top, below, over}
use Rattle.dsm_semantics.specs.Weights.{location_weight, expression_weight, option_weight, start_weight, lock_weight, statement_weight, weight}
use Rattle.dsm_semantics.specs.Semantics.{member_number, at_member, reaching, place_of, loads, load_at, stores, store_at, comes_to, second, assigning, returns, declaration, declaring, branching, starting, testing, stepping, after_loop, after_body, reaching_lock, lock_place_of, lock_line, lock_number, gathering, evaluation, evaluation_of_all, execution, execution_of_all, act, act_first, step_in, step, ready}
use Rattle.dsm_base.proofs.StepsSettle.{Falls, settled_asks}

abbrev pub weight_at : State → ℕ
weight_at s = weight s.todo

abbrev Less : ℕ → Move State → Type 0
Less n move = Falls weight_at n move

less_if : (n : ℕ) (test : Bool) (a b : Move State) → Less n a → Less n b → Less n (cond test a b)
less_if n true a b p q = p
less_if n false a b p q = q

less_member : (n : ℕ) (s : State) (line : ℕ) (found : Option ℕ) (go : ℕ → Move State) → ((number : ℕ) → Less n (go number)) → Less n (at_member s line found go)
less_member n s line None go h = tt
less_member n s line (Some number) go h = h number

less_loads : (n : ℕ) (s : State) (sharing : Sharing) (number line : ℕ) (after : ℤ → State) → ((v : ℤ) → weight (after v).todo < n)
    → Less n (loads s sharing number line after)
less_loads n s Sharing.Shared number line after h = tt
less_loads n s Sharing.Private number line after h = h _

less_stores : (n : ℕ) (sharing : Sharing) (number line : ℕ) (value : ℤ) (after : State) → weight after.todo < n → Less n (stores sharing number line value after)
less_stores n Sharing.Shared number line value after h = tt
less_stores n Sharing.Private number line value after h = h

less_outcome : (n : ℕ) (s : State) (rest : List ℤ) (line : ℕ) (outcome : Outcome) → weight s.todo < n → Less n (comes_to s rest line outcome)
less_outcome n s rest line (Ok value) h = h
less_outcome n s rest line (Err fault) h = tt

reaching_weight : (location : r.Location) (k : List Item) → weight (reaching location k) ≡ location_weight location + weight k
reaching_weight (r.variable number) k = omega arith
reaching_weight (r.cell sharing number line) k = omega arith
reaching_weight (r.element sharing array index line) k = omega arith

reaching_lock_weight : (lock : r.LockPlace) (k : List Item) → weight (reaching_lock lock k) ≡ lock_weight lock + weight k
reaching_lock_weight (r.one_lock lock line) k = omega arith
reaching_lock_weight (r.lock_element array index line) k = omega arith

second_weight : (op : BinaryOp) (line : ℕ) (e : r.Expression) (k : List Item) → weight (second op line e k) ≤ expression_weight e + 2 + weight k
second_weight BinaryOp.And line e k = omega arith
second_weight BinaryOp.Or line e k = omega arith
second_weight op line e k = omega arith

assigning_weight : (op : Option BinaryOp) (line : ℕ) (place : Place) (e : r.Expression) (k : List Item)
    → weight (assigning op line place e k) ≤ expression_weight e + 3 + weight k
assigning_weight None line place e k = omega arith
assigning_weight (Some op) line place e k = omega arith

starting_weight : (start : r.ForStart) (k : List Item) → weight (starting start k) ≡ start_weight start + weight k
starting_weight r.start_nothing k = omega arith
starting_weight (r.start_variables variables) k = omega arith
starting_weight (r.start_expression e) k = omega arith

testing_weight : (k : List Item) (loop : Loop) (test : Option r.Expression)
    → weight (testing k loop test) < option_weight test + option_weight loop.step + statement_weight loop.body + 5 + weight k
testing_weight k loop None = omega arith
testing_weight k loop (Some e) = omega arith

stepping_weight : (k : List Item) (step : Option r.Expression) → weight (stepping k step) ≡ option_weight step + weight k
stepping_weight k None = omega arith
stepping_weight k (Some e) = omega arith

after_loop_weight : (k : List Item) → weight (after_loop k) ≤ weight k
after_loop_weight [] = omega arith
after_loop_weight (third_part loop ∷ k) = omega arith
after_loop_weight (item ∷ k) = omega (arith, after_loop_weight k)

after_body_weight : (k : List Item) → weight (after_body k) ≤ weight k
after_body_weight [] = omega arith
after_body_weight (third_part loop ∷ k) = omega arith
after_body_weight (item ∷ k) = omega (arith, after_body_weight k)

less_load : (n : ℕ) (s : State) (way : Use) (place : Place) → weight s.todo < n → Less n (load_at s way place)
less_load n s way (slot number) h = h
less_load n s way (cell sharing number line) h = less_loads n s sharing number line _ (λ v. h)
less_load n s way (member sharing array line) h = less_member n s line (member_number array (top s.operands)) _ (λ number. less_loads n s sharing number line _ (λ v. h))

less_store : (n : ℕ) (s : State) (place : Place) → weight s.todo < n → Less n (store_at s place)
less_store n s (slot number) h = h
less_store n s (cell sharing number line) h = less_stores n sharing number line _ _ h
less_store n s (member sharing array line) h =
    less_member n s line (member_number array (top (below s.operands))) _ (λ number. less_stores n sharing number line _ _ h)

evaluation_falls : (s : State) (e : r.Expression) → Less (weight (evaluate e ∷ s.todo)) (evaluation s e)
evaluation_falls s (r.number n) = omega arith
evaluation_falls s (r.load location) = omega (arith, reaching_weight location (load (place_of location) Use.for_value ∷ s.todo))
evaluation_falls s (r.call function arguments line) = omega arith
evaluation_falls s (r.unary op line e) = omega arith
evaluation_falls s (r.prefix op line location) =
    omega (arith, reaching_weight location (load (place_of location) Use.for_change ∷ step_by op line ∷ store (place_of location) ∷ s.todo))
evaluation_falls s (r.postfix location op line) =
    omega (arith, reaching_weight location (load (place_of location) Use.for_step_behind ∷ step_by op line ∷ store (place_of location) ∷ discard ∷ s.todo))
evaluation_falls s (r.binary a op line b) = omega (arith, second_weight op line b s.todo)
evaluation_falls s (r.choice test a b) = omega arith
evaluation_falls s (r.assign location op line e) =
    omega (arith, reaching_weight location (assigning (operator_of op) line (place_of location) e s.todo), assigning_weight (operator_of op) line (place_of location) e s.todo)

all_falls : (s : State) (arguments : r.Expressions) → Less (weight (evaluate_all arguments ∷ s.todo)) (evaluation_of_all s arguments)
all_falls s r.nil = omega arith
all_falls s (r.cons e rest) = omega arith

declaring_falls : (s : State) (number : ℕ) (initial : Option r.Expression) → Less (option_weight initial + 2 + weight s.todo) (declaring s number initial)
declaring_falls s number None = omega arith
declaring_falls s number (Some e) = omega arith

less_weight : (n m : ℕ) (move : Move State) → n ≤ m → Less n move → Less m move
less_weight n m (goes t) h less = omega arith
less_weight n m (asks want after) h less = tt

declaration_falls : (s : State) (variables : List r.Variable) → Less (weight (declare variables ∷ s.todo)) (declaration s variables)
declaration_falls s [] = omega arith
declaration_falls s (variable ∷ rest) =
    less_weight _ _ _ (omega arith) (declaring_falls (record s { todo = declare rest ∷ s.todo }) variable.slot variable.initial)

execution_falls : (s : State) (statement : r.Statement) → Less (weight (execute statement ∷ s.todo)) (execution s statement)
execution_falls s (r.block body) = omega arith
execution_falls s r.empty = omega arith
execution_falls s (r.variables variables) = omega arith
execution_falls s (r.expression e) = omega arith
execution_falls s (r.when test body) = omega arith
execution_falls s (r.either test body other) = omega arith
execution_falls s (r.while test body) = omega arith
execution_falls s (r.for start test step body) = omega (arith, starting_weight start (round (record { test = test; step = step; body = body }) ∷ s.todo))
execution_falls s r.break = omega (arith, after_loop_weight s.todo)
execution_falls s r.continue = omega (arith, after_body_weight s.todo)
execution_falls s (r.return None) = omega arith
execution_falls s (r.return (Some e)) = omega arith
execution_falls s (r.acquire lock mode) = omega (arith, reaching_lock_weight lock (ask (lock_place_of lock) mode ∷ s.todo))
execution_falls s (r.release lock) = omega (arith, reaching_lock_weight lock (give (lock_place_of lock) ∷ s.todo))
execution_falls s (r.barrier bar) = tt
execution_falls s (r.print parts) = omega arith

statements_fall : (s : State) (statements : r.Statements) → Less (weight (run statements ∷ s.todo)) (execution_of_all s statements)
statements_fall s r.none = omega arith
statements_fall s (r.then statement rest) = omega arith

gathering_falls : (s : State) (parts : List r.Part) → Less (weight (gather parts ∷ s.todo)) (gathering s parts)
gathering_falls s [] = omega arith
gathering_falls s (r.part_text text ∷ rest) = omega arith
gathering_falls s (r.part_value e ∷ rest) = omega arith

branching_weight : (b : Bool) (k : List Item) (body : r.Statement) (other : Option r.Statement)
    → weight (branching k (cond b (Some body) other)) < weight (branch body other ∷ k)
branching_weight true k body other = omega arith
branching_weight false k body None = omega arith
branching_weight false k body (Some other) = omega arith

decide_weight : (b : Bool) (k : List Item) (loop : Loop) → weight (cond b (execute loop.body ∷ third_part loop ∷ k) k) < weight (decide loop ∷ k)
decide_weight true k loop = omega arith
decide_weight false k loop = omega arith

choose_weight : (b : Bool) (x y : r.Expression) (k : List Item) → weight (evaluate (cond b x y) ∷ k) < weight (choose x y ∷ k)
choose_weight true x y k = omega arith
choose_weight false x y k = omega arith

less_return : (n : ℕ) (s : State) (value : ℤ) (outer : List Frame) → Less n (returns s value outer)
less_return n s value [] = tt
less_return n s value (caller ∷ outer) = tt

act_falls : (functions : List r.Function) (s : State) (item : Item) → Less (weight (item ∷ s.todo)) (act functions s item)
act_falls functions s (evaluate e) = evaluation_falls s e
act_falls functions s (evaluate_all arguments) = all_falls s arguments
act_falls functions s (test_index array line) = less_member _ s line (member_number array (top s.operands)) _ (λ number. omega arith)
act_falls functions s (load place way) = less_load _ s way place (omega arith)
act_falls functions s (store place) = less_store _ s place (omega arith)
act_falls functions s (unary op line) = less_outcome _ s (below s.operands) line (unary_value op (top s.operands)) (omega arith)
act_falls functions s (step_by op line) = less_outcome _ s (below s.operands) line (step_value op (top s.operands)) (omega arith)
act_falls functions s (binary op line) =
    less_outcome _ s (below (below s.operands)) line (binary_value op (top (below s.operands)) (top s.operands)) (omega arith)
act_falls functions s (and_then e) = less_if _ (holds (top s.operands)) _ _ (omega arith) (omega arith)
act_falls functions s (or_else e) = less_if _ (holds (top s.operands)) _ _ (omega arith) (omega arith)
act_falls functions s to_truth = omega arith
act_falls functions s (choose a b) = choose_weight (holds (top s.operands)) a b s.todo
act_falls functions s (enter number line) = less_if _ (nat_lt (length s.outer + 1) 256) _ _ tt tt
act_falls functions s discard = omega arith
act_falls functions s (execute statement) = execution_falls s statement
act_falls functions s (run statements) = statements_fall s statements
act_falls functions s (declare variables) = declaration_falls s variables
act_falls functions s (branch body other) = branching_weight (holds (top s.operands)) s.todo body other
act_falls functions s (round loop) = omega (arith, testing_weight s.todo loop loop.test)
act_falls functions s (decide loop) = decide_weight (holds (top s.operands)) s.todo loop
act_falls functions s (third_part loop) = omega (arith, stepping_weight (jump_back loop ∷ s.todo) loop.step)
act_falls functions s (jump_back loop) = tt
act_falls functions s leave = less_return _ s (top s.operands) s.outer
act_falls functions s (ask lock mode) = less_member _ s (lock_line lock) (lock_number lock s.operands) _ (λ number. tt)
act_falls functions s (take_lock lock mode) = less_member _ s (lock_line lock) (lock_number lock s.operands) _ (λ number. tt)
act_falls functions s (give lock) = less_member _ s (lock_line lock) (lock_number lock s.operands) _ (λ number. tt)
act_falls functions s (cross bar) = tt
act_falls functions s (gather parts) = gathering_falls s parts
act_falls functions s (print parts) = tt

first_falls : (functions : List r.Function) (s : State) (todo : List Item) → Less (weight todo) (act_first functions s todo)
first_falls functions s [] = less_return _ s (pos 0) s.outer
first_falls functions s (item ∷ k) = act_falls functions (record s { todo = k }) item

falls_in : (functions : List r.Function) (s : State) (life : Option Over) → Less (weight s.todo) (step_in functions s life)
falls_in functions s None = first_falls functions s s.todo
falls_in functions s (Some way) = tt

pub step_falls : (functions : List r.Function) (s : State) → Falls weight_at (weight_at s) (step functions s)
step_falls functions s = falls_in functions s s.life

-- a thread that is over stays as it is
pub ready_over : (functions : List r.Function) (s : State) (way : Over) → ready functions (over s way) ≡ over s way
ready_over functions s way = settled_asks (step functions) weight_at (step_falls functions) (over s way) Want.Over (λ answer. over s way) refl
