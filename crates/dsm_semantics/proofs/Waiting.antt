-- Where no take and no crossing is to be done, none comes up but right after its ask or its arrival.
use Rattle.std.proofs.Common.{◌≡◌, ℕ, ◌+◌, nat_lt, ℤ, pos, Bool, true, false, cond, List, [], ◌∷◌, Option, Some, None, Ok, Err, length, refl, ap}
use Rattle.dsm_base.specs.declared.names.Lock.{Lock}
use Rattle.dsm_base.specs.declared.names.Mode.{Mode}
use Rattle.dsm_base.specs.declared.label.Want.{Want}
use Rattle.dsm_syntax.specs.declared.tree.BinaryOp.{BinaryOp}
use Rattle.dsm_syntax.specs.declared.tree.Sharing.{Sharing}
use Rattle.dsm_check.specs.Resolved as r
use Rattle.dsm_values.specs.Values.{Outcome, holds, unary_value, step_value, binary_value}
use Rattle.dsm_semantics.specs.Assignments.{operator_of}
use Rattle.dsm_base.specs.Steps.{Move, goes, asks, Over}
use Rattle.dsm_semantics.specs.States.{Place, slot, cell, member, LockPlace, Use, Loop, Item, evaluate, evaluate_all, test_index, load, store, unary, step_by, binary, and_then, or_else, to_truth, choose, enter, discard, execute, run, declare, branch, round, decide, third_part, jump_back, leave, ask, take_lock, give, cross, gather, print, Frame, State, top, below}
use Rattle.dsm_semantics.specs.Semantics.{member_number, at_member, reaching, place_of, loads, load_at, stores, store_at, comes_to, second, assigning, returns, declaration, declaring, branching, starting, testing, stepping, after_loop, after_body, reaching_lock, lock_line, lock_number, below_index, gathering, evaluation, evaluation_of_all, execution, execution_of_all, act, act_first, step_in, step}

-- States in which no take and no crossing is to be done.

abbrev pub IsNoWait : Item → Type 0
IsNoWait (take_lock lock mode) = ⊥
IsNoWait (cross bar) = ⊥
IsNoWait _ = Unit {0}

abbrev pub AreNoWaits : List Item → Type 0
AreNoWaits [] = Unit {0}
AreNoWaits (item ∷ k) = IsNoWait item × AreNoWaits k

abbrev pub FramesHaveNoWaits : List Frame → Type 0
FramesHaveNoWaits [] = Unit {0}
FramesHaveNoWaits (frame ∷ outer) = AreNoWaits frame.todo × FramesHaveNoWaits outer

abbrev pub HasNoWait : State → Type 0
HasNoWait s = AreNoWaits s.todo × FramesHaveNoWaits s.outer

module _ (functions : List r.Function) where
  -- a state whose step is a take or a crossing, which leaves a free one
  pub record WaitsFor (want : Want) (s : State) : Type 0 where
    pub after : ℤ → State
    pub is : step functions s ≡ asks want after
    pub free : (answer : ℤ) → HasNoWait (after answer)

  -- what a step of a free state leaves, by what it wants
  abbrev pub Leaves : Want → State → Type 0
  Leaves (Want.Ask lock mode line) t = WaitsFor (Want.Take lock mode) t
  Leaves (Want.Arrive bar) t = WaitsFor (Want.Cross bar) t
  Leaves (Want.Take lock mode) t = ⊥
  Leaves (Want.Cross bar) t = ⊥
  Leaves _ t = HasNoWait t

  abbrev pub Keeps : Move State → Type 0
  Keeps (goes t) = HasNoWait t
  Keeps (asks want after) = (answer : ℤ) → Leaves want (after answer)

  keeps_if : (test : Bool) (a b : Move State) → Keeps a → Keeps b → Keeps (cond test a b)
  keeps_if true a b p q = p
  keeps_if false a b p q = q

  keeps_member : (s : State) (line : ℕ) (found : Option ℕ) (go : ℕ → Move State) → HasNoWait s → ((number : ℕ) → Keeps (go number))
      → Keeps (at_member s line found go)
  keeps_member s line None go p h = λ answer. p
  keeps_member s line (Some number) go p h = h number

  keeps_loads : (s : State) (sharing : Sharing) (number line : ℕ) (after : ℤ → State) → ((v : ℤ) → HasNoWait (after v)) → Keeps (loads s sharing number line after)
  keeps_loads s Sharing.Shared number line after h = h
  keeps_loads s Sharing.Private number line after h = h _

  keeps_stores : (sharing : Sharing) (number line : ℕ) (value : ℤ) (after : State) → HasNoWait after → Keeps (stores sharing number line value after)
  keeps_stores Sharing.Shared number line value after h = λ answer. h
  keeps_stores Sharing.Private number line value after h = h

  keeps_outcome : (s : State) (rest : List ℤ) (line : ℕ) (outcome : Outcome) → HasNoWait s → Keeps (comes_to s rest line outcome)
  keeps_outcome s rest line (Ok value) p = p
  keeps_outcome s rest line (Err fault) p = λ answer. p

  free_reaching : (location : r.Location) (k : List Item) → AreNoWaits k → AreNoWaits (reaching location k)
  free_reaching (r.variable number) k h = h
  free_reaching (r.cell sharing number line) k h = h
  free_reaching (r.element sharing array index line) k h = (tt, (tt, h))

  free_reaching_lock : (lock : r.LockPlace) (k : List Item) → AreNoWaits k → AreNoWaits (reaching_lock lock k)
  free_reaching_lock (r.one_lock lock line) k h = h
  free_reaching_lock (r.lock_element array index line) k h = (tt, (tt, h))

  free_second : (op : BinaryOp) (line : ℕ) (e : r.Expression) (k : List Item) → AreNoWaits k → AreNoWaits (second op line e k)
  free_second BinaryOp.And line e k h = (tt, h)
  free_second BinaryOp.Or line e k h = (tt, h)
  free_second op line e k h = (tt, (tt, h))

  free_assigning : (op : Option BinaryOp) (line : ℕ) (place : Place) (e : r.Expression) (k : List Item) → AreNoWaits k → AreNoWaits (assigning op line place e k)
  free_assigning None line place e k h = (tt, (tt, h))
  free_assigning (Some op) line place e k h = (tt, (tt, (tt, (tt, h))))

  free_starting : (start : r.ForStart) (k : List Item) → AreNoWaits k → AreNoWaits (starting start k)
  free_starting r.start_nothing k h = h
  free_starting (r.start_variables variables) k h = (tt, h)
  free_starting (r.start_expression e) k h = (tt, (tt, h))

  free_testing : (k : List Item) (loop : Loop) (test : Option r.Expression) → AreNoWaits k → AreNoWaits (testing k loop test)
  free_testing k loop None h = (tt, (tt, h))
  free_testing k loop (Some e) h = (tt, (tt, h))

  free_stepping : (k : List Item) (step : Option r.Expression) → AreNoWaits k → AreNoWaits (stepping k step)
  free_stepping k None h = h
  free_stepping k (Some e) h = (tt, (tt, h))

  free_branching : (k : List Item) (body : Option r.Statement) → AreNoWaits k → AreNoWaits (branching k body)
  free_branching k None h = h
  free_branching k (Some body) h = (tt, h)

  free_if : (test : Bool) (k l : List Item) → AreNoWaits k → AreNoWaits l → AreNoWaits (cond test k l)
  free_if true k l p q = p
  free_if false k l p q = q

  free_after_loop : (k : List Item) → AreNoWaits k → AreNoWaits (after_loop k)
  free_after_loop [] h = h
  free_after_loop (third_part loop ∷ k) h = h.1
  free_after_loop (item ∷ k) h = free_after_loop k h.1

  free_after_body : (k : List Item) → AreNoWaits k → AreNoWaits (after_body k)
  free_after_body [] h = h
  free_after_body (third_part loop ∷ k) h = h
  free_after_body (item ∷ k) h = free_after_body k h.1

  keeps_load : (s : State) (way : Use) (place : Place) → HasNoWait s → Keeps (load_at s way place)
  keeps_load s way (slot number) p = p
  keeps_load s way (cell sharing number line) p = keeps_loads s sharing number line _ (λ v. p)
  keeps_load s way (member sharing array line) p =
      keeps_member s line (member_number array (top s.operands)) _ p (λ number. keeps_loads s sharing number line _ (λ v. p))

  keeps_store : (s : State) (place : Place) → HasNoWait s → Keeps (store_at s place)
  keeps_store s (slot number) p = p
  keeps_store s (cell sharing number line) p = keeps_stores sharing number line _ _ p
  keeps_store s (member sharing array line) p =
      keeps_member s line (member_number array (top (below s.operands))) _ p (λ number. keeps_stores sharing number line _ _ p)

  keeps_evaluation : (s : State) (e : r.Expression) → HasNoWait s → Keeps (evaluation s e)
  keeps_evaluation s (r.number n) p = p
  keeps_evaluation s (r.load location) p = (free_reaching location _ (tt, p.0), p.1)
  keeps_evaluation s (r.call function arguments line) p = ((tt, (tt, p.0)), p.1)
  keeps_evaluation s (r.unary op line e) p = ((tt, (tt, p.0)), p.1)
  keeps_evaluation s (r.prefix op line location) p = (free_reaching location _ (tt, (tt, (tt, p.0))), p.1)
  keeps_evaluation s (r.postfix location op line) p = (free_reaching location _ (tt, (tt, (tt, (tt, p.0)))), p.1)
  keeps_evaluation s (r.binary a op line b) p = ((tt, free_second op line b s.todo p.0), p.1)
  keeps_evaluation s (r.choice test a b) p = ((tt, (tt, p.0)), p.1)
  keeps_evaluation s (r.assign location op line e) p =
      (free_reaching location _ (free_assigning (operator_of op) line (place_of location) e s.todo p.0), p.1)

  keeps_all : (s : State) (arguments : r.Expressions) → HasNoWait s → Keeps (evaluation_of_all s arguments)
  keeps_all s r.nil p = p
  keeps_all s (r.cons e rest) p = ((tt, (tt, p.0)), p.1)

  keeps_declaring : (s : State) (number : ℕ) (initial : Option r.Expression) → HasNoWait s → Keeps (declaring s number initial)
  keeps_declaring s number None p = p
  keeps_declaring s number (Some e) p = ((tt, (tt, (tt, p.0))), p.1)

  keeps_declaration : (s : State) (variables : List r.Variable) → HasNoWait s → Keeps (declaration s variables)
  keeps_declaration s [] p = p
  keeps_declaration s (variable ∷ rest) p = keeps_declaring (record s { todo = declare rest ∷ s.todo }) variable.slot variable.initial ((tt, p.0), p.1)

  keeps_execution : (s : State) (statement : r.Statement) → HasNoWait s → s.life ≡ None → Keeps (execution s statement)
  keeps_execution s (r.block body) p going_on = ((tt, p.0), p.1)
  keeps_execution s r.empty p going_on = p
  keeps_execution s (r.variables variables) p going_on = ((tt, p.0), p.1)
  keeps_execution s (r.expression e) p going_on = ((tt, (tt, p.0)), p.1)
  keeps_execution s (r.when test body) p going_on = ((tt, (tt, p.0)), p.1)
  keeps_execution s (r.either test body other) p going_on = ((tt, (tt, p.0)), p.1)
  keeps_execution s (r.while test body) p going_on = ((tt, p.0), p.1)
  keeps_execution s (r.for start test step body) p going_on = (free_starting start _ (tt, p.0), p.1)
  keeps_execution s r.break p going_on = (free_after_loop s.todo p.0, p.1)
  keeps_execution s r.continue p going_on = (free_after_body s.todo p.0, p.1)
  keeps_execution s (r.return None) p going_on = ((tt, p.0), p.1)
  keeps_execution s (r.return (Some e)) p going_on = ((tt, (tt, p.0)), p.1)
  keeps_execution s (r.acquire lock mode) p going_on = (free_reaching_lock lock _ (tt, p.0), p.1)
  keeps_execution s (r.release lock) p going_on = (free_reaching_lock lock _ (tt, p.0), p.1)
  keeps_execution s (r.barrier bar) p going_on = λ answer. record {
    after = λ answer. s;
    is = ap (step_in functions (record s { todo = cross bar ∷ s.todo })) going_on;
    free = λ answer. p;
  }
  keeps_execution s (r.print parts) p going_on = ((tt, (tt, p.0)), p.1)

  keeps_statements : (s : State) (statements : r.Statements) → HasNoWait s → Keeps (execution_of_all s statements)
  keeps_statements s r.none p = p
  keeps_statements s (r.then statement rest) p = ((tt, (tt, p.0)), p.1)

  keeps_gathering : (s : State) (parts : List r.Part) → HasNoWait s → Keeps (gathering s parts)
  keeps_gathering s [] p = p
  keeps_gathering s (r.part_text text ∷ rest) p = ((tt, p.0), p.1)
  keeps_gathering s (r.part_value e ∷ rest) p = ((tt, (tt, p.0)), p.1)

  keeps_returns : (s : State) (value : ℤ) (outer : List Frame) → HasNoWait s → FramesHaveNoWaits outer → Keeps (returns s value outer)
  keeps_returns s value [] p h = λ answer. p
  keeps_returns s value (caller ∷ outer) p h = λ answer. h

  -- an ask and the take behind it find the same lock
  module _ (s : State) (lock : LockPlace) (mode : Mode) (p : HasNoWait s) where
    abbrev waiting : State
    waiting = record s { todo = take_lock lock mode ∷ s.todo }

    abbrev asking : Lock → Move State
    asking l = asks (Want.Ask l mode (lock_line lock)) (λ answer. waiting)

    abbrev taking : Lock → Move State
    taking l = asks (Want.Take l mode) (λ answer. record s { operands = below_index lock s.operands })

    asks_member : (found : Option ℕ) → step functions waiting ≡ at_member s (lock_line lock) found (λ number. taking (record { 0 = number }))
        → Keeps (at_member s (lock_line lock) found (λ number. asking (record { 0 = number })))
    asks_member None is = λ answer. p
    asks_member (Some number) is = λ answer. record {
      after = λ answer. record s { operands = below_index lock s.operands };
      is = is;
      free = λ answer. p;
    }

  keeps_ask : (s : State) (lock : LockPlace) (mode : Mode) → HasNoWait s → s.life ≡ None → Keeps (act functions s (ask lock mode))
  keeps_ask s lock mode p going_on =
      asks_member s lock mode p (lock_number lock s.operands) (ap (step_in functions (record s { todo = take_lock lock mode ∷ s.todo })) going_on)

  keeps_act : (s : State) (item : Item) → HasNoWait s → IsNoWait item → s.life ≡ None → Keeps (act functions s item)
  keeps_act s (evaluate e) p i going_on = keeps_evaluation s e p
  keeps_act s (evaluate_all arguments) p i going_on = keeps_all s arguments p
  keeps_act s (test_index array line) p i going_on = keeps_member s line (member_number array (top s.operands)) _ p (λ number. p)
  keeps_act s (load place way) p i going_on = keeps_load s way place p
  keeps_act s (store place) p i going_on = keeps_store s place p
  keeps_act s (unary op line) p i going_on = keeps_outcome s _ line (unary_value op (top s.operands)) p
  keeps_act s (step_by op line) p i going_on = keeps_outcome s _ line (step_value op (top s.operands)) p
  keeps_act s (binary op line) p i going_on = keeps_outcome s _ line (binary_value op (top (below s.operands)) (top s.operands)) p
  keeps_act s (and_then e) p i going_on = keeps_if (holds (top s.operands)) _ _ ((tt, (tt, p.0)), p.1) p
  keeps_act s (or_else e) p i going_on = keeps_if (holds (top s.operands)) _ _ p ((tt, (tt, p.0)), p.1)
  keeps_act s to_truth p i going_on = p
  keeps_act s (choose a b) p i going_on = ((tt, p.0), p.1)
  keeps_act s (enter number line) p i going_on = keeps_if (nat_lt (length s.outer + 1) 256) _ _ (λ answer. ((tt, tt), p)) (λ answer. p)
  keeps_act s discard p i going_on = p
  keeps_act s (execute statement) p i going_on = keeps_execution s statement p going_on
  keeps_act s (run statements) p i going_on = keeps_statements s statements p
  keeps_act s (declare variables) p i going_on = keeps_declaration s variables p
  keeps_act s (branch body other) p i going_on = (free_branching s.todo (cond (holds (top s.operands)) (Some body) other) p.0, p.1)
  keeps_act s (round loop) p i going_on = (free_testing s.todo loop loop.test p.0, p.1)
  keeps_act s (decide loop) p i going_on = (free_if (holds (top s.operands)) _ s.todo (tt, (tt, p.0)) p.0, p.1)
  keeps_act s (third_part loop) p i going_on = (free_stepping (jump_back loop ∷ s.todo) loop.step (tt, p.0), p.1)
  keeps_act s (jump_back loop) p i going_on = λ answer. ((tt, p.0), p.1)
  keeps_act s leave p i going_on = keeps_returns s (top s.operands) s.outer p p.1
  keeps_act s (ask lock mode) p i going_on = keeps_ask s lock mode p going_on
  keeps_act s (take_lock lock mode) p i going_on = absurd i
  keeps_act s (give lock) p i going_on = keeps_member s (lock_line lock) (lock_number lock s.operands) _ p (λ number answer. p)
  keeps_act s (cross bar) p i going_on = absurd i
  keeps_act s (gather parts) p i going_on = keeps_gathering s parts p
  keeps_act s (print parts) p i going_on = λ answer. p

  keeps_first : (s : State) (todo : List Item) → HasNoWait s → AreNoWaits todo → s.life ≡ None → Keeps (act_first functions s todo)
  keeps_first s [] p h going_on = keeps_returns s (pos 0) s.outer p p.1
  keeps_first s (item ∷ k) p h going_on = keeps_act (record s { todo = k }) item (h.1, p.1) h.0 going_on

  keeps_in : (s : State) (life : Option Over) → s.life ≡ life → HasNoWait s → Keeps (step_in functions s life)
  keeps_in s None is p = keeps_first s s.todo p p.0 is
  keeps_in s (Some way) is p = λ answer. p

  pub step_keeps : (s : State) → HasNoWait s → Keeps (step functions s)
  step_keeps s p = keeps_in s s.life refl p
