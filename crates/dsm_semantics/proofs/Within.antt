-- A thread of a program that names only cells, locks and barriers that there are wants no others.
use Rattle.std.proofs.Common.{◌≡◌, ℕ, zero, suc, ◌+◌, ◌<◌, nat_lt, ℤ, pos, negsuc, Bool, true, false, cond, List, [], ◌∷◌, Option, Some, None, Ok, Err, length, refl, subst, arith}
use Rattle.std.specs.Prelude.{slice_get}
use borrow.Author.Tests.{ltb-true}
use Rattle.dsm_base.specs.declared.names.Fault.{Fault}
use Rattle.dsm_base.specs.declared.label.Want.{Want}
use Rattle.dsm_base.specs.declared.label.Label.{Label}
use Rattle.dsm_base.specs.declared.setup.Setup.{Setup}
use Rattle.dsm_base.specs.Threads.{Names, StaysWithin, state_after}
use Rattle.dsm_syntax.specs.declared.tree.BinaryOp.{BinaryOp}
use Rattle.dsm_syntax.specs.declared.tree.Sharing.{Sharing}
use Rattle.dsm_check.specs.declared.resolved.Array.{Array}
use Rattle.dsm_check.specs.Resolved as r
use Rattle.dsm_values.specs.Values.{Outcome, holds, unary_value, step_value, binary_value}
use Rattle.dsm_semantics.specs.Assignments.{operator_of}
use Rattle.dsm_base.specs.Steps.{Move, goes, asks, want_of, next_of, Over}
use Rattle.dsm_semantics.specs.States.{Place, slot, cell, member, LockPlace, one_lock, lock_member, Use, Loop, Item, evaluate, evaluate_all, test_index, load, store, unary, step_by, binary, and_then, or_else, to_truth, choose, enter, discard, execute, run, declare, branch, round, decide, third_part, jump_back, leave, ask, take_lock, give, cross, gather, print, Frame, State, top, below}
use Rattle.dsm_semantics.specs.Within.{Extent, extent_of, IsArrayBelow, IsCellWithin, IsArrayWithin, IsLocationWithin, IsWithin, AreWithin, IsOptionWithin, AreVariablesWithin, ArePartsWithin, IsStartWithin, IsLockWithin, IsStatementWithin, AreStatementsWithin, AreFunctionsWithin, NamesWithin, IsPlaceWithin, IsLockPlaceWithin, IsOtherWithin, IsLoopWithin, IsItemWithin, AreItemsWithin, AreFramesWithin, IsStateWithin}
use Rattle.dsm_semantics.specs.Semantics.{numbered, entered, faults, member_number, at_member, reaching, place_of, loads, load_at, stores, store_at, comes_to, second, assigning, entering, returns, declaration, declaring, branching, starting, testing, stepping, after_loop, after_body, reaching_lock, lock_place_of, lock_line, lock_number, gathering, evaluation, evaluation_of_all, execution, execution_of_all, act, act_first, step_in, step, ready, completed, program_semantics, first_state}
use Rattle.dsm_base.proofs.StepsSettle.{settled_keeps}
use Rattle.dsm_semantics.proofs.Falls.{weight_at, step_falls}

if_found : (test : Bool) (number found : ℕ) → cond test (Some number) None ≡ Some found → (test ≡ true) × (number ≡ found)
if_found true number found is = (refl, cc (is))
if_found false number found is = cc (is)

member_below : (bound : ℕ) (array : Array) (index : ℤ) (number : ℕ) → IsArrayBelow bound array → member_number array index ≡ Some number → number < bound
member_below bound array (pos i) number within is =
    let found = if_found (nat_lt i array.size) (array.first + i) number is in omega (arith, ltb-true i array.size found.0, found.1)
member_below bound array (negsuc i) number within is = cc (is)

pub body_within : (extent : Extent) (functions : List r.Function) (number : ℕ) → AreFunctionsWithin extent functions
    → AreStatementsWithin extent (numbered (slice_get functions number)).body
body_within extent [] number within = tt
body_within extent (function ∷ rest) zero within = within.0
body_within extent (function ∷ rest) (suc number) within = body_within extent rest number within.1

module _ (extent : Extent) (functions : List r.Function) (all : AreFunctionsWithin extent functions) where
  -- what a step wants, and what it leaves
  abbrev pub KeepsWithin : Move State → Type 0
  KeepsWithin (goes t) = IsStateWithin extent t
  KeepsWithin (asks want after) = NamesWithin extent want × ((answer : ℤ) → IsStateWithin extent (after answer))

  within_if : (test : Bool) (a b : Move State) → (test ≡ true → KeepsWithin a) → KeepsWithin b → KeepsWithin (cond test a b)
  within_if true a b p q = p refl
  within_if false a b p q = q

  within_fault : (s : State) (fault : Fault) (line : ℕ) → IsStateWithin extent s → KeepsWithin (faults s fault line)
  within_fault s fault line p = (tt, λ answer. p)

  within_member : (s : State) (line : ℕ) (found : Option ℕ) (go : ℕ → Move State) → IsStateWithin extent s
      → ((number : ℕ) → found ≡ Some number → KeepsWithin (go number)) → KeepsWithin (at_member s line found go)
  within_member s line None go p h = within_fault s Fault.Index line p
  within_member s line (Some number) go p h = h number refl

  within_loads : (s : State) (sharing : Sharing) (number line : ℕ) (after : ℤ → State) → IsCellWithin extent sharing number
      → ((v : ℤ) → IsStateWithin extent (after v)) → KeepsWithin (loads s sharing number line after)
  within_loads s Sharing.Shared number line after c h = (c, h)
  within_loads s Sharing.Private number line after c h = h _

  within_stores : (sharing : Sharing) (number line : ℕ) (value : ℤ) (after : State) → IsCellWithin extent sharing number
      → IsStateWithin extent after → KeepsWithin (stores sharing number line value after)
  within_stores Sharing.Shared number line value after c h = (c, λ answer. h)
  within_stores Sharing.Private number line value after c h = h

  cell_of_array : (sharing : Sharing) (array : Array) (index : ℤ) (number : ℕ) → IsArrayWithin extent sharing array → member_number array index ≡ Some number
      → IsCellWithin extent sharing number
  cell_of_array Sharing.Shared array index number within is = member_below extent.cells array index number within is
  cell_of_array Sharing.Private array index number within is = tt

  within_outcome : (s : State) (rest : List ℤ) (line : ℕ) (outcome : Outcome) → IsStateWithin extent s
      → KeepsWithin (comes_to s rest line outcome)
  within_outcome s rest line (Ok value) p = p
  within_outcome s rest line (Err fault) p = within_fault s fault line p

  place_within : (location : r.Location) → IsLocationWithin extent location → IsPlaceWithin extent (place_of location)
  place_within (r.variable number) w = tt
  place_within (r.cell sharing number line) w = w
  place_within (r.element sharing array index line) w = w.0

  within_reaching : (location : r.Location) (k : List Item) → IsLocationWithin extent location → AreItemsWithin extent k → AreItemsWithin extent (reaching location k)
  within_reaching (r.variable number) k w h = h
  within_reaching (r.cell sharing number line) k w h = h
  within_reaching (r.element sharing array index line) k w h = (w.1, (tt, h))

  lock_place_within : (lock : r.LockPlace) → IsLockWithin extent lock → IsLockPlaceWithin extent (lock_place_of lock)
  lock_place_within (r.one_lock lock line) w = w
  lock_place_within (r.lock_element array index line) w = w.0

  within_reaching_lock : (lock : r.LockPlace) (k : List Item) → IsLockWithin extent lock → AreItemsWithin extent k → AreItemsWithin extent (reaching_lock lock k)
  within_reaching_lock (r.one_lock lock line) k w h = h
  within_reaching_lock (r.lock_element array index line) k w h = (w.1, (tt, h))

  within_second : (op : BinaryOp) (line : ℕ) (e : r.Expression) (k : List Item) → IsWithin extent e → AreItemsWithin extent k → AreItemsWithin extent (second op line e k)
  within_second BinaryOp.And line e k w h = (w, h)
  within_second BinaryOp.Or line e k w h = (w, h)
  within_second op line e k w h = (w, (tt, h))

  within_assigning : (op : Option BinaryOp) (line : ℕ) (place : Place) (e : r.Expression) (k : List Item) → IsPlaceWithin extent place → IsWithin extent e
      → AreItemsWithin extent k → AreItemsWithin extent (assigning op line place e k)
  within_assigning None line place e k c w h = (w, (c, h))
  within_assigning (Some op) line place e k c w h = (c, (w, (tt, (c, h))))

  within_starting : (start : r.ForStart) (k : List Item) → IsStartWithin extent start → AreItemsWithin extent k → AreItemsWithin extent (starting start k)
  within_starting r.start_nothing k w h = h
  within_starting (r.start_variables variables) k w h = (w, h)
  within_starting (r.start_expression e) k w h = (w, (tt, h))

  within_testing : (k : List Item) (loop : Loop) (test : Option r.Expression) → IsOptionWithin extent test → IsLoopWithin extent loop → AreItemsWithin extent k
      → AreItemsWithin extent (testing k loop test)
  within_testing k loop None w l h = (l.2, (l, h))
  within_testing k loop (Some e) w l h = (w, (l, h))

  within_stepping : (k : List Item) (step : Option r.Expression) → IsOptionWithin extent step → AreItemsWithin extent k → AreItemsWithin extent (stepping k step)
  within_stepping k None w h = h
  within_stepping k (Some e) w h = (w, (tt, h))

  within_branching : (test : Bool) (k : List Item) (body : r.Statement) (other : Option r.Statement) → IsStatementWithin extent body → IsOtherWithin extent other
      → AreItemsWithin extent k → AreItemsWithin extent (branching k (cond test (Some body) other))
  within_branching true k body other w o h = (w, h)
  within_branching false k body None w o h = h
  within_branching false k body (Some other) w o h = (o, h)

  within_choice : (test : Bool) (a b : r.Expression) → IsWithin extent a → IsWithin extent b → IsWithin extent (cond test a b)
  within_choice true a b p q = p
  within_choice false a b p q = q

  items_if : (test : Bool) (k l : List Item) → AreItemsWithin extent k → AreItemsWithin extent l → AreItemsWithin extent (cond test k l)
  items_if true k l p q = p
  items_if false k l p q = q

  within_after_loop : (k : List Item) → AreItemsWithin extent k → AreItemsWithin extent (after_loop k)
  within_after_loop [] h = h
  within_after_loop (third_part loop ∷ k) h = h.1
  within_after_loop (item ∷ k) h = within_after_loop k h.1

  within_after_body : (k : List Item) → AreItemsWithin extent k → AreItemsWithin extent (after_body k)
  within_after_body [] h = h
  within_after_body (third_part loop ∷ k) h = h
  within_after_body (item ∷ k) h = within_after_body k h.1

  within_load : (s : State) (way : Use) (place : Place) → IsStateWithin extent s → IsPlaceWithin extent place
      → KeepsWithin (load_at s way place)
  within_load s way (slot number) p c = p
  within_load s way (cell sharing number line) p c = within_loads s sharing number line _ c (λ v. p)
  within_load s way (member sharing array line) p c =
      within_member s line (member_number array (top s.operands)) _ p (λ number is. within_loads s sharing number line _ (cell_of_array sharing array (top s.operands) number c is) (λ v. p))

  within_store : (s : State) (place : Place) → IsStateWithin extent s → IsPlaceWithin extent place
      → KeepsWithin (store_at s place)
  within_store s (slot number) p c = p
  within_store s (cell sharing number line) p c = within_stores sharing number line _ _ c p
  within_store s (member sharing array line) p c =
      within_member s line (member_number array (top (below s.operands))) _ p (λ number is. within_stores sharing number line _ _ (cell_of_array sharing array (top (below s.operands)) number c is) p)

  lock_below : (lock : LockPlace) (operands : List ℤ) (number : ℕ) → IsLockPlaceWithin extent lock → lock_number lock operands ≡ Some number → number < extent.locks
  lock_below (one_lock l line) operands number c is = let same : l.0 ≡ number = cc (is) in omega (arith, same)
  lock_below (lock_member array line) operands number c is = member_below extent.locks array (top operands) number c is

  within_evaluation : (s : State) (e : r.Expression) → IsStateWithin extent s → IsWithin extent e → KeepsWithin (evaluation s e)
  within_evaluation s (r.number n) p w = p
  within_evaluation s (r.load location) p w = (within_reaching location _ w (place_within location w, p.0), p.1)
  within_evaluation s (r.call function arguments line) p w = ((w, (tt, p.0)), p.1)
  within_evaluation s (r.unary op line e) p w = ((w, (tt, p.0)), p.1)
  within_evaluation s (r.prefix op line location) p w =
      (within_reaching location _ w (place_within location w, (tt, (place_within location w, p.0))), p.1)
  within_evaluation s (r.postfix location op line) p w =
      (within_reaching location _ w (place_within location w, (tt, (place_within location w, (tt, p.0)))), p.1)
  within_evaluation s (r.binary a op line b) p w = ((w.0, within_second op line b s.todo w.1 p.0), p.1)
  within_evaluation s (r.choice test a b) p w = ((w.0, ((w.1, w.2), p.0)), p.1)
  within_evaluation s (r.assign location op line e) p w =
      (within_reaching location _ w.0 (within_assigning (operator_of op) line (place_of location) e s.todo (place_within location w.0) w.1 p.0), p.1)

  within_all : (s : State) (arguments : r.Expressions) → IsStateWithin extent s → AreWithin extent arguments
      → KeepsWithin (evaluation_of_all s arguments)
  within_all s r.nil p w = p
  within_all s (r.cons e rest) p w = ((w.0, (w.1, p.0)), p.1)

  within_declaring : (s : State) (number : ℕ) (initial : Option r.Expression) → IsStateWithin extent s → IsOptionWithin extent initial
      → KeepsWithin (declaring s number initial)
  within_declaring s number None p w = p
  within_declaring s number (Some e) p w = ((w, (tt, (tt, p.0))), p.1)

  within_declaration : (s : State) (variables : List r.Variable) → IsStateWithin extent s → AreVariablesWithin extent variables
      → KeepsWithin (declaration s variables)
  within_declaration s [] p w = p
  within_declaration s (variable ∷ rest) p w = within_declaring (record s { todo = declare rest ∷ s.todo }) variable.slot variable.initial ((w.1, p.0), p.1) w.0

  within_execution : (s : State) (statement : r.Statement) → IsStateWithin extent s → IsStatementWithin extent statement
      → KeepsWithin (execution s statement)
  within_execution s (r.block body) p w = ((w, p.0), p.1)
  within_execution s r.empty p w = p
  within_execution s (r.variables variables) p w = ((w, p.0), p.1)
  within_execution s (r.expression e) p w = ((w, (tt, p.0)), p.1)
  within_execution s (r.when test body) p w = ((w.0, ((w.1, tt), p.0)), p.1)
  within_execution s (r.either test body other) p w = ((w.0, ((w.1, w.2), p.0)), p.1)
  within_execution s (r.while test body) p w = (((w.0, tt, w.1), p.0), p.1)
  within_execution s (r.for start test step body) p w = (within_starting start _ w.0 ((w.1, w.2, w.3), p.0), p.1)
  within_execution s r.break p w = (within_after_loop s.todo p.0, p.1)
  within_execution s r.continue p w = (within_after_body s.todo p.0, p.1)
  within_execution s (r.return None) p w = ((tt, p.0), p.1)
  within_execution s (r.return (Some e)) p w = ((w, (tt, p.0)), p.1)
  within_execution s (r.acquire lock mode) p w = (within_reaching_lock lock _ w (lock_place_within lock w, p.0), p.1)
  within_execution s (r.release lock) p w = (within_reaching_lock lock _ w (lock_place_within lock w, p.0), p.1)
  within_execution s (r.barrier bar) p w = (w, λ answer. ((w, p.0), p.1))
  within_execution s (r.print parts) p w = ((w.0, (w, p.0)), p.1)

  within_statements : (s : State) (statements : r.Statements) → IsStateWithin extent s → AreStatementsWithin extent statements
      → KeepsWithin (execution_of_all s statements)
  within_statements s r.none p w = p
  within_statements s (r.then statement rest) p w = ((w.0, (w.1, p.0)), p.1)

  within_gathering : (s : State) (parts : List r.Part) → IsStateWithin extent s → ArePartsWithin extent parts
      → KeepsWithin (gathering s parts)
  within_gathering s [] p w = p
  within_gathering s (r.part_text text ∷ rest) p w = ((w.1, p.0), p.1)
  within_gathering s (r.part_value e ∷ rest) p w = ((w.0, (w.1, p.0)), p.1)

  within_returns : (s : State) (value : ℤ) (outer : List Frame) → IsStateWithin extent s → AreFramesWithin extent outer → KeepsWithin (returns s value outer)
  within_returns s value [] p h = (tt, λ answer. p)
  within_returns s value (caller ∷ outer) p h = (tt, λ answer. h)

  within_entering : (s : State) (line : ℕ) (function : r.Function) → IsStateWithin extent s
      → AreStatementsWithin extent function.body → KeepsWithin (entering s line function)
  within_entering s line function p w =
      within_if (nat_lt (length s.outer + 1) 256) (asks Want.Quiet (λ answer. entered s function)) (faults s Fault.Depth line)
      (λ test. (tt, λ answer. ((w, tt), p))) (within_fault s Fault.Depth line p)

  within_act : (s : State) (item : Item) → IsStateWithin extent s → IsItemWithin extent item
      → KeepsWithin (act functions s item)
  within_act s (evaluate e) p w = within_evaluation s e p w
  within_act s (evaluate_all arguments) p w = within_all s arguments p w
  within_act s (test_index array line) p w = within_member s line (member_number array (top s.operands)) _ p (λ number is. p)
  within_act s (load place way) p w = within_load s way place p w
  within_act s (store place) p w = within_store s place p w
  within_act s (unary op line) p w = within_outcome s _ line (unary_value op (top s.operands)) p
  within_act s (step_by op line) p w = within_outcome s _ line (step_value op (top s.operands)) p
  within_act s (binary op line) p w = within_outcome s _ line (binary_value op (top (below s.operands)) (top s.operands)) p
  within_act s (and_then e) p w = within_if (holds (top s.operands)) _ _ (λ test. ((w, (tt, p.0)), p.1)) p
  within_act s (or_else e) p w = within_if (holds (top s.operands)) _ _ (λ test. p) ((w, (tt, p.0)), p.1)
  within_act s to_truth p w = p
  within_act s (choose a b) p w = ((within_choice (holds (top s.operands)) a b w.0 w.1, p.0), p.1)
  within_act s (enter number line) p w = within_entering s line (numbered (slice_get functions number)) p (body_within extent functions number all)
  within_act s discard p w = p
  within_act s (execute statement) p w = within_execution s statement p w
  within_act s (run statements) p w = within_statements s statements p w
  within_act s (declare variables) p w = within_declaration s variables p w
  within_act s (branch body other) p w = (within_branching (holds (top s.operands)) s.todo body other w.0 w.1 p.0, p.1)
  within_act s (round loop) p w = (within_testing s.todo loop loop.test w.0 w p.0, p.1)
  within_act s (decide loop) p w = (items_if (holds (top s.operands)) _ s.todo (w.2, (w, p.0)) p.0, p.1)
  within_act s (third_part loop) p w = (within_stepping (jump_back loop ∷ s.todo) loop.step w.1 (w, p.0), p.1)
  within_act s (jump_back loop) p w = (tt, λ answer. ((w, p.0), p.1))
  within_act s leave p w = within_returns s (top s.operands) s.outer p p.1
  within_act s (ask lock mode) p w = within_member s (lock_line lock) (lock_number lock s.operands) _ p (λ number is. (lock_below lock s.operands number w is, λ answer. ((w, p.0), p.1)))
  within_act s (take_lock lock mode) p w = within_member s (lock_line lock) (lock_number lock s.operands) _ p (λ number is. (lock_below lock s.operands number w is, λ answer. p))
  within_act s (give lock) p w = within_member s (lock_line lock) (lock_number lock s.operands) _ p (λ number is. (lock_below lock s.operands number w is, λ answer. p))
  within_act s (cross bar) p w = (w, λ answer. p)
  within_act s (gather parts) p w = within_gathering s parts p w
  within_act s (print parts) p w = (tt, λ answer. p)

  within_first : (s : State) (todo : List Item) → IsStateWithin extent s → AreItemsWithin extent todo → KeepsWithin (act_first functions s todo)
  within_first s [] p h = within_returns s (pos 0) s.outer p p.1
  within_first s (item ∷ k) p h = within_act (record s { todo = k }) item (h.1, p.1) h.0

  within_in : (s : State) (life : Option Over) → IsStateWithin extent s → KeepsWithin (step_in functions s life)
  within_in s None p = within_first s s.todo p p.0
  within_in s (Some way) p = (tt, λ answer. p)

  pub step_within : (s : State) → IsStateWithin extent s → KeepsWithin (step functions s)
  step_within s p = within_in s s.life p

  pub goes_within : (s t : State) → IsStateWithin extent s → step functions s ≡ goes t → IsStateWithin extent t
  goes_within s t p is = subst KeepsWithin is (step_within s p)

  pub ready_within : (s : State) → IsStateWithin extent s → IsStateWithin extent (ready functions s)
  ready_within s p = settled_keeps (step functions) weight_at (step_falls functions) (IsStateWithin extent) goes_within s p

  next_within : (s : State) (answer : ℤ) (move : Move State) → IsStateWithin extent s → KeepsWithin move → IsStateWithin extent (next_of s answer move)
  next_within s answer (goes t) p keeps = p
  next_within s answer (asks want after) p keeps = keeps.1 answer

  pub completed_within : (s : State) (label : Label) → IsStateWithin extent s → IsStateWithin extent (completed functions s label)
  completed_within s (Label.Stop fault line) p = (tt, tt)
  completed_within s Label.End p = (tt, tt)
  completed_within s Label.Quiet p = next_within s _ _ p (step_within s p)
  completed_within s (Label.Load number value) p = next_within s _ _ p (step_within s p)
  completed_within s (Label.Store number value) p = next_within s _ _ p (step_within s p)
  completed_within s (Label.Ask lock mode) p = next_within s _ _ p (step_within s p)
  completed_within s (Label.Take lock mode version) p = next_within s _ _ p (step_within s p)
  completed_within s (Label.Give lock) p = next_within s _ _ p (step_within s p)
  completed_within s (Label.Arrive bar) p = next_within s _ _ p (step_within s p)
  completed_within s (Label.Cross bar epoch) p = next_within s _ _ p (step_within s p)
  completed_within s (Label.Line text) p = next_within s _ _ p (step_within s p)

  names_of : (move : Move State) → KeepsWithin move → NamesWithin extent (want_of move)
  names_of (goes t) keeps = tt
  names_of (asks want after) keeps = keeps.0

  pub want_within : (s : State) → IsStateWithin extent s → NamesWithin extent (want_of (step functions s))
  want_within s p = names_of (step functions s) (step_within s p)

  pub first_within : (main private_cells procs me : ℕ) → IsStateWithin extent (first_state functions main private_cells procs me)
  first_within main private_cells procs me = ready_within _ ((body_within extent functions main all, tt), tt)

names_in : (setup : Setup) (want : Want) → NamesWithin (extent_of setup) want → Names setup want
names_in setup Want.Quiet w = w
names_in setup (Want.Load number line) w = w
names_in setup (Want.Store number value line) w = w
names_in setup (Want.Ask lock mode line) w = w
names_in setup (Want.Take lock mode) w = w
names_in setup (Want.Give lock line) w = w
names_in setup (Want.Arrive bar) w = w
names_in setup (Want.Cross bar) w = w
names_in setup Want.Line w = w
names_in setup Want.End w = w
names_in setup (Want.Stop fault line) w = w
names_in setup Want.Over w = w

module _ (setup : Setup) (functions : List r.Function) (all : AreFunctionsWithin (extent_of setup) functions) (main private_cells procs me : ℕ) where
  abbrev first : State
  first = first_state functions main private_cells procs me

  reached_within : (labels : List Label) → IsStateWithin (extent_of setup) (state_after (program_semantics functions) first labels)
  reached_within [] = first_within (extent_of setup) functions all main private_cells procs me
  reached_within (label ∷ before) =
      ready_within (extent_of setup) functions all _ (completed_within (extent_of setup) functions all _ label (reached_within before))

  pub program_stays_within : StaysWithin setup (program_semantics functions) first
  program_stays_within labels = names_in setup _ (want_within (extent_of setup) functions all _ (reached_within labels))
