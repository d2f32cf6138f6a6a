-- Steps of a closed state leave closed states.
use Rattle.std.proofs.Common.{◌≡◌, ◌==◌, ℕ, zero, suc, ◌+◌, nat_lt, ℤ, pos, Bool, true, false, ◌&&◌, List, [], ◌∷◌, length, Option, Some, None, refl, sym, subst, if◌then◌else◌, arith, take, drop}
use Rattle.std.specs.Prelude.{slice_get, nat_le, reverse}
use Rattle.std.specs.List.{list_all}
use Rattle.std.proofs.lemmas.Bool.{leb-true}
use Rattle.std.proofs.lemmas.List.{length-drop}
use Rattle.dsm_base.specs.declared.names.Fault.{Fault}
use Rattle.dsm_base.specs.declared.label.Want.{Want}
use Rattle.dsm_base.specs.Steps.{Move, goes, asks, want_of, next_of, Over}
use Rattle.dsm_check.specs.Resolved as r
use Rattle.dsm_check.specs.Programs.{Program}
use Rattle.dsm_check.proofs.Successes.{both_true}
use Rattle.dsm_values.specs.Values.{holds, truth, unary_value, step_value, binary_value}
use Rattle.dsm_semantics.specs.States.{LockPlace, Loop, Item, evaluate, evaluate_all, test_index, load, store, unary, step_by, binary, and_then, or_else, to_truth, choose, enter, discard, execute, run, declare, branch, round, decide, third_part, jump_back, leave, ask, take_lock, give, cross, gather, print, Frame, State, top, below}
use Rattle.dsm_semantics.specs.Semantics.{member_number, at_member, numbered, entered, entering, faults, new_slots, returns, branching, testing, stepping, lock_line, lock_number, below_index, values_in, act, act_first, step_in, step}
use Rattle.dsm_laws_language.specs.Closed.{is_callable, is_closed_option, is_closed_expression, is_closed_statement, are_closed_statements, is_closed_function, has_limits, is_closed}
use Rattle.dsm_laws_language.specs.States.{params_of, lock_index_count, takes, gives, is_outermost, is_closed_loop, has_loop, is_closed_item, Finds, AreClosed, AllWait, IsClosedState}
use Rattle.dsm_laws_language.proofs.Depths.{never, below_length, below_below_length, below_index_length, slots_length, arguments_length, at_depth, put}
use Rattle.dsm_laws_language.proofs.Evaluating.{MayGoOn, LeavesClosed, HasOthers, Done, leaves_fault, leaves_if, leaves_member, leaves_outcome, leaves_load, leaves_store, with_operands, from_evaluate, leaves_evaluation, leaves_arguments}
use Rattle.dsm_laws_language.proofs.Executing.{from_outermost, from_testing, from_stepping, leaves_gathering, leaves_todo, leaves_declaration, leaves_execution, leaves_statements}

function_at : (test : r.Function → Bool) (functions : List r.Function) (number : ℕ) → list_all test functions ≡ true → test (numbered None) ≡ true
    → test (numbered (slice_get functions number)) ≡ true
function_at test [] number all none = none
function_at test (function ∷ functions) zero all none = (both_true (test function) (list_all test functions) all).0
function_at test (function ∷ functions) (suc number) all none = function_at test functions number (both_true (test function) (list_all test functions) all).1 none

module _ (program : Program) (closed : is_closed program ≡ true) where
  -- each function of a closed program is closed
  pub function_closed : (number : ℕ) → is_closed_function program (numbered (slice_get program.functions number)) ≡ true
  function_closed number =
      let rest = (both_true (is_callable program program.main 2) (has_limits program && list_all (is_closed_function program) program.functions) closed).1 in
      let all = (both_true (has_limits program) (list_all (is_closed_function program) program.functions) rest).1 in
      function_at (is_closed_function program) program.functions number all refl

  -- a function that begins
  pub begins : (function : r.Function) (arguments : List ℤ) → is_closed_function program function ≡ true → length arguments ≡ function.params
      → AreClosed program (length (new_slots function arguments)) 0 (run function.body ∷ [])
  begins function arguments h long =
      let closes = are_closed_statements program function.slots false function.body in
      let split = both_true (nat_le function.params function.slots) (nat_le function.slots 192 && (length function.names == function.slots && closes)) h in
      let most = both_true (nat_le function.slots 192) (length function.names == function.slots && closes) split.1 in
      let body = (both_true (length function.names == function.slots) closes most.1).1 in
      let few = leb-true function.params function.slots split.0 in
      subst (λ slots. AreClosed program slots 0 (run function.body ∷ [])) (sym (slots_length function arguments (omega (arith, few, long))))
      (from_outermost program function.slots (run function.body) [] refl refl body refl)

  leaves_entering : (s : State) (number line rest : ℕ) → HasOthers program s → length s.operands ≡ rest + params_of program number
      → Done program s (rest + 1) s.todo → LeavesClosed program (entering s line (numbered (slice_get program.functions number)))
  leaves_entering s number line rest others long done =
      let function = numbered (slice_get program.functions number) in
      let given : length (reverse (take function.params s.operands)) ≡ function.params = arguments_length function.params s.operands (omega (arith, long)) in
      let kept : length (drop function.params s.operands) + 1 ≡ rest + 1 = omega (arith, long, length-drop function.params s.operands) in
      leaves_if program (nat_lt (length s.outer + 1) 256) (asks Want.Quiet (λ answer. entered s function)) (faults s Fault.Depth line)
      (λ on answer. record {
        own = others.0;
        inner = begins function (reverse (take function.params s.operands)) (function_closed number) given;
        outer = (at_depth program (length s.slots) (rest + 1) (length (drop function.params s.operands) + 1) s.todo (sym kept) done, others.1);
      })
      (leaves_fault program s Fault.Depth line)

  leaves_returns : (s : State) (value : ℤ) (outer : List Frame) → HasOthers program s → AllWait program outer → LeavesClosed program (returns s value outer)
  leaves_returns s value [] others wait = λ on. absurd on
  leaves_returns s value (caller ∷ outer) others wait = λ on answer. record {
    own = others.0;
    inner = at_depth program (length caller.slots) (length caller.operands + 1) (length (value ∷ caller.operands)) caller.todo (omega arith) wait.0;
    outer = wait.1;
  }

  -- a statement's item that took one operand goes on without any
  module _ (s : State) (others : HasOthers program s) where
    goes_on_below : (todo : List Item) → length s.operands ≡ 1 → Done program s 0 todo
        → IsClosedState program (record s { todo = todo; operands = below s.operands })
    goes_on_below todo one done = record {
      own = others.0;
      inner = at_depth program (length s.slots) 0 (length (below s.operands)) todo (sym (below_length s.operands 0 one)) done;
      outer = others.1;
    }

    branch_closed : (test : Bool) (body : r.Statement) (other : Option r.Statement) → is_closed_statement program (length s.slots) (has_loop s.todo) body ≡ true
        → is_closed_option (is_closed_statement program (length s.slots) (has_loop s.todo)) other ≡ true → Done program s 0 s.todo
        → Done program s 0 (branching s.todo (if test then Some body else other))
    branch_closed true body other one more done = from_outermost program (length s.slots) (execute body) s.todo refl refl one done
    branch_closed false body None one more done = done
    branch_closed false body (Some other) one more done = from_outermost program (length s.slots) (execute other) s.todo refl refl more done

    decide_closed : (test : Bool) (loop : Loop) → is_closed_loop program (length s.slots) loop ≡ true → Done program s 0 s.todo
        → Done program s 0 (if test then execute loop.body ∷ third_part loop ∷ s.todo else s.todo)
    decide_closed true loop h done =
        let rest = (both_true (is_closed_option (is_closed_expression program (length s.slots)) loop.test)
        (is_closed_option (is_closed_expression program (length s.slots)) loop.step && is_closed_statement program (length s.slots) true loop.body) h).1 in
        from_outermost program (length s.slots) (execute loop.body) (third_part loop ∷ s.todo) refl refl
        (both_true (is_closed_option (is_closed_expression program (length s.slots)) loop.step) (is_closed_statement program (length s.slots) true loop.body) rest).1
        (from_outermost program (length s.slots) (third_part loop) s.todo refl refl h done)
    decide_closed false loop h done = done

    choice_closed : (test : Bool) (a b : r.Expression) → is_closed_expression program (length s.slots) a ≡ true → is_closed_expression program (length s.slots) b ≡ true
        → is_closed_expression program (length s.slots) (if test then a else b) ≡ true
    choice_closed true a b one other = one
    choice_closed false a b one other = other

    -- goes on with an expression in place of the operand on top
    evaluates_below : (e : r.Expression) (k : List Item) (rest : ℕ) → is_closed_expression program (length s.slots) e ≡ true → length s.operands ≡ rest + 1
        → Done program s (rest + 1) k → IsClosedState program (record s { todo = evaluate e ∷ k; operands = below s.operands })
    evaluates_below e k rest h long done = record {
      own = others.0;
      inner = at_depth program (length s.slots) rest (length (below s.operands)) (evaluate e ∷ k) (sym (below_length s.operands rest long))
          (from_evaluate program (length s.slots) rest e k h done);
      outer = others.1;
    }

    -- the value in place of the operand on top
    values_below : (value : ℤ) (rest : ℕ) → length s.operands ≡ rest + 1 → Done program s (rest + 1) s.todo
        → IsClosedState program (record s { operands = value ∷ below s.operands })
    values_below value rest long done =
        with_operands program s (value ∷ below s.operands) (rest + 1) others (omega (arith, below_length s.operands rest long)) done

    -- below the operands of a statement's item there are no others
    alone : (item : Item) (rest count : ℕ) → Finds program item (length s.operands) rest → is_outermost item ≡ true → takes program item ≡ count
        → length s.operands ≡ count
    alone item rest count finds outermost same = omega (arith, finds.operands, finds.outermost outermost, same)

    behind : (item : Item) (rest : ℕ) → Finds program item (length s.operands) rest → is_outermost item ≡ true → gives item ≡ 0
        → Done program s (rest + gives item) s.todo → Done program s 0 s.todo
    behind item rest finds outermost none done =
        at_depth program (length s.slots) (rest + gives item) 0 s.todo (omega (arith, finds.outermost outermost, none)) done

    leaves_lock : (lock : LockPlace) (go : ℕ → Move State) → ((number : ℕ) → LeavesClosed program (go number))
        → LeavesClosed program (at_member s (lock_line lock) (lock_number lock s.operands) go)
    leaves_lock lock go h = leaves_member program s (lock_line lock) (lock_number lock s.operands) go h

    -- the index of a lock goes
    below_lock : (lock : LockPlace) → length s.operands ≡ lock_index_count lock → Done program s 0 s.todo
        → IsClosedState program (record s { operands = below_index lock s.operands })
    below_lock lock long done = with_operands program s (below_index lock s.operands) 0 others (below_index_length lock s.operands long) done

    leaves_act : (item : Item) (rest : ℕ) → Finds program item (length s.operands) rest → is_closed_item program (length s.slots) (has_loop s.todo) item ≡ true
        → Done program s (rest + gives item) s.todo → LeavesClosed program (act program.functions s item)
    leaves_act (evaluate e) rest finds h done =
        leaves_evaluation program s others e h (at_depth program (length s.slots) (rest + 1) (length s.operands + 1) s.todo (omega (arith, finds.operands)) done)
    leaves_act (evaluate_all arguments) rest finds h done =
        leaves_arguments program s others arguments h
        (at_depth program (length s.slots) (rest + gives (evaluate_all arguments)) (length s.operands + gives (evaluate_all arguments)) s.todo (omega (arith, finds.operands)) done)
    leaves_act (test_index array line) rest finds h done =
        leaves_member program s line (member_number array (top s.operands)) (λ number. goes s)
        (λ number. with_operands program s s.operands (rest + 1) others finds.operands done)
    leaves_act (load place way) rest finds h done = leaves_load program s way place rest others finds.operands done
    leaves_act (store place) rest finds h done = leaves_store program s place rest others finds.operands done
    leaves_act (unary op line) rest finds h done =
        leaves_outcome program s (below s.operands) line (unary_value op (top s.operands)) others
        (at_depth program (length s.slots) (rest + 1) (length (below s.operands) + 1) s.todo (omega (arith, below_length s.operands rest finds.operands)) done)
    leaves_act (step_by op line) rest finds h done =
        leaves_outcome program s (below s.operands) line (step_value op (top s.operands)) others
        (at_depth program (length s.slots) (rest + 1) (length (below s.operands) + 1) s.todo (omega (arith, below_length s.operands rest finds.operands)) done)
    leaves_act (binary op line) rest finds h done =
        leaves_outcome program s (below (below s.operands)) line (binary_value op (top (below s.operands)) (top s.operands)) others
        (at_depth program (length s.slots) (rest + 1) (length (below (below s.operands)) + 1) s.todo
        (omega (arith, below_below_length s.operands rest finds.operands)) done)
    leaves_act (and_then e) rest finds h done =
        leaves_if program (holds (top s.operands)) _ _
        (evaluates_below e (to_truth ∷ s.todo) rest h finds.operands
        (put program (length s.slots) to_truth s.todo (rest + 1) rest (rest + 1) refl refl never refl done))
        (values_below (pos 0) rest finds.operands done)
    leaves_act (or_else e) rest finds h done =
        leaves_if program (holds (top s.operands)) _ _
        (values_below (pos 1) rest finds.operands done)
        (evaluates_below e (to_truth ∷ s.todo) rest h finds.operands
        (put program (length s.slots) to_truth s.todo (rest + 1) rest (rest + 1) refl refl never refl done))
    leaves_act to_truth rest finds h done = values_below (truth (holds (top s.operands))) rest finds.operands done
    leaves_act (choose a b) rest finds h done =
        let split = both_true (is_closed_expression program (length s.slots) a) (is_closed_expression program (length s.slots) b) h in
        evaluates_below (if holds (top s.operands) then a else b) s.todo rest (choice_closed (holds (top s.operands)) a b split.0 split.1) finds.operands done
    leaves_act (enter number line) rest finds h done = leaves_entering s number line rest others finds.operands done
    leaves_act discard rest finds h done =
        with_operands program s (below s.operands) (rest + 0) others (omega (arith, below_length s.operands rest finds.operands)) done
    leaves_act (execute statement) rest finds h done =
        leaves_execution program s others (alone (execute statement) rest 0 finds refl refl) statement h (behind (execute statement) rest finds refl refl done)
    leaves_act (run statements) rest finds h done =
        leaves_statements program s others (alone (run statements) rest 0 finds refl refl) statements h (behind (run statements) rest finds refl refl done)
    leaves_act (declare variables) rest finds h done =
        leaves_declaration program s others (alone (declare variables) rest 0 finds refl refl) variables h (behind (declare variables) rest finds refl refl done)
    leaves_act (branch body other) rest finds h done =
        let split = both_true (is_closed_statement program (length s.slots) (has_loop s.todo) body)
        (is_closed_option (is_closed_statement program (length s.slots) (has_loop s.todo)) other) h in
        goes_on_below (branching s.todo (if holds (top s.operands) then Some body else other)) (alone (branch body other) rest 1 finds refl refl)
        (branch_closed (holds (top s.operands)) body other split.0 split.1 (behind (branch body other) rest finds refl refl done))
    leaves_act (round loop) rest finds h done =
        let test = (both_true (is_closed_option (is_closed_expression program (length s.slots)) loop.test)
        (is_closed_option (is_closed_expression program (length s.slots)) loop.step && is_closed_statement program (length s.slots) true loop.body) h).0 in
        leaves_todo program s others (alone (round loop) rest 0 finds refl refl) (testing s.todo loop loop.test)
        (from_testing program (length s.slots) s.todo loop loop.test test h (behind (round loop) rest finds refl refl done))
    leaves_act (decide loop) rest finds h done =
        goes_on_below (if holds (top s.operands) then execute loop.body ∷ third_part loop ∷ s.todo else s.todo) (alone (decide loop) rest 1 finds refl refl)
        (decide_closed (holds (top s.operands)) loop h (behind (decide loop) rest finds refl refl done))
    leaves_act (third_part loop) rest finds h done =
        let later = (both_true (is_closed_option (is_closed_expression program (length s.slots)) loop.test)
        (is_closed_option (is_closed_expression program (length s.slots)) loop.step && is_closed_statement program (length s.slots) true loop.body) h).1 in
        let of_step = (both_true (is_closed_option (is_closed_expression program (length s.slots)) loop.step) (is_closed_statement program (length s.slots) true loop.body) later).0 in
        leaves_todo program s others (alone (third_part loop) rest 0 finds refl refl) (stepping (jump_back loop ∷ s.todo) loop.step)
        (from_stepping program (length s.slots) (jump_back loop ∷ s.todo) loop.step of_step
        (from_outermost program (length s.slots) (jump_back loop) s.todo refl refl h (behind (third_part loop) rest finds refl refl done)))
    leaves_act (jump_back loop) rest finds h done = λ on answer.
        leaves_todo program s others (alone (jump_back loop) rest 0 finds refl refl) (round loop ∷ s.todo)
        (from_outermost program (length s.slots) (round loop) s.todo refl refl h (behind (jump_back loop) rest finds refl refl done))
    leaves_act leave rest finds h done = leaves_returns s (top s.operands) s.outer others others.1
    leaves_act (ask lock mode) rest finds h done =
        leaves_lock lock _ (λ number on answer. record {
          own = others.0;
          inner = put program (length s.slots) (take_lock lock mode) s.todo (length s.operands) 0 0 (omega (arith, alone (ask lock mode) rest (lock_index_count lock) finds refl refl)) refl
              (λ h. refl) h (behind (ask lock mode) rest finds refl refl done);
          outer = others.1;
        })
    leaves_act (take_lock lock mode) rest finds h done =
        leaves_lock lock _ (λ number on answer.
        below_lock lock (alone (take_lock lock mode) rest (lock_index_count lock) finds refl refl) (behind (take_lock lock mode) rest finds refl refl done))
    leaves_act (give lock) rest finds h done =
        leaves_lock lock _ (λ number on answer. below_lock lock (alone (give lock) rest (lock_index_count lock) finds refl refl) (behind (give lock) rest finds refl refl done))
    leaves_act (cross bar) rest finds h done = λ on answer.
        with_operands program s s.operands 0 others (alone (cross bar) rest 0 finds refl refl) (behind (cross bar) rest finds refl refl done)
    leaves_act (gather parts) rest finds h done =
        leaves_gathering program s others parts h
        (at_depth program (length s.slots) (rest + values_in parts) (length s.operands + values_in parts) s.todo (omega (arith, finds.operands)) done)
    leaves_act (print parts) rest finds h done = λ on answer.
        let long = alone (print parts) rest (values_in parts) finds refl refl in
        with_operands program s (drop (values_in parts) s.operands) 0 others (omega (arith, long, length-drop (values_in parts) s.operands))
        (behind (print parts) rest finds refl refl done)

  leaves_first : (s : State) (todo : List Item) → HasOthers program s → AreClosed program (length s.slots) (length s.operands) todo
      → LeavesClosed program (act_first program.functions s todo)
  leaves_first s [] others done = leaves_returns s (pos 0) s.outer others others.1
  leaves_first s (item ∷ k) others done = leaves_act (record s { todo = k }) others item done.0 done.1 done.2 done.3

  leaves_in : (s : State) (life : Option Over) → IsClosedState program s → LeavesClosed program (step_in program.functions s life)
  leaves_in s None state = leaves_first s s.todo (state.own, state.outer) state.inner
  leaves_in s (Some way) state = λ on. absurd on

  pub step_leaves : (s : State) → IsClosedState program s → LeavesClosed program (step program.functions s)
  step_leaves s state = leaves_in s s.life state

  pub goes_closed : (s t : State) → IsClosedState program s → step program.functions s ≡ goes t → IsClosedState program t
  goes_closed s t state is = subst (LeavesClosed program) is (step_leaves s state)

  pub next_closed : (s : State) (answer : ℤ) (move : Move State) → MayGoOn (want_of move) → IsClosedState program s → LeavesClosed program move
      → IsClosedState program (next_of s answer move)
  next_closed s answer (goes t) on state leaves = state
  next_closed s answer (asks want after) on state leaves = leaves on answer
