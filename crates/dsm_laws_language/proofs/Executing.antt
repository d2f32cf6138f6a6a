-- Statements of a closed state leave closed states. They stand outermost: below what they leave there are no operands.
use Rattle.std.proofs.Common.{◌≡◌, ℕ, ◌+◌, pos, true, ◌&&◌, List, [], ◌∷◌, length, Option, Some, None, refl, sym, arith}
use Rattle.std.specs.Prelude.{nat_lt, nat_le}
use Rattle.dsm_check.specs.Resolved as r
use Rattle.dsm_check.specs.Programs.{Program}
use Rattle.dsm_check.proofs.Successes.{both_true}
use Rattle.dsm_semantics.specs.States.{slot, Loop, Item, evaluate, test_index, store, discard, execute, run, declare, branch, round, decide, third_part, leave, ask, give, cross, gather, print, State}
use Rattle.dsm_semantics.specs.Within.{most_bytes}
use Rattle.dsm_semantics.specs.Semantics.{declaring, declaration, starting, testing, stepping, after_loop, after_body, reaching_lock, lock_place_of, gathering, values_in, execution, execution_of_all}
use Rattle.dsm_laws_language.specs.Closed.{is_below, is_closed_option, is_closed_expression, is_closed_variable, are_closed_variables, is_closed_part, are_closed_parts, is_closed_start, is_closed_lock, is_closed_statement, are_closed_statements}
use Rattle.dsm_laws_language.specs.States.{lock_index_count, takes, gives, is_closed_lock_place, is_closed_loop, has_loop, is_closed_item, AreClosed, IsClosedState}
use Rattle.dsm_laws_language.proofs.Tests.{both}
use Rattle.dsm_laws_language.proofs.Depths.{never, at_depth, put, after_loop_closed, after_body_closed}
use Rattle.dsm_laws_language.proofs.Evaluating.{LeavesClosed, HasOthers, Done, with_operands, with_todo, with_slot, from_evaluate}

module _ (program : Program) where
  module _ (slots : ℕ) where
    abbrev From : ℕ → List Item → Type 0
    From depth k = AreClosed program slots depth k

    -- an item of statements that takes no operands
    pub from_outermost : (item : Item) (k : List Item) → takes program item ≡ 0 → gives item ≡ 0 → is_closed_item program slots (has_loop k) item ≡ true
        → From 0 k → From 0 (item ∷ k)
    from_outermost item k none nothing closed done = put program slots item k 0 0 0 (omega (arith, none)) (omega (arith, nothing)) (λ h. refl) closed done

    -- an expression, and an item that takes its value
    pub from_value : (e : r.Expression) (item : Item) (k : List Item) → takes program item ≡ 1 → gives item ≡ 0 → is_closed_expression program slots e ≡ true
        → is_closed_item program slots (has_loop k) item ≡ true → From 0 k → From 0 (evaluate e ∷ item ∷ k)
    from_value e item k one nothing first closed done =
        from_evaluate program slots 0 e (item ∷ k) first
        (put program slots item k 1 0 0 (omega (arith, one)) (omega (arith, nothing)) (λ h. refl) closed done)

    pub from_starting : (start : r.ForStart) (k : List Item) → is_closed_start program slots start ≡ true → From 0 k → From 0 (starting start k)
    from_starting r.start_nothing k h done = done
    from_starting (r.start_variables variables) k h done = from_outermost (declare variables) k refl refl h done
    from_starting (r.start_expression e) k h done = from_value e discard k refl refl h refl done

    pub from_testing : (k : List Item) (loop : Loop) (test : Option r.Expression) → is_closed_option (is_closed_expression program slots) test ≡ true
        → is_closed_loop program slots loop ≡ true → From 0 k → From 0 (testing k loop test)
    from_testing k loop None h closed done =
        let rest = (both_true (is_closed_option (is_closed_expression program slots) loop.test)
        (is_closed_option (is_closed_expression program slots) loop.step && is_closed_statement program slots true loop.body) closed).1 in
        from_outermost (execute loop.body) (third_part loop ∷ k) refl refl
        (both_true (is_closed_option (is_closed_expression program slots) loop.step) (is_closed_statement program slots true loop.body) rest).1
        (from_outermost (third_part loop) k refl refl closed done)
    from_testing k loop (Some e) h closed done = from_value e (decide loop) k refl refl h closed done

    pub from_stepping : (k : List Item) (step : Option r.Expression) → is_closed_option (is_closed_expression program slots) step ≡ true
        → From 0 k → From 0 (stepping k step)
    from_stepping k None h done = done
    from_stepping k (Some e) h done = from_value e discard k refl refl h refl done

    lock_there : (lock : r.LockPlace) → is_closed_lock program slots lock ≡ true → is_closed_lock_place program (lock_place_of lock) ≡ true
    lock_there (r.one_lock lock line) h = h
    lock_there (r.lock_element array index line) h = (both_true (is_below program.locks array) (is_closed_expression program slots index) h).0

    -- a lock, and an item that takes its index
    pub from_lock : (lock : r.LockPlace) (item : Item) (k : List Item) → takes program item ≡ lock_index_count (lock_place_of lock) → gives item ≡ 0
        → is_closed_lock program slots lock ≡ true → is_closed_item program slots (has_loop k) item ≡ true → From 0 k → From 0 (reaching_lock lock (item ∷ k))
    from_lock (r.one_lock lock line) item k count nothing first closed done = from_outermost item k count nothing closed done
    from_lock (r.lock_element array index line) item k count nothing first closed done =
        from_evaluate program slots 0 index (test_index array line ∷ item ∷ k) (both_true (is_below program.locks array) (is_closed_expression program slots index) first).1
        (put program slots (test_index array line) (item ∷ k) 1 0 1 refl refl never refl
        (put program slots item k 1 0 0 (omega (arith, count)) (omega (arith, nothing)) (λ h. refl) closed done))

  module _ (s : State) (others : HasOthers program s) where
    -- the values of a print; below them there may be others
    pub leaves_gathering : (parts : List r.Part) → are_closed_parts program (length s.slots) parts ≡ true
        → Done program s (length s.operands + values_in parts) s.todo → LeavesClosed program (gathering s parts)
    leaves_gathering [] h done = with_operands program s s.operands (length s.operands + 0) others (omega arith) done
    leaves_gathering (r.part_text text ∷ rest) h done =
        let split = both_true (is_closed_part program (length s.slots) (r.part_text text)) (are_closed_parts program (length s.slots) rest) h in
        with_todo program s (gather rest ∷ s.todo) others
        (put program (length s.slots) (gather rest) s.todo (length s.operands) (length s.operands) (length s.operands + values_in rest)
        (omega arith) refl never split.1 done)
    leaves_gathering (r.part_value e ∷ rest) h done =
        let split = both_true (is_closed_expression program (length s.slots) e) (are_closed_parts program (length s.slots) rest) h in
        with_todo program s (evaluate e ∷ gather rest ∷ s.todo) others
        (from_evaluate program (length s.slots) (length s.operands) e (gather rest ∷ s.todo) split.0
        (put program (length s.slots) (gather rest) s.todo (length s.operands + 1) (length s.operands + 1) (length s.operands + (values_in rest + 1))
        (omega arith) (omega arith) never split.1 done))

    module _ (empty : length s.operands ≡ 0) where
      -- goes on with this to be done
      pub leaves_todo : (todo : List Item) → Done program s 0 todo → IsClosedState program (record s { todo = todo })
      leaves_todo todo done = with_todo program s todo others (at_depth program (length s.slots) 0 (length s.operands) todo (sym empty) done)

      leaves_declaring : (rest : List r.Variable) (number : ℕ) (initial : Option r.Expression) → are_closed_variables program (length s.slots) rest ≡ true
          → nat_lt number (length s.slots) ≡ true → is_closed_option (is_closed_expression program (length s.slots)) initial ≡ true
          → Done program s 0 s.todo → LeavesClosed program (declaring (record s { todo = declare rest ∷ s.todo }) number initial)
      leaves_declaring rest number None h is first done =
          with_slot program s number (pos 0) (declare rest ∷ s.todo) others
          (at_depth program (length s.slots) 0 (length s.operands) (declare rest ∷ s.todo) (sym empty)
          (from_outermost (length s.slots) (declare rest) s.todo refl refl h done))
      leaves_declaring rest number (Some e) h is first done =
          leaves_todo (evaluate e ∷ store (slot number) ∷ discard ∷ declare rest ∷ s.todo)
          (from_evaluate program (length s.slots) 0 e (store (slot number) ∷ discard ∷ declare rest ∷ s.todo) first
          (put program (length s.slots) (store (slot number)) (discard ∷ declare rest ∷ s.todo) 1 0 1 refl refl never is
          (put program (length s.slots) discard (declare rest ∷ s.todo) 1 0 0 refl refl never refl
          (from_outermost (length s.slots) (declare rest) s.todo refl refl h done))))

      pub leaves_declaration : (variables : List r.Variable) → are_closed_variables program (length s.slots) variables ≡ true → Done program s 0 s.todo
          → LeavesClosed program (declaration s variables)
      leaves_declaration [] h done = leaves_todo s.todo done
      leaves_declaration (variable ∷ rest) h done =
          let split = both_true (is_closed_variable program (length s.slots) variable) (are_closed_variables program (length s.slots) rest) h in
          let of_one = both_true (nat_lt variable.slot (length s.slots)) (is_closed_option (is_closed_expression program (length s.slots)) variable.initial) split.0 in
          leaves_declaring rest variable.slot variable.initial split.1 of_one.0 of_one.1 done

      pub leaves_execution : (statement : r.Statement) → is_closed_statement program (length s.slots) (has_loop s.todo) statement ≡ true
          → Done program s 0 s.todo → LeavesClosed program (execution s statement)
      leaves_execution (r.block body) h done = leaves_todo (run body ∷ s.todo) (from_outermost (length s.slots) (run body) s.todo refl refl h done)
      leaves_execution r.empty h done = leaves_todo s.todo done
      leaves_execution (r.variables variables) h done =
          leaves_todo (declare variables ∷ s.todo) (from_outermost (length s.slots) (declare variables) s.todo refl refl h done)
      leaves_execution (r.expression e) h done =
          leaves_todo (evaluate e ∷ discard ∷ s.todo) (from_value (length s.slots) e discard s.todo refl refl h refl done)
      leaves_execution (r.when test body) h done =
          let split = both_true (is_closed_expression program (length s.slots) test) (is_closed_statement program (length s.slots) (has_loop s.todo) body) h in
          leaves_todo (evaluate test ∷ branch body None ∷ s.todo)
          (from_value (length s.slots) test (branch body None) s.todo refl refl split.0 (both split.1 refl) done)
      leaves_execution (r.either test body other) h done =
          let split = both_true (is_closed_expression program (length s.slots) test)
          (is_closed_statement program (length s.slots) (has_loop s.todo) body && is_closed_statement program (length s.slots) (has_loop s.todo) other) h in
          leaves_todo (evaluate test ∷ branch body (Some other) ∷ s.todo)
          (from_value (length s.slots) test (branch body (Some other)) s.todo refl refl split.0 split.1 done)
      leaves_execution (r.while test body) h done =
          let loop : Loop = record { test = Some test; step = None; body = body } in
          let split = both_true (is_closed_expression program (length s.slots) test) (is_closed_statement program (length s.slots) true body) h in
          leaves_todo (round loop ∷ s.todo) (from_outermost (length s.slots) (round loop) s.todo refl refl (both split.0 (both refl split.1)) done)
      leaves_execution (r.for start test step body) h done =
          let loop : Loop = record { test = test; step = step; body = body } in
          let split = both_true (is_closed_start program (length s.slots) start) (is_closed_loop program (length s.slots) loop) h in
          leaves_todo (starting start (round loop ∷ s.todo))
          (from_starting (length s.slots) start (round loop ∷ s.todo) split.0 (from_outermost (length s.slots) (round loop) s.todo refl refl split.1 done))
      leaves_execution r.break h done = leaves_todo (after_loop s.todo) (after_loop_closed program (length s.slots) s.todo 0 h done)
      leaves_execution r.continue h done = leaves_todo (after_body s.todo) (after_body_closed program (length s.slots) s.todo 0 h done)
      leaves_execution (r.return None) h done =
          record {
            own = others.0;
            inner = at_depth program (length s.slots) 1 (length (pos 0 ∷ s.operands)) (leave ∷ s.todo) (omega (arith, empty))
                (put program (length s.slots) leave s.todo 1 0 0 refl refl (λ h. refl) refl done);
            outer = others.1;
          }
      leaves_execution (r.return (Some e)) h done =
          leaves_todo (evaluate e ∷ leave ∷ s.todo) (from_value (length s.slots) e leave s.todo refl refl h refl done)
      leaves_execution (r.acquire lock mode) h done =
          leaves_todo (reaching_lock lock (ask (lock_place_of lock) mode ∷ s.todo))
          (from_lock (length s.slots) lock (ask (lock_place_of lock) mode) s.todo refl refl h (lock_there (length s.slots) lock h) done)
      leaves_execution (r.release lock) h done =
          leaves_todo (reaching_lock lock (give (lock_place_of lock) ∷ s.todo))
          (from_lock (length s.slots) lock (give (lock_place_of lock)) s.todo refl refl h (lock_there (length s.slots) lock h) done)
      leaves_execution (r.barrier bar) h done =
          λ on answer. leaves_todo (cross bar ∷ s.todo) (from_outermost (length s.slots) (cross bar) s.todo refl refl h done)
      leaves_execution (r.print parts) h done =
          let split = both_true (are_closed_parts program (length s.slots) parts) (nat_le (most_bytes parts) 256) h in
          leaves_todo (gather parts ∷ print parts ∷ s.todo)
          (put program (length s.slots) (gather parts) (print parts ∷ s.todo) 0 0 (values_in parts) refl (omega arith) never split.0
          (put program (length s.slots) (print parts) s.todo (values_in parts) 0 0 (omega arith) refl (λ h. refl) refl done))

      pub leaves_statements : (statements : r.Statements) → are_closed_statements program (length s.slots) (has_loop s.todo) statements ≡ true
          → Done program s 0 s.todo → LeavesClosed program (execution_of_all s statements)
      leaves_statements r.none h done = leaves_todo s.todo done
      leaves_statements (r.then statement rest) h done =
          let split = both_true (is_closed_statement program (length s.slots) (has_loop s.todo) statement)
          (are_closed_statements program (length s.slots) (has_loop s.todo) rest) h in
          leaves_todo (execute statement ∷ run rest ∷ s.todo)
          (from_outermost (length s.slots) (execute statement) (run rest ∷ s.todo) refl refl split.0
          (from_outermost (length s.slots) (run rest) s.todo refl refl split.1 done))
