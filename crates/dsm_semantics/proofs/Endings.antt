-- Nothing but an end or a stop makes a thread be over.
use Rattle.std.proofs.Common.{◌≡◌, ℕ, ◌+◌, ◌==◌, nat_lt, ℤ, pos, Bool, true, false, cond, if◌then◌else◌, List, [], ◌∷◌, Option, Some, None, Ok, Err, length, refl, ap, ◌∙◌, subst}
use Rattle.std.specs.Prelude.{slice_get}
use Rattle.dsm_base.specs.declared.label.Label.{Label}
use Rattle.dsm_base.specs.declared.label.Ending.{Ending}
use Rattle.dsm_base.specs.Endings.{ending_after, endings_of}
use Rattle.dsm_base.specs.Plain.{Turn, after_run}
use Rattle.dsm_base.specs.Steps.{Move, goes, asks, Over, ended, stopped, next_of}
use Rattle.dsm_base.proofs.Families.{update_under}
use Rattle.dsm_base.proofs.StepsSettle.{settled_keeps}
use Rattle.dsm_syntax.specs.declared.tree.Sharing.{Sharing}
use Rattle.dsm_check.specs.Resolved as r
use Rattle.dsm_values.specs.Values.{Outcome, holds, unary_value, step_value, binary_value}
use Rattle.dsm_semantics.specs.States.{Place, slot, cell, member, Use, Item, evaluate, evaluate_all, test_index, load, store, unary, step_by, binary, and_then, or_else, to_truth, choose, enter, discard, execute, run, declare, branch, round, decide, third_part, jump_back, leave, ask, take_lock, give, cross, gather, print, Frame, State, top, below, ending_in, ending_of}
use Rattle.dsm_semantics.specs.Semantics.{member_number, at_member, loads, load_at, stores, store_at, comes_to, returns, declaring, declaration, gathering, lock_line, lock_number, evaluation, evaluation_of_all, execution, execution_of_all, act, act_first, step_in, step, ready, program_semantics, started, first_state, numbered}
use Rattle.dsm_semantics.proofs.Falls.{weight_at, step_falls, ready_over}

module _ (functions : List r.Function) (life : Option Over) where
  -- a step leaves states that are over as far as it is
  abbrev KeepsLife : Move State → Type 0
  KeepsLife (goes t) = t.life ≡ life
  KeepsLife (asks want after) = (answer : ℤ) → (after answer).life ≡ life

  keeps_if : (test : Bool) (a b : Move State) → KeepsLife a → KeepsLife b → KeepsLife (cond test a b)
  keeps_if true a b p q = p
  keeps_if false a b p q = q

  module _ (s : State) (is : s.life ≡ life) where
    keeps_member : (line : ℕ) (found : Option ℕ) (go : ℕ → Move State) → ((number : ℕ) → KeepsLife (go number)) → KeepsLife (at_member s line found go)
    keeps_member line None go h = λ answer. is
    keeps_member line (Some number) go h = h number

    keeps_loads : (sharing : Sharing) (number line : ℕ) (after : ℤ → State) → ((v : ℤ) → (after v).life ≡ life) → KeepsLife (loads s sharing number line after)
    keeps_loads Sharing.Shared number line after h = h
    keeps_loads Sharing.Private number line after h = h _

    keeps_stores : (sharing : Sharing) (number line : ℕ) (value : ℤ) (after : State) → after.life ≡ life → KeepsLife (stores sharing number line value after)
    keeps_stores Sharing.Shared number line value after h = λ answer. h
    keeps_stores Sharing.Private number line value after h = h

    keeps_outcome : (rest : List ℤ) (line : ℕ) (outcome : Outcome) → KeepsLife (comes_to s rest line outcome)
    keeps_outcome rest line (Ok value) = is
    keeps_outcome rest line (Err fault) = λ answer. is

    keeps_load : (way : Use) (place : Place) → KeepsLife (load_at s way place)
    keeps_load way (slot number) = is
    keeps_load way (cell sharing number line) = keeps_loads sharing number line _ (λ v. is)
    keeps_load way (member sharing array line) = keeps_member line (member_number array (top s.operands)) _ (λ number. keeps_loads sharing number line _ (λ v. is))

    keeps_store : (place : Place) → KeepsLife (store_at s place)
    keeps_store (slot number) = is
    keeps_store (cell sharing number line) = keeps_stores sharing number line _ _ is
    keeps_store (member sharing array line) =
        keeps_member line (member_number array (top (below s.operands))) _ (λ number. keeps_stores sharing number line _ _ is)

    keeps_evaluation : (e : r.Expression) → KeepsLife (evaluation s e)
    keeps_evaluation (r.number n) = is
    keeps_evaluation (r.load location) = is
    keeps_evaluation (r.call function arguments line) = is
    keeps_evaluation (r.unary op line e) = is
    keeps_evaluation (r.prefix op line location) = is
    keeps_evaluation (r.postfix location op line) = is
    keeps_evaluation (r.binary a op line b) = is
    keeps_evaluation (r.choice test a b) = is
    keeps_evaluation (r.assign location op line e) = is

    keeps_all : (arguments : r.Expressions) → KeepsLife (evaluation_of_all s arguments)
    keeps_all r.nil = is
    keeps_all (r.cons e rest) = is

    keeps_declaring : (number : ℕ) (initial : Option r.Expression) → KeepsLife (declaring s number initial)
    keeps_declaring number None = is
    keeps_declaring number (Some e) = is

    keeps_execution : (statement : r.Statement) → KeepsLife (execution s statement)
    keeps_execution (r.block body) = is
    keeps_execution r.empty = is
    keeps_execution (r.variables variables) = is
    keeps_execution (r.expression e) = is
    keeps_execution (r.when test body) = is
    keeps_execution (r.either test body other) = is
    keeps_execution (r.while test body) = is
    keeps_execution (r.for start test step body) = is
    keeps_execution r.break = is
    keeps_execution r.continue = is
    keeps_execution (r.return None) = is
    keeps_execution (r.return (Some e)) = is
    keeps_execution (r.acquire lock mode) = is
    keeps_execution (r.release lock) = is
    keeps_execution (r.barrier bar) = λ answer. is
    keeps_execution (r.print parts) = is

    keeps_statements : (statements : r.Statements) → KeepsLife (execution_of_all s statements)
    keeps_statements r.none = is
    keeps_statements (r.then statement rest) = is

    keeps_gathering : (parts : List r.Part) → KeepsLife (gathering s parts)
    keeps_gathering [] = is
    keeps_gathering (r.part_text text ∷ rest) = is
    keeps_gathering (r.part_value e ∷ rest) = is

    keeps_returns : (value : ℤ) (outer : List Frame) → KeepsLife (returns s value outer)
    keeps_returns value [] = λ answer. is
    keeps_returns value (caller ∷ outer) = λ answer. is

  keeps_declaration : (s : State) → s.life ≡ life → (variables : List r.Variable) → KeepsLife (declaration s variables)
  keeps_declaration s is [] = is
  keeps_declaration s is (variable ∷ rest) = keeps_declaring (record s { todo = declare rest ∷ s.todo }) is variable.slot variable.initial

  keeps_act : (s : State) → s.life ≡ life → (item : Item) → KeepsLife (act functions s item)
  keeps_act s is (evaluate e) = keeps_evaluation s is e
  keeps_act s is (evaluate_all arguments) = keeps_all s is arguments
  keeps_act s is (test_index array line) = keeps_member s is line (member_number array (top s.operands)) _ (λ number. is)
  keeps_act s is (load place way) = keeps_load s is way place
  keeps_act s is (store place) = keeps_store s is place
  keeps_act s is (unary op line) = keeps_outcome s is _ line (unary_value op (top s.operands))
  keeps_act s is (step_by op line) = keeps_outcome s is _ line (step_value op (top s.operands))
  keeps_act s is (binary op line) = keeps_outcome s is _ line (binary_value op (top (below s.operands)) (top s.operands))
  keeps_act s is (and_then e) = keeps_if (holds (top s.operands)) _ _ is is
  keeps_act s is (or_else e) = keeps_if (holds (top s.operands)) _ _ is is
  keeps_act s is to_truth = is
  keeps_act s is (choose a b) = is
  keeps_act s is (enter number line) = keeps_if (nat_lt (length s.outer + 1) 256) _ _ (λ answer. is) (λ answer. is)
  keeps_act s is discard = is
  keeps_act s is (execute statement) = keeps_execution s is statement
  keeps_act s is (run statements) = keeps_statements s is statements
  keeps_act s is (declare variables) = keeps_declaration s is variables
  keeps_act s is (branch body other) = is
  keeps_act s is (round loop) = is
  keeps_act s is (decide loop) = is
  keeps_act s is (third_part loop) = is
  keeps_act s is (jump_back loop) = λ answer. is
  keeps_act s is leave = keeps_returns s is (top s.operands) s.outer
  keeps_act s is (ask lock mode) = keeps_member s is (lock_line lock) (lock_number lock s.operands) _ (λ number answer. is)
  keeps_act s is (take_lock lock mode) = keeps_member s is (lock_line lock) (lock_number lock s.operands) _ (λ number answer. is)
  keeps_act s is (give lock) = keeps_member s is (lock_line lock) (lock_number lock s.operands) _ (λ number answer. is)
  keeps_act s is (cross bar) = λ answer. is
  keeps_act s is (gather parts) = keeps_gathering s is parts
  keeps_act s is (print parts) = λ answer. is

  keeps_first : (s : State) → s.life ≡ life → (todo : List Item) → KeepsLife (act_first functions s todo)
  keeps_first s is [] = keeps_returns s is (pos 0) s.outer
  keeps_first s is (item ∷ k) = keeps_act (record s { todo = k }) is item

  keeps_in : (s : State) → s.life ≡ life → (at : Option Over) → KeepsLife (step_in functions s at)
  keeps_in s is None = keeps_first s is s.todo
  keeps_in s is (Some way) = λ answer. is

  goes_keeps : (s t : State) → s.life ≡ life → step functions s ≡ goes t → t.life ≡ life
  goes_keeps s t is goes_to = subst KeepsLife goes_to (keeps_in s is s.life)

  ready_keeps : (s : State) → s.life ≡ life → (ready functions s).life ≡ life
  ready_keeps s is = settled_keeps (step functions) weight_at (step_falls functions) (λ t. t.life ≡ life) goes_keeps s is

  next_keeps : (s : State) (answer : ℤ) (move : Move State) → s.life ≡ life → KeepsLife move → (next_of s answer move).life ≡ life
  next_keeps s answer (goes t) is keeps = is
  next_keeps s answer (asks want after) is keeps = keeps answer

  after_keeps : (s : State) (answer : ℤ) → s.life ≡ life → (ready functions (next_of s answer (step functions s))).life ≡ life
  after_keeps s answer is = ready_keeps _ (next_keeps s answer (step functions s) is (keeps_in s is s.life))

module _ (functions : List r.Function) where
  -- how a thread came to be over, after one more label
  pub label_ending : (s : State) (label : Label) → ending_of ((program_semantics functions).after s label) ≡ ending_after (ending_of s) label
  label_ending s (Label.Stop fault line) = ap ending_of (ready_over functions s (stopped fault line))
  label_ending s Label.End = ap ending_of (ready_over functions s ended)
  label_ending s Label.Quiet = ap ending_in (after_keeps functions s.life s (pos 0) refl)
  label_ending s (Label.Load number value) = ap ending_in (after_keeps functions s.life s value refl)
  label_ending s (Label.Store number value) = ap ending_in (after_keeps functions s.life s (pos 0) refl)
  label_ending s (Label.Ask lock mode) = ap ending_in (after_keeps functions s.life s (pos 0) refl)
  label_ending s (Label.Take lock mode version) = ap ending_in (after_keeps functions s.life s (pos 0) refl)
  label_ending s (Label.Give lock) = ap ending_in (after_keeps functions s.life s (pos 0) refl)
  label_ending s (Label.Arrive bar) = ap ending_in (after_keeps functions s.life s (pos 0) refl)
  label_ending s (Label.Cross bar epoch) = ap ending_in (after_keeps functions s.life s (pos 0) refl)
  label_ending s (Label.Line text) = ap ending_in (after_keeps functions s.life s (pos 0) refl)

  first_ending : (main private_cells procs me : ℕ) → ending_of (first_state functions main private_cells procs me) ≡ None
  first_ending main private_cells procs me = ap ending_in (ready_keeps functions None (started (numbered (slice_get functions main)) private_cells procs me) refl)

  -- and in a run, of each thread
  pub run_endings : (first : ℕ → State) → ((p : ℕ) → ending_of (first p) ≡ None) → (run : List Turn) (p : ℕ)
      → ending_of ((after_run first (program_semantics functions) run).threads p) ≡ endings_of run p
  run_endings first none [] p = none p
  run_endings first none (turn ∷ before) p =
      let s = after_run first (program_semantics functions) before in
      let here = run_endings first none before in
      (λ i. update_under ending_of s.threads turn.proc ((program_semantics functions).after (s.threads turn.proc) turn.label) i p)
      ∙ ap (λ (ending : Option Ending). if p == turn.proc then ending else ending_of (s.threads p)) (label_ending (s.threads turn.proc) turn.label ∙ ap (λ (ending : Option Ending). ending_after ending turn.label) (here turn.proc))
      ∙ ap (λ (ending : Option Ending). if p == turn.proc then ending_after (endings_of before turn.proc) turn.label else ending) (here p)

  pub program_endings : (main private_cells procs : ℕ) (turns : List Turn) (p : ℕ)
      → ending_of ((after_run (first_state functions main private_cells procs) (program_semantics functions) turns).threads p) ≡ endings_of turns p
  program_endings main private_cells procs turns p = run_endings (first_state functions main private_cells procs) (first_ending main private_cells procs) turns p
