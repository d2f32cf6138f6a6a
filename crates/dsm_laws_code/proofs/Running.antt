-- A thread of a program's code wants what the tree says.
use Rattle.std.proofs.Common.{◌≡◌, ℕ, zero, suc, ◌+◌, ◌<◌, ℤ, pos, true, List, [], ◌∷◌, ◌++◌, length, reverse, take, Option, Some, None, refl, sym, ap, ◌∙◌, subst}
use Rattle.std.specs.Prelude.{IsTrue, slice_get}
use Rattle.dsm_base.specs.declared.label.Want.{Want}
use Rattle.dsm_base.specs.declared.label.Label.{Label}
use Rattle.dsm_base.specs.declared.setup.Piece.{Piece}
use Rattle.dsm_base.specs.Threads.{Completes, MayBeDone, AnswersTo, state_after}
use Rattle.dsm_base.specs.Steps.{Move, goes, asks, want_of, next_of, Over, ended, stopped}
use Rattle.dsm_base.proofs.StepsSettle.{Asks, settled_asks, settled_keeps, settled_reaches}
use Rattle.dsm_check.specs.Resolved as r
use Rattle.dsm_check.specs.Programs as check
use Rattle.dsm_semantics.specs.States as t
use Rattle.dsm_semantics.specs.States.{Loop, Item, evaluate, evaluate_all, test_index, load, store, unary, step_by, binary, and_then, or_else, to_truth, choose, enter, discard, execute, run, declare, branch, round, decide, third_part, jump_back, leave, ask, take_lock, give, cross, gather, print}
use Rattle.dsm_semantics.specs.Semantics as sem
use Rattle.dsm_semantics.specs.Programs.{threads_of, first_states}
use Rattle.dsm_semantics.proofs.Falls as tree_falls
use Rattle.dsm_code.specs.declared.parts.Row.{Row}
use Rattle.dsm_code.specs.Programs as prog
use Rattle.dsm_code.specs.Programs.{Program, function_at}
use Rattle.dsm_code.specs.Valid.{is_valid}
use Rattle.dsm_code.specs.Machine as mac
use Rattle.dsm_code.specs.Machine.{State, Frame, code_semantics}
use Rattle.dsm_code.proofs.Facts.{valid_facts}
use Rattle.dsm_code.proofs.Falls as code_falls
use Rattle.dsm_laws_code.specs.Programs.{code_of, body_code, functions_prints}
use Rattle.dsm_laws_code.specs.Runs.{AllAnswer, RunsAs}
use Rattle.dsm_laws_code.proofs.Places.{at, IsThere}
use Rattle.dsm_laws_code.proofs.Standing.{Labels, Goes, Stands, AllWaitAs, Follows}
use Rattle.dsm_laws_code.proofs.Answering.{tree, Continues, Comes, Wants, Answers, answers_from, here}
use Rattle.dsm_laws_code.proofs.Operands.{same_top}
use Rattle.dsm_laws_code.proofs.Singles.{test_index_on, load_on, store_on, unary_on, step_by_on, binary_on, to_truth_on, discard_on, take_on, give_on, cross_on, print_on}
use Rattle.dsm_laws_code.proofs.Composites.{evaluate_on, evaluate_all_on, and_then_on, or_else_on, choose_on}
use Rattle.dsm_laws_code.proofs.Sequences.{declare_on, gather_on, round_on, decide_on, third_on, back_on, branch_on, either_on, run_on, ask_on, execute_on}
use Rattle.dsm_laws_code.proofs.Calls.{IsCompiled, begins, starts, returns_on, ends_on, enter_on, found, all_prints}

-- a label behind which a thread goes on
abbrev IsNoEnd : Label → Type 0
IsNoEnd (Label.Stop fault line) = ⊥
IsNoEnd Label.End = ⊥
IsNoEnd _ = Unit {0}

module _ (code : Program) (pieces : List Piece) (functions : List r.Function) (compiled : (number : ℕ) → number < length code.functions → IsCompiled code pieces functions number)
    (valid : is_valid code ≡ true) where
  -- Steps.

  module _ (f : ℕ) (frames : List t.Frame) (callers : List Frame) (wait : AllWaitAs code pieces frames callers) where
    item_on : (item : Item) (k : List Item) (labels : List Labels) (rows : List Row) (place : ℕ) (o sl ow : List ℤ) → Goes code pieces f item (Stands code pieces f k) labels rows
        → IsThere code f place rows → Answers code pieces (sem.text_at (item ∷ k) o) ow (sem.act functions (tree k o sl frames ow) item) (here code pieces f frames callers wait place o sl ow)
    item_on (evaluate e) k labels rows place o sl ow g there = evaluate_on code pieces f frames callers wait place o sl ow rows there k labels g.0 g.2 e g.1.0 g.1.1
    item_on (evaluate_all arguments) k labels rows place o sl ow g there = evaluate_all_on code pieces f frames callers wait place o sl ow rows there k labels g.0 g.2 arguments g.1.0 g.1.1
    item_on (test_index array line) k labels rows place o sl ow g there = test_index_on code pieces f frames callers wait place o sl ow k labels rows g.0 there g.2 array line g.1
    item_on (load from way) k labels rows place o sl ow g there = load_on code pieces f frames callers wait place o sl ow k labels rows g.0 there g.2 from way g.1
    item_on (store to) k labels rows place o sl ow g there = store_on code pieces f frames callers wait place o sl ow k labels rows g.0 there g.2 to g.1
    item_on (unary op line) k labels rows place o sl ow g there = unary_on code pieces f frames callers wait place o sl ow k labels rows g.0 there g.2 op line g.1
    item_on (step_by op line) k labels rows place o sl ow g there = step_by_on code pieces f frames callers wait place o sl ow k labels rows g.0 there g.2 op line g.1
    item_on (binary op line) k labels rows place o sl ow g there = binary_on code pieces f frames callers wait place o sl ow k labels rows g.0 there g.2 op line g.1
    item_on (and_then e) k labels rows place o sl ow g there = and_then_on code pieces f frames callers wait place o sl ow rows there k labels g.0 g.2 functions e g.1.0 g.1.1
    item_on (or_else e) k labels rows place o sl ow g there = or_else_on code pieces f frames callers wait place o sl ow rows there k labels g.0 g.2 functions e g.1.0 g.1.1
    item_on to_truth k labels rows place o sl ow g there = to_truth_on code pieces f frames callers wait place o sl ow k labels rows g.0 there g.2 g.1
    item_on (choose a b) k labels rows place o sl ow g there = choose_on code pieces f frames callers wait place o sl ow rows there k labels g.0 g.2 a b g.1.0 g.1.1
    item_on (enter number line) k labels rows place o sl ow g there =
        enter_on code pieces functions compiled valid f frames callers wait place o sl ow k labels rows g.0 g.1.0 number line there g.1.1 g.2
    item_on discard k labels rows place o sl ow g there = discard_on code pieces f frames callers wait place o sl ow k labels rows g.0 there g.2 g.1
    item_on (execute statement) k labels rows place o sl ow g there = execute_on code pieces f frames callers wait place o sl ow rows there k labels g.0 g.2 statement g.1
    item_on (run statements) k labels rows place o sl ow g there = run_on code pieces f frames callers wait place o sl ow rows there k labels g.0 g.2 statements g.1
    item_on (declare variables) k labels rows place o sl ow g there = declare_on code pieces f frames callers wait place o sl ow rows there k labels g.0 g.2 variables g.1
    item_on (branch body None) k labels rows place o sl ow g there = branch_on code pieces f frames callers wait place o sl ow rows there k labels g.0 g.2 body g.1
    item_on (branch body (Some other)) k labels rows place o sl ow g there = either_on code pieces f frames callers wait place o sl ow rows there k labels g.0 g.2 body other g.1
    item_on (round loop) k labels rows place o sl ow g there = round_on code pieces f frames callers wait place o sl ow rows there k labels g.0 g.2 loop.test loop.step loop.body g.1
    item_on (decide loop) k labels rows place o sl ow g there = decide_on code pieces f frames callers wait place o sl ow rows there k labels g.0 g.2 loop g.1
    item_on (third_part loop) k [] rows place o sl ow g there = absurd g
    item_on (third_part loop) k (labels ∷ outer) rows place o sl ow g there = third_on code pieces f frames callers wait place o sl ow rows there k outer labels.loop g.2 loop g.1
    item_on (jump_back loop) k labels rows place o sl ow g there = back_on code pieces f frames callers wait place o sl ow rows there k labels g.0 g.2 loop g.1
    item_on leave k labels rows place o sl ow g there =
        returns_on code pieces f frames callers wait place o sl ow o k g.1.0 g.0 (t.top o) (there ∙ g.1.1) (same_top o)
    item_on (ask lock mode) k labels rows place o sl ow g there = ask_on code pieces f frames callers wait place o sl ow rows there k labels g.0 g.2 lock mode g.1.0 g.1.1
    item_on (take_lock lock mode) k labels rows place o sl ow g there = take_on code pieces f frames callers wait place o sl ow k labels rows g.0 there g.2 lock mode 0 g.1
    item_on (give lock) k labels rows place o sl ow g there = give_on code pieces f frames callers wait place o sl ow k labels rows g.0 there g.2 lock g.1
    item_on (cross bar) k labels rows place o sl ow g there = cross_on code pieces f frames callers wait place o sl ow k labels rows g.0 there g.2 bar g.1
    item_on (gather parts) k labels rows place o sl ow g there = gather_on code pieces f frames callers wait place o sl ow rows there k labels g.0 g.2 parts g.1.0 g.1.1
    item_on (print parts) k labels rows place o sl ow g there = print_on code pieces f frames callers wait place o sl ow k labels rows g.0 there g.2 parts g.1

    todo_on : (todo : List Item) (labels : List Labels) (rows : List Row) (place : ℕ) (o sl ow : List ℤ) → Stands code pieces f todo labels rows → IsThere code f place rows
        → Answers code pieces (sem.text_at todo o) ow (sem.step functions (tree todo o sl frames ow)) (here code pieces f frames callers wait place o sl ow)
    todo_on [] labels rows place o sl ow st there =
        ends_on code pieces functions compiled valid f frames callers wait place o sl ow rows there (refl, st.1)
    todo_on (item ∷ k) labels rows place o sl ow st there =
        let lands = st.1 place there in
        answers_from code pieces (sem.text_at (item ∷ k) o) ow (sem.act functions (tree k o sl frames ow) item) (here code pieces f frames callers wait place o sl ow)
        (here code pieces f frames callers wait lands.to o sl ow) (lands.same (record { operands = o; slots = sl; outer = callers; own = ow }))
        (item_on item k labels st.0 lands.to o sl ow st.2 lands.there)

  step_on : (s : t.State) (c : State) → Follows code pieces s c → Answers code pieces (sem.text_at s.todo s.operands) s.own (sem.step functions s) c
  step_on s c m =
      let at_place = here code pieces m.function s.outer m.callers m.wait m.place s.operands s.slots s.own in
      let same : tree s.todo s.operands s.slots s.outer s.own ≡ s =
      λ i. record { todo = s.todo; operands = s.operands; slots = s.slots; outer = s.outer; own = s.own; life = sym m.alive i } in
      let first = todo_on m.function s.outer m.callers m.wait s.todo m.labels m.rows m.place s.operands s.slots s.own m.stands m.there in
      let second = subst (λ u. Answers code pieces (sem.text_at s.todo s.operands) s.own (sem.step functions u) at_place) same first in
      subst (Answers code pieces (sem.text_at s.todo s.operands) s.own (sem.step functions s)) (sym m.is) second

  -- Both come to the same want.

  step_comes : (c : State) (s u : t.State) → Comes code pieces s c → sem.step functions s ≡ goes u → Comes code pieces u c
  step_comes c s u comes e =
      let next = subst (λ move. Answers code pieces (sem.text_at s.todo s.operands) s.own move comes.to) e (step_on s comes.to comes.follows) in
      record { to = next.to; same = comes.same ∙ next.same; follows = next.follows }

  ready_comes : (s : t.State) (c : State) → Follows code pieces s c → Comes code pieces (sem.ready functions s) c
  ready_comes s c m =
      settled_keeps (sem.step functions) tree_falls.weight_at (tree_falls.step_falls functions) (λ u. Comes code pieces u c) (step_comes c) s (record { to = c; same = refl; follows = m })

  -- both want the same, and go on alike
  record Agrees (s : t.State) (c : State) : Type 0 where
    want : Want
    after : ℤ → t.State
    then : ℤ → State
    tree_asks : sem.step functions s ≡ asks want after
    code_asks : mac.step c ≡ asks want then
    words : mac.text c ≡ sem.text_at s.todo s.operands
    next : (answer : ℤ) → Continues code pieces want (after answer) (then answer)

  ready_agrees : (s : t.State) (c : State) → Follows code pieces s c → Agrees (sem.ready functions s) (mac.ready c)
  ready_agrees s c m = of (sem.step functions (sem.ready functions s)) refl (settled_reaches (sem.step functions) tree_falls.weight_at (tree_falls.step_falls functions) s) (ready_comes s c m)
      (step_on (sem.ready functions s) (ready_comes s c m).to (ready_comes s c m).follows)
    where
      of : (move : Move t.State) → sem.step functions (sem.ready functions s) ≡ move → Asks move → (comes : Comes code pieces (sem.ready functions s) c)
          → Answers code pieces (sem.text_at (sem.ready functions s).todo (sem.ready functions s).operands) (sem.ready functions s).own move comes.to → Agrees (sem.ready functions s) (mac.ready c)
      of (goes u) e a comes w = absurd a
      of (asks want after) e a comes w =
          let here_is = at code w.function w.place w.inner in
          let stays_here = settled_asks mac.step mac.weight code_falls.step_falls here_is want w.then w.asks_it in
          let same : mac.ready c ≡ here_is = comes.same ∙ w.same ∙ stays_here in
          record {
            want = want;
            after = after;
            then = w.then;
            tree_asks = e;
            code_asks = ap mac.step same ∙ w.asks_it;
            words = ap mac.text same ∙ w.words_are;
            next = w.next;
          }

  -- Labels.

  -- both have come to what is wanted next, or are over
  data Meet (s : t.State) (c : State) : Type 0 where
    going : (from : t.State) (code_from : State) → Follows code pieces from code_from → s ≡ sem.ready functions from → c ≡ mac.ready code_from → Meet s c
    gone : (from : t.State) (code_from : State) (way : Over) → s ≡ t.over from way → c ≡ mac.over code_from way → Meet s c

  follows_if : (want : Want) (label : Label) (answer : ℤ) (s : t.State) (c : State) → MayBeDone want → Completes want answer label → IsNoEnd label → Continues code pieces want s c → Follows code pieces s c
  follows_if (Want.Stop fault line) label answer s c may is no_end next = absurd (subst IsNoEnd is no_end)
  follows_if Want.End label answer s c may is no_end next = absurd (subst IsNoEnd is no_end)
  follows_if Want.Over label answer s c may is no_end next = absurd may
  follows_if want label answer s c may is no_end next = next

  module _ (s : t.State) (c : State) (both : Agrees s c) where
    completes : (label : Label) (answer : ℤ) → MayBeDone (want_of (sem.step functions s)) × Completes (want_of (sem.step functions s)) answer label → IsNoEnd label
        → Follows code pieces (next_of s answer (sem.step functions s)) (next_of c answer (mac.step c))
    completes label answer done no_end =
        let known : MayBeDone both.want × Completes both.want answer label = subst (λ move. MayBeDone (want_of move) × Completes (want_of move) answer label) both.tree_asks done in
        let follows = follows_if both.want label answer (both.after answer) (both.then answer) known.0 known.1 no_end (both.next answer) in
        let one = subst (λ move. Follows code pieces (next_of s answer move) (both.then answer)) (sym both.tree_asks) follows in
        subst (λ move. Follows code pieces (next_of s answer (sem.step functions s)) (next_of c answer move)) (sym both.code_asks) one

    goes_on : (label : Label) → AnswersTo (want_of (sem.step functions s)) label → Meet (sem.ready functions (sem.completed functions s label)) (mac.ready (mac.completed c label))
    goes_on (Label.Stop fault line) a = gone s c (stopped fault line) (tree_falls.ready_over functions s (stopped fault line)) (code_falls.ready_over c (stopped fault line))
    goes_on Label.End a = gone s c ended (tree_falls.ready_over functions s ended) (code_falls.ready_over c ended)
    goes_on (Label.Load number value) a = going _ _ (completes (Label.Load number value) value a tt) refl refl
    goes_on Label.Quiet a = going _ _ (completes Label.Quiet (pos 0) a tt) refl refl
    goes_on (Label.Store number value) a = going _ _ (completes (Label.Store number value) (pos 0) a tt) refl refl
    goes_on (Label.Ask lock mode) a = going _ _ (completes (Label.Ask lock mode) (pos 0) a tt) refl refl
    goes_on (Label.Take lock mode version) a = going _ _ (completes (Label.Take lock mode version) (pos 0) a tt) refl refl
    goes_on (Label.Give lock) a = going _ _ (completes (Label.Give lock) (pos 0) a tt) refl refl
    goes_on (Label.Arrive bar) a = going _ _ (completes (Label.Arrive bar) (pos 0) a tt) refl refl
    goes_on (Label.Cross bar epoch) a = going _ _ (completes (Label.Cross bar epoch) (pos 0) a tt) refl refl
    goes_on (Label.Line text) a = going _ _ (completes (Label.Line text) (pos 0) a tt) refl refl

  -- nothing answers a thread that is over
  none_answers : (label : Label) → AnswersTo Want.Over label → ⊥
  none_answers (Label.Stop fault line) a = a.0
  none_answers (Label.Load number value) a = a.0
  none_answers Label.Quiet a = a.0
  none_answers Label.End a = a.0
  none_answers (Label.Store number value) a = a.0
  none_answers (Label.Ask lock mode) a = a.0
  none_answers (Label.Take lock mode version) a = a.0
  none_answers (Label.Give lock) a = a.0
  none_answers (Label.Arrive bar) a = a.0
  none_answers (Label.Cross bar epoch) a = a.0
  none_answers (Label.Line text) a = a.0

  meets_on : (s : t.State) (c : State) → Meet s c → (label : Label) → AnswersTo (want_of (sem.step functions s)) label
      → Meet (sem.ready functions (sem.completed functions s label)) (mac.ready (mac.completed c label))
  meets_on s c (going from code_from m is code_is) label a =
      goes_on s c (subst (λ u. Agrees u c) (sym is) (subst (λ d. Agrees (sem.ready functions from) d) (sym code_is) (ready_agrees from code_from m))) label a
  meets_on s c (gone from code_from way is code_is) label a =
      absurd (none_answers label (subst (λ u. AnswersTo (want_of (sem.step functions u)) label) is a))

  meets_same : (s : t.State) (c : State) → Meet s c → (want_of (mac.step c) ≡ want_of (sem.step functions s)) × (mac.text c ≡ sem.text_at s.todo s.operands)
  meets_same s c (going from code_from m is code_is) =
      let both : Agrees s c = subst (λ u. Agrees u c) (sym is) (subst (λ d. Agrees (sem.ready functions from) d) (sym code_is) (ready_agrees from code_from m)) in
      (ap want_of both.code_asks ∙ sym (ap want_of both.tree_asks), both.words)
  meets_same s c (gone from code_from way is code_is) =
      ((λ i. want_of (mac.step (code_is i))) ∙ sym (λ i. want_of (sem.step functions (is i))), (λ i. mac.text (code_is i)) ∙ sym (λ i. sem.text_at (is i).todo (is i).operands))

-- Programs.

module _ (program : check.Program) (valid : is_valid (code_of program) ≡ true) where
  abbrev code : Program
  code = code_of program

  compiled : (number : ℕ) → number < length code.functions → IsCompiled code program.pieces program.functions number
  compiled number within =
      let m = found code program.pieces program.functions 0 number (all_prints code program.pieces [] (functions_prints program.functions) refl) within in
      record { function = m.function; prints = m.prints; is = m.is; code_is = ap prog.numbered m.code_is; has = m.has }

  started_follows : (procs me : ℕ) → Follows code program.pieces (sem.started (sem.numbered (slice_get program.functions program.main)) program.private_cells procs me) (mac.started code procs me)
  started_follows procs me =
      let m = compiled program.main (valid_facts code valid).main in
      let to = mac.started code procs me in
      let follows : Follows code program.pieces (sem.started m.function program.private_cells procs me) to = record {
        alive = refl;
        function = program.main;
        place = 0;
        callers = [];
        is = λ i. record to { slots = mac.new_slots (m.code_is i) (pos me ∷ pos procs ∷ []) };
        rows = body_code program.pieces m.prints m.function;
        there = starts code program.pieces program.functions program.main m;
        labels = [];
        stands = begins code program.pieces program.functions program.main m;
        wait = tt;
      } in
      subst (λ g. Follows code program.pieces (sem.started g program.private_cells procs me) to) (sym (ap sem.numbered m.is)) follows

  meets_after : (procs me : ℕ) (labels : List Label) → AllAnswer (threads_of program) (first_states program procs me) labels
      → Meet code program.pieces program.functions compiled valid (state_after (threads_of program) (first_states program procs me) labels) (state_after code_semantics (mac.first_state code procs me) labels)
  meets_after procs me [] all = going _ _ (started_follows procs me) refl refl
  meets_after procs me (label ∷ before) all = meets_on code program.pieces program.functions compiled valid _ _ (meets_after procs me before all.1) label all.0

pub compiled_runs_as_tree : (program : check.Program) (procs me : ℕ) → IsTrue (is_valid (code_of program))
    → RunsAs code_semantics (mac.first_state (code_of program) procs me) (threads_of program) (first_states program procs me)
compiled_runs_as_tree program procs me valid labels all =
    meets_same (code_of program) program.pieces program.functions (compiled program valid) valid _ _ (meets_after program valid procs me labels all)
