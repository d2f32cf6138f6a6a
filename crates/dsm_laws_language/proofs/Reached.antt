-- The states that threads of closed programs come to are closed, and find all that their steps read.
use Rattle.std.proofs.Common.{◌≡◌, ◌==◌, ℕ, ◌+◌, nat_lt, nat_le, ℤ, pos, negsuc, Bool, true, false, cond, ◌&&◌, List, [], ◌∷◌, length, Option, Some, None, refl, sym, subst, arith}
use Rattle.std.specs.Prelude.{IsTrue, slice_get, is_some}
use Rattle.std.specs.List.{list_all}
use Rattle.std.proofs.lemmas.Bool.{lt-ltb, le-leb, ltb-true, leb-true, eqb-true}
use Rattle.std.proofs.lemmas.List.{length-replicate}
use Rattle.dsm_base.specs.declared.label.Want.{Want}
use Rattle.dsm_base.specs.declared.label.Label.{Label}
use Rattle.dsm_base.specs.Threads.{AnswersTo, Completes, MayBeDone, state_after}
use Rattle.dsm_base.specs.Steps.{want_of, next_of, Over, ended, stopped}
use Rattle.dsm_base.proofs.StepsSettle.{settled_keeps}
use Rattle.dsm_syntax.specs.declared.tree.Sharing.{Sharing}
use Rattle.dsm_check.specs.declared.checked.Checked.{Checked}
use Rattle.dsm_check.specs.declared.resolved.Array.{Array}
use Rattle.dsm_check.specs.Resolved as r
use Rattle.dsm_check.specs.CheckedViews.{program_of}
use Rattle.dsm_check.specs.Programs.{Program}
use Rattle.dsm_check.proofs.Successes.{both_true}
use Rattle.dsm_semantics.specs.Programs.{threads_of, first_states}
use Rattle.dsm_semantics.specs.States.{Place, slot, cell, member, Item, load, store, enter, execute, declare, State, top, below, over}
use Rattle.dsm_semantics.specs.Semantics.{member_number, numbered, step, ready, completed}
use Rattle.dsm_semantics.proofs.Falls.{weight_at, step_falls}
use Rattle.dsm_laws_language.specs.Closed.{is_below, is_callable, has_params, is_closed_option, is_closed_expression, is_closed_variable, are_closed_variables, is_closed_statement, are_closed_statements, is_closed_function, has_limits, is_closed}
use Rattle.dsm_laws_language.specs.States.{takes, has_loop, is_closed_place, is_closed_item, AreClosed, IsClosedState, is_own, has_place, has_slot, has_function, has_its_loop, has_named, finds, finds_all, IsReached, at_first, by_step, by_label, started_in, AllAnswer}
use Rattle.dsm_laws_language.proofs.Tests.{both}
use Rattle.dsm_laws_language.proofs.Evaluating.{MayGoOn}
use Rattle.dsm_laws_language.proofs.Steps.{function_closed, begins, step_leaves, goes_closed, next_closed}
use Rattle.dsm_laws_language.proofs.Accepted.{accepted_closed}

-- Labels that answer.

-- neither a stop nor an end
abbrev IsOther : Label → Type 0
IsOther (Label.Stop fault line) = ⊥
IsOther Label.End = ⊥
IsOther _ = Unit {0}

goes_on : (want : Want) (answer : ℤ) (label : Label) → MayBeDone want → Completes want answer label → IsOther label → MayGoOn want
goes_on Want.Quiet answer label may h other = tt
goes_on (Want.Load number line) answer label may h other = tt
goes_on (Want.Store number value line) answer label may h other = tt
goes_on (Want.Ask lock mode line) answer label may h other = tt
goes_on (Want.Take lock mode) answer label may h other = tt
goes_on (Want.Give lock line) answer label may h other = tt
goes_on (Want.Arrive bar) answer label may h other = tt
goes_on (Want.Cross bar) answer label may h other = tt
goes_on Want.Line answer label may h other = tt
goes_on Want.End answer label may h other = subst IsOther h other
goes_on (Want.Stop fault line) answer label may h other = subst IsOther h other
goes_on Want.Over answer label may h other = may

module _ (program : Program) (closed : is_closed program ≡ true) where
  over_closed : (s : State) (way : Over) → IsClosedState program s → IsClosedState program (over s way)
  over_closed s way state = record { own = state.own; inner = refl; outer = tt }

  answered : (s : State) (answer : ℤ) (label : Label) → IsClosedState program s → MayBeDone (want_of (step program.functions s))
      → Completes (want_of (step program.functions s)) answer label → IsOther label → (given : ℤ)
      → IsClosedState program (next_of s given (step program.functions s))
  answered s answer label state may h other given =
      next_closed program closed s given (step program.functions s) (goes_on (want_of (step program.functions s)) answer label may h other) state
      (step_leaves program closed s state)

  pub completed_closed : (s : State) (label : Label) → IsClosedState program s → AnswersTo (want_of (step program.functions s)) label
      → IsClosedState program (completed program.functions s label)
  completed_closed s (Label.Stop fault line) state h = over_closed s (stopped fault line) state
  completed_closed s Label.End state h = over_closed s ended state
  completed_closed s Label.Quiet state h = answered s (pos 0) Label.Quiet state h.0 h.1 tt (pos 0)
  completed_closed s (Label.Load number value) state h = answered s value (Label.Load number value) state h.0 h.1 tt value
  completed_closed s (Label.Store number value) state h = answered s (pos 0) (Label.Store number value) state h.0 h.1 tt (pos 0)
  completed_closed s (Label.Ask lock mode) state h = answered s (pos 0) (Label.Ask lock mode) state h.0 h.1 tt (pos 0)
  completed_closed s (Label.Take lock mode version) state h = answered s (pos 0) (Label.Take lock mode version) state h.0 h.1 tt (pos 0)
  completed_closed s (Label.Give lock) state h = answered s (pos 0) (Label.Give lock) state h.0 h.1 tt (pos 0)
  completed_closed s (Label.Arrive bar) state h = answered s (pos 0) (Label.Arrive bar) state h.0 h.1 tt (pos 0)
  completed_closed s (Label.Cross bar epoch) state h = answered s (pos 0) (Label.Cross bar epoch) state h.0 h.1 tt (pos 0)
  completed_closed s (Label.Line text) state h = answered s (pos 0) (Label.Line text) state h.0 h.1 tt (pos 0)

  -- What a step reads.

  member_there : (array : Array) (index : ℤ) (bound : ℕ) → is_below bound array ≡ true → (found : Option ℕ) → member_number array index ≡ found
      → (s : State) → length s.own ≡ bound → is_own s Sharing.Private found ≡ true
  member_there array index bound h None is s own = refl
  member_there array (pos i) bound h (Some number) is s own = by (nat_lt i array.size) refl is
    where
      by : (test : Bool) → nat_lt i array.size ≡ test → cond test (Some (array.first + i)) None ≡ Some number → nat_lt number (length s.own) ≡ true
      by true e is =
          let same : array.first + i ≡ number = cc in
          lt-ltb number (length s.own) (omega (arith, same, own, ltb-true i array.size e, leb-true (array.first + array.size) bound h))
      by false e is = cc
  member_there array (negsuc i) bound h (Some number) is s own = cc

  place_there : (s : State) (index : ℤ) (place : Place) → length s.own ≡ program.private_cells → is_closed_place program (length s.slots) place ≡ true
      → has_place s index place ≡ true
  place_there s index (slot number) own h = h
  place_there s index (cell Sharing.Shared number line) own h = refl
  place_there s index (cell Sharing.Private number line) own h = subst (λ count. nat_lt number count ≡ true) (sym own) h
  place_there s index (member Sharing.Shared array line) own h = refl
  place_there s index (member Sharing.Private array line) own h =
      member_there array index program.private_cells h (member_number array index) refl s own

  slot_there : (s : State) (variables : List r.Variable) → are_closed_variables program (length s.slots) variables ≡ true → has_slot s variables ≡ true
  slot_there s [] h = refl
  slot_there s (variable ∷ rest) h =
      let one = (both_true (is_closed_variable program (length s.slots) variable) (are_closed_variables program (length s.slots) rest) h).0 in
      (both_true (nat_lt variable.slot (length s.slots)) (is_closed_option (is_closed_expression program (length s.slots)) variable.initial) one).0

  function_there : (found : Option r.Function) → is_some found ≡ true → is_closed_function program (numbered found) ≡ true → has_function found ≡ true
  function_there None is h = cc
  function_there (Some function) is h =
      (both_true (nat_le function.params function.slots)
      (nat_le function.slots 192 && (length function.names == function.slots && are_closed_statements program function.slots false function.body)) h).0

  loop_there : (slots : ℕ) (k : List Item) (statement : r.Statement) → is_closed_statement program slots (has_loop k) statement ≡ true
      → has_its_loop k statement ≡ true
  loop_there slots k r.break h = h
  loop_there slots k r.continue h = h
  loop_there slots k statement h = refl

  named_there : (s : State) (item : Item) (k : List Item) → length s.own ≡ program.private_cells
      → is_closed_item program (length s.slots) (has_loop k) item ≡ true → has_named program s item k ≡ true
  named_there s (load place way) k own h = place_there s (top s.operands) place own h
  named_there s (store place) k own h = place_there s (top (below s.operands)) place own h
  named_there s (enter number line) k own h = function_there (slice_get program.functions number) h (function_closed program closed number)
  named_there s (declare variables) k own h = slot_there s variables h
  named_there s (execute statement) k own h = loop_there (length s.slots) k statement h
  named_there s item k own h = refl

  finds_in : (s : State) (todo : List Item) → length s.own ≡ program.private_cells → AreClosed program (length s.slots) (length s.operands) todo
      → finds program s todo ≡ true
  finds_in s [] own h = refl
  finds_in s (item ∷ k) own h =
      both (le-leb (takes program item) (length s.operands) (omega (arith, h.1.operands))) (named_there s item k own h.2)

  pub closed_finds : (s : State) → IsClosedState program s → IsTrue (finds_all program s)
  closed_finds s state = finds_in s s.todo state.own state.inner

  -- Threads.

  main_params : (found : Option r.Function) → has_params 2 found ≡ true → 2 ≡ (numbered found).params
  main_params None h = cc
  main_params (Some function) h = sym (eqb-true function.params 2 h)

  pub started_closed : (procs me : ℕ) → IsClosedState program (started_in program procs me)
  started_closed procs me =
      let main = numbered (slice_get program.functions program.main) in
      let fits = (both_true (is_callable program program.main 2) (has_limits program && list_all (is_closed_function program) program.functions) closed).0 in
      record {
        own = length-replicate program.private_cells (pos 0);
        inner = begins program closed main (pos me ∷ pos procs ∷ []) (function_closed program closed program.main)
            (main_params (slice_get program.functions program.main) fits);
        outer = tt;
      }

  pub reached_closed : (first s : State) → IsReached program first s → IsClosedState program first → IsClosedState program s
  reached_closed first s at_first state = state
  reached_closed first s (by_step before t reached is) state = goes_closed program closed before t (reached_closed first before reached state) is
  reached_closed first s (by_label before label reached answers) state = completed_closed before label (reached_closed first before reached state) answers

module _ (program : Program) where
  -- the states between labelled steps are come to
  ready_reached : (first s : State) → IsReached program first s → IsReached program first (ready program.functions s)
  ready_reached first s reached =
      settled_keeps (step program.functions) weight_at (step_falls program.functions) (IsReached program first)
      (λ s t reached is. by_step s t reached is) s reached

  pub labels_reached : (procs me : ℕ) (labels : List Label) → AllAnswer program procs me labels
      → IsReached program (started_in program procs me) (state_after (threads_of program) (first_states program procs me) labels)
  labels_reached procs me [] all = ready_reached (started_in program procs me) (started_in program procs me) at_first
  labels_reached procs me (label ∷ before) all =
      ready_reached (started_in program procs me) _ (by_label _ label (labels_reached procs me before all.0) all.1)

pub reached_finds : (checked : Checked) (procs me : ℕ) (s : State) → IsReached (program_of checked) (started_in (program_of checked) procs me) s
    → IsTrue (finds_all (program_of checked) s)
reached_finds checked procs me s reached =
    let program = program_of checked in
    let closed = accepted_closed checked in
    closed_finds program closed s (reached_closed program closed (started_in program procs me) s reached (started_closed program closed procs me))
