-- What is done for a labelled step is what its label makes of the state.
use Rattle.std.proofs.Common.{◌+◌, ◌≡◌, ℕ, ℤ, pos, Bool, true, false, cond, nat_lt, List, [], ◌∷◌, Option, Some, None, Ok, Err, length, drop, refl, ap, ◌∙◌}
use Rattle.std.specs.Prelude.{slice_get}
use Rattle.dsm_base.specs.declared.names.Fault.{Fault}
use Rattle.dsm_base.specs.declared.label.Want.{Want}
use Rattle.dsm_base.specs.declared.label.Label.{Label}
use Rattle.dsm_base.specs.Threads.{Completes}
use Rattle.dsm_syntax.specs.declared.tree.Sharing.{Sharing}
use Rattle.dsm_check.specs.Resolved as r
use Rattle.dsm_values.specs.Values.{Outcome, holds, unary_value, step_value, binary_value}
use Rattle.dsm_base.specs.Steps.{Move, asks, want_of, next_of, answer_of, Over, ended, stopped}
use Rattle.dsm_semantics.specs.States.{Place, slot, cell, member, Use, Item, evaluate, evaluate_all, test_index, load, store, unary, step_by, binary, and_then, or_else, to_truth, choose, enter, discard, execute, run, declare, branch, round, decide, third_part, jump_back, leave, ask, take_lock, give, cross, gather, print, Frame, State, top, below, over}
use Rattle.dsm_semantics.specs.Semantics.{below_index, values_in, member_number, at_member, loads, load_at, stores, store_at, comes_to, numbered, entered, returns, declaring, declaration, gathering, lock_line, lock_number, evaluation, evaluation_of_all, execution, execution_of_all, act, act_first, step_in, step, completed}
use Rattle.dsm_semantics.specs.Within.{Extent, AreFunctionsWithin, IsStatementWithin, IsItemWithin, AreItemsWithin, AreFramesWithin, IsStateWithin}
use Rattle.dsm_semantics.proofs.Within.{body_within}
use Rattle.dsm_semantics.specs.Finished.{load_finished, store_finished, statement_finished, return_finished, finished, all_finished}

-- the state after a label, by what the step of the state was
abbrev after_label : State → Move State → Label → State
after_label s move (Label.Stop fault line) = over s (stopped fault line)
after_label s move Label.End = over s ended
after_label s move label = next_of s (answer_of label) move

completed_is : (functions : List r.Function) (s : State) (label : Label) → completed functions s label ≡ after_label s (step functions s) label
completed_is functions s Label.Quiet = refl
completed_is functions s (Label.Load number value) = refl
completed_is functions s (Label.Store number value) = refl
completed_is functions s (Label.Ask lock mode) = refl
completed_is functions s (Label.Take lock mode version) = refl
completed_is functions s (Label.Give lock) = refl
completed_is functions s (Label.Arrive bar) = refl
completed_is functions s (Label.Cross bar epoch) = refl
completed_is functions s (Label.Line text) = refl
completed_is functions s Label.End = refl
completed_is functions s (Label.Stop fault line) = refl

-- a want that is no stop
abbrev pub IsNoStop : Want → Type 0
IsNoStop (Want.Stop fault line) = ⊥
IsNoStop _ = Unit {0}

-- what is no stop by each of its kinds
pub no_stop : (want : Want) → ((fault : Fault) (line : ℕ) → want ≡ Want.Stop fault line → ⊥) → IsNoStop want
no_stop (Want.Stop fault line) h = h fault line refl
no_stop Want.Quiet h = tt
no_stop (Want.Load number line) h = tt
no_stop (Want.Store number value line) h = tt
no_stop (Want.Ask lock mode line) h = tt
no_stop (Want.Take lock mode) h = tt
no_stop (Want.Give lock line) h = tt
no_stop (Want.Arrive bar) h = tt
no_stop (Want.Cross bar) h = tt
no_stop Want.Line h = tt
no_stop Want.End h = tt
no_stop Want.Over h = tt

module _ (s : State) (answer : ℤ) where
  -- a label that completes what a step wants, which is no stop, leaves this state
  abbrev Leads : Move State → State → Type 0
  Leads move t = (label : Label) → Completes (want_of move) answer label → IsNoStop (want_of move) → after_label s move label ≡ t

  -- what a step that wants something leaves
  abbrev result_of : Want → (ℤ → State) → State
  result_of (Want.Load number line) after = after answer
  result_of Want.End after = over s ended
  result_of _ after = after (pos 0)

  by_label : (move : Move State) (label known : Label) → label ≡ known → after_label s move label ≡ after_label s move known
  by_label move label known is = ap (after_label s move) is

  asks_leads : (want : Want) (after : ℤ → State) → Leads (asks want after) (result_of want after)
  asks_leads Want.Quiet after label c n = by_label (asks Want.Quiet after) label Label.Quiet c
  asks_leads (Want.Load number line) after label c n = by_label (asks (Want.Load number line) after) label (Label.Load number answer) c
  asks_leads (Want.Store number value line) after label c n = by_label (asks (Want.Store number value line) after) label (Label.Store number value) c
  asks_leads (Want.Ask lock mode line) after label c n = by_label (asks (Want.Ask lock mode line) after) label (Label.Ask lock mode) c
  asks_leads (Want.Take lock mode) after label c n = by_label (asks (Want.Take lock mode) after) label (Label.Take lock mode c.0) c.1
  asks_leads (Want.Give lock line) after label c n = by_label (asks (Want.Give lock line) after) label (Label.Give lock) c
  asks_leads (Want.Arrive bar) after label c n = by_label (asks (Want.Arrive bar) after) label (Label.Arrive bar) c
  asks_leads (Want.Cross bar) after label c n = by_label (asks (Want.Cross bar) after) label (Label.Cross bar c.0) c.1
  asks_leads Want.Line after label c n = by_label (asks Want.Line after) label (Label.Line c.0) c.1
  asks_leads Want.End after label c n = by_label (asks Want.End after) label Label.End c
  asks_leads (Want.Stop fault line) after label c n = absurd n
  asks_leads Want.Over after label c n = absurd c

  leads_if : (test : Bool) (a b : Move State) (t : State) → Leads a t → Leads b t → Leads (cond test a b) t
  leads_if true a b t p q = p
  leads_if false a b t p q = q

  leads_member : (u : State) (line : ℕ) (found : Option ℕ) (go : ℕ → Move State) (t : State) → ((number : ℕ) → Leads (go number) t) → Leads (at_member u line found go) t
  leads_member u line None go t h = λ label c n. absurd n
  leads_member u line (Some number) go t h = h number

  leads_loads : (u : State) (sharing : Sharing) (number line : ℕ) (after : ℤ → State) → Leads (loads u sharing number line after) (after answer)
  leads_loads u Sharing.Shared number line after = asks_leads (Want.Load (record { 0 = number }) line) after
  leads_loads u Sharing.Private number line after = λ label c n. absurd c

  leads_stores : (sharing : Sharing) (number line : ℕ) (value : ℤ) (after : State) → Leads (stores sharing number line value after) after
  leads_stores Sharing.Shared number line value after = asks_leads (Want.Store (record { 0 = number }) value line) (λ answer. after)
  leads_stores Sharing.Private number line value after = λ label c n. absurd c

  leads_outcome : (u : State) (rest : List ℤ) (line : ℕ) (outcome : Outcome) (t : State) → Leads (comes_to u rest line outcome) t
  leads_outcome u rest line (Ok value) t = λ label c n. absurd c
  leads_outcome u rest line (Err fault) t = λ label c n. absurd n

  module _ (k : List Item) where
    -- behind the item
    abbrev u : State
    u = record s { todo = k }

    leads_load : (way : Use) (place : Place) → Leads (load_at u way place) (load_finished u way place answer)
    leads_load way (slot number) = λ label c n. absurd c
    leads_load way (cell sharing number line) = leads_loads u sharing number line _
    leads_load way (member sharing array line) = leads_member u line (member_number array (top s.operands)) _ _ (λ number. leads_loads u sharing number line _)

    leads_store : (place : Place) → Leads (store_at u place) (store_finished u place)
    leads_store (slot number) = λ label c n. absurd c
    leads_store (cell sharing number line) = leads_stores sharing number line _ _
    leads_store (member sharing array line) = leads_member u line (member_number array (top (below s.operands))) _ _ (λ number. leads_stores sharing number line _ _)

    leads_evaluation : (e : r.Expression) → Leads (evaluation u e) u
    leads_evaluation (r.number n) = λ label c n. absurd c
    leads_evaluation (r.load location) = λ label c n. absurd c
    leads_evaluation (r.call function arguments line) = λ label c n. absurd c
    leads_evaluation (r.unary op line e) = λ label c n. absurd c
    leads_evaluation (r.prefix op line location) = λ label c n. absurd c
    leads_evaluation (r.postfix location op line) = λ label c n. absurd c
    leads_evaluation (r.binary a op line b) = λ label c n. absurd c
    leads_evaluation (r.choice test a b) = λ label c n. absurd c
    leads_evaluation (r.assign location op line e) = λ label c n. absurd c

    leads_all : (arguments : r.Expressions) → Leads (evaluation_of_all u arguments) u
    leads_all r.nil = λ label c n. absurd c
    leads_all (r.cons e rest) = λ label c n. absurd c

    leads_declaring : (w : State) (number : ℕ) (initial : Option r.Expression) → Leads (declaring w number initial) u
    leads_declaring w number None = λ label c n. absurd c
    leads_declaring w number (Some e) = λ label c n. absurd c

    leads_declaration : (variables : List r.Variable) → Leads (declaration u variables) u
    leads_declaration [] = λ label c n. absurd c
    leads_declaration (variable ∷ rest) = leads_declaring _ variable.slot variable.initial

    leads_execution : (statement : r.Statement) → Leads (execution u statement) (statement_finished u statement)
    leads_execution (r.block body) = λ label c n. absurd c
    leads_execution r.empty = λ label c n. absurd c
    leads_execution (r.variables variables) = λ label c n. absurd c
    leads_execution (r.expression e) = λ label c n. absurd c
    leads_execution (r.when test body) = λ label c n. absurd c
    leads_execution (r.either test body other) = λ label c n. absurd c
    leads_execution (r.while test body) = λ label c n. absurd c
    leads_execution (r.for start test step body) = λ label c n. absurd c
    leads_execution r.break = λ label c n. absurd c
    leads_execution r.continue = λ label c n. absurd c
    leads_execution (r.return None) = λ label c n. absurd c
    leads_execution (r.return (Some e)) = λ label c n. absurd c
    leads_execution (r.acquire lock mode) = λ label c n. absurd c
    leads_execution (r.release lock) = λ label c n. absurd c
    leads_execution (r.barrier bar) = asks_leads (Want.Arrive bar) (λ answer. record u { todo = cross bar ∷ u.todo })
    leads_execution (r.print parts) = λ label c n. absurd c

    leads_statements : (statements : r.Statements) → Leads (execution_of_all u statements) u
    leads_statements r.none = λ label c n. absurd c
    leads_statements (r.then statement rest) = λ label c n. absurd c

    leads_gathering : (parts : List r.Part) → Leads (gathering u parts) u
    leads_gathering [] = λ label c n. absurd c
    leads_gathering (r.part_text text ∷ rest) = λ label c n. absurd c
    leads_gathering (r.part_value e ∷ rest) = λ label c n. absurd c

    leads_returns : (value : ℤ) (outer : List Frame) → Leads (returns u value outer) (return_finished u value outer)
    leads_returns value [] = asks_leads Want.End (λ answer. u)
    leads_returns value (caller ∷ outer) =
        asks_leads Want.Quiet (λ answer. record u { todo = caller.todo; operands = value ∷ caller.operands; slots = caller.slots; outer = outer })

    leads_act : (functions : List r.Function) (item : Item) → Leads (act functions u item) (finished functions u item answer)
    leads_act functions (evaluate e) = leads_evaluation e
    leads_act functions (evaluate_all arguments) = leads_all arguments
    leads_act functions (test_index array line) = leads_member u line (member_number array (top s.operands)) _ _ (λ number label c n. absurd c)
    leads_act functions (load place way) = leads_load way place
    leads_act functions (store place) = leads_store place
    leads_act functions (unary op line) = leads_outcome u (below s.operands) line (unary_value op (top s.operands)) _
    leads_act functions (step_by op line) = leads_outcome u (below s.operands) line (step_value op (top s.operands)) _
    leads_act functions (binary op line) = leads_outcome u (below (below s.operands)) line (binary_value op (top (below s.operands)) (top s.operands)) _
    leads_act functions (and_then e) = leads_if (holds (top s.operands)) _ _ _ (λ label c n. absurd c) (λ label c n. absurd c)
    leads_act functions (or_else e) = leads_if (holds (top s.operands)) _ _ _ (λ label c n. absurd c) (λ label c n. absurd c)
    leads_act functions to_truth = λ label c n. absurd c
    leads_act functions (choose a b) = λ label c n. absurd c
    leads_act functions (enter number line) =
        leads_if (nat_lt (length s.outer + 1) 256) _ _ _ (asks_leads Want.Quiet (λ answer. entered u (numbered (slice_get functions number)))) (λ label c n. absurd n)
    leads_act functions discard = λ label c n. absurd c
    leads_act functions (execute statement) = leads_execution statement
    leads_act functions (run statements) = leads_statements statements
    leads_act functions (declare variables) = leads_declaration variables
    leads_act functions (branch body other) = λ label c n. absurd c
    leads_act functions (round loop) = λ label c n. absurd c
    leads_act functions (decide loop) = λ label c n. absurd c
    leads_act functions (third_part loop) = λ label c n. absurd c
    leads_act functions (jump_back loop) = asks_leads Want.Quiet (λ answer. record u { todo = round loop ∷ u.todo })
    leads_act functions leave = leads_returns (top s.operands) s.outer
    leads_act functions (ask lock mode) = leads_member u (lock_line lock) (lock_number lock s.operands) _ _ (λ number. asks_leads (Want.Ask (record { 0 = number }) mode (lock_line lock)) (λ answer. record u { todo = take_lock lock mode ∷ u.todo }))
    leads_act functions (take_lock lock mode) = leads_member u (lock_line lock) (lock_number lock s.operands) _ _ (λ number. asks_leads (Want.Take (record { 0 = number }) mode) (λ answer. record u { operands = below_index lock u.operands }))
    leads_act functions (give lock) = leads_member u (lock_line lock) (lock_number lock s.operands) _ _ (λ number. asks_leads (Want.Give (record { 0 = number }) (lock_line lock)) (λ answer. record u { operands = below_index lock u.operands }))
    leads_act functions (cross bar) = asks_leads (Want.Cross bar) (λ answer. u)
    leads_act functions (gather parts) = leads_gathering parts
    leads_act functions (print parts) = asks_leads Want.Line (λ answer. record u { operands = drop (values_in parts) u.operands })

  leads_first : (functions : List r.Function) (todo : List Item) → Leads (act_first functions (record s { todo = todo }) todo) (all_finished functions s todo answer)
  leads_first functions [] = leads_returns [] (pos 0) s.outer
  leads_first functions (item ∷ k) = leads_act k functions item

  leads_in : (functions : List r.Function) (life : Option Over) → Leads (step_in functions s life) (all_finished functions s s.todo answer)
  leads_in functions None = leads_first functions s.todo
  leads_in functions (Some way) = λ label c n. absurd c

-- a label that completes what a state wants, which is no stop, leaves what is done for it
pub finished_is : (functions : List r.Function) (s : State) (answer : ℤ) (label : Label) → Completes (want_of (step functions s)) answer label
    → IsNoStop (want_of (step functions s)) → completed functions s label ≡ all_finished functions s s.todo answer
finished_is functions s answer label c n = completed_is functions s label ∙ leads_in s answer functions s.life label c n

-- What is done for a labelled step names only what there is.

module _ (extent : Extent) (functions : List r.Function) (all : AreFunctionsWithin extent functions) where
  returned_within : (s : State) (value : ℤ) (outer : List Frame) → AreFramesWithin extent outer → IsStateWithin extent (return_finished s value outer)
  returned_within s value [] frames = (tt, tt)
  returned_within s value (caller ∷ outer) frames = frames

  load_within : (s : State) (way : Use) (place : Place) (answer : ℤ) → IsStateWithin extent s → IsStateWithin extent (load_finished s way place answer)
  load_within s way (slot number) answer p = p
  load_within s way (cell sharing number line) answer p = p
  load_within s way (member sharing array line) answer p = p

  store_within : (s : State) (place : Place) → IsStateWithin extent s → IsStateWithin extent (store_finished s place)
  store_within s (slot number) p = p
  store_within s (cell sharing number line) p = p
  store_within s (member sharing array line) p = p

  statement_within : (s : State) (statement : r.Statement) → IsStatementWithin extent statement → IsStateWithin extent s → IsStateWithin extent (statement_finished s statement)
  statement_within s (r.barrier bar) w p = ((w, p.0), p.1)
  statement_within s _ w p = p

  item_within : (s : State) (item : Item) (answer : ℤ) → IsItemWithin extent item → IsStateWithin extent s → IsStateWithin extent (finished functions s item answer)
  item_within s (load place way) answer w p = load_within s way place answer p
  item_within s (store place) answer w p = store_within s place p
  item_within s (enter number line) answer w p = ((body_within extent functions number all, tt), p)
  item_within s (execute statement) answer w p = statement_within s statement w p
  item_within s (jump_back loop) answer w p = ((w, p.0), p.1)
  item_within s leave answer w p = returned_within s (top s.operands) s.outer p.1
  item_within s (ask lock mode) answer w p = ((w, p.0), p.1)
  item_within s (take_lock lock mode) answer w p = p
  item_within s (give lock) answer w p = p
  item_within s (print parts) answer w p = p
  item_within s _ answer w p = p

  all_within : (s : State) (todo : List Item) (answer : ℤ) → AreItemsWithin extent todo → AreFramesWithin extent s.outer → IsStateWithin extent (all_finished functions s todo answer)
  all_within s [] answer items frames = returned_within s (pos 0) s.outer frames
  all_within s (item ∷ k) answer items frames = item_within (record s { todo = k }) item answer items.0 (items.1, frames)

  pub finished_within : (s : State) (answer : ℤ) → IsStateWithin extent s → IsStateWithin extent (all_finished functions s s.todo answer)
  finished_within s answer p = all_within s s.todo answer p.0 p.1
