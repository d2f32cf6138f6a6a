-- What is finished of a labelled step is what its label makes of the state.
use Rattle.std.proofs.Common.{◌≡◌, ℕ, ◌+◌, nat_lt, ℤ, pos, Bool, true, false, cond, List, [], ◌∷◌, length, get_or, set, Option, Some, None, Ok, Err, refl, ap, ◌∙◌}
use Rattle.dsm_base.specs.declared.names.Fault.{Fault}
use Rattle.dsm_base.specs.declared.label.Want.{Want}
use Rattle.dsm_base.specs.declared.label.Label.{Label}
use Rattle.dsm_base.specs.Threads.{Completes}
use Rattle.dsm_base.specs.Steps.{Move, goes, asks, want_of, next_of, answer_of, Over, ended, stopped}
use Rattle.dsm_values.specs.Values.{Outcome, unary_value, step_value, binary_value}
use Rattle.dsm_code.specs.declared.instruction.Target.{Target}
use Rattle.dsm_code.specs.declared.instruction.Instr.{Instr}
use Rattle.dsm_code.specs.declared.parts.Row.{Row}
use Rattle.dsm_code.specs.Instructions.{top, below, number_at, below_index, stored}
use Rattle.dsm_code.specs.Programs.{function_at, row_at}
use Rattle.dsm_code.specs.Machine.{State, Frame, over, onward, comes_to, at_number, after_load, entered, back_in, returns, act, act_at, step_in, step, completed}
use Rattle.dsm_code.specs.Finished.{returned, finished, finished_at, finished_in}

-- the state after a label, by what the step of the state was
abbrev after_label : State → Move State → Label → State
after_label s move (Label.Stop fault line) = over s (stopped fault line)
after_label s move Label.End = over s ended
after_label s move label = next_of s (answer_of label) move

completed_is : (s : State) (label : Label) → completed s label ≡ after_label s (step s) label
completed_is s Label.Quiet = refl
completed_is s (Label.Load cell value) = refl
completed_is s (Label.Store cell value) = refl
completed_is s (Label.Ask lock mode) = refl
completed_is s (Label.Take lock mode version) = refl
completed_is s (Label.Give lock) = refl
completed_is s (Label.Arrive bar) = refl
completed_is s (Label.Cross bar epoch) = refl
completed_is s (Label.Line text) = refl
completed_is s Label.End = refl
completed_is s (Label.Stop fault line) = refl

-- a want that is no stop
abbrev pub IsNoStop : Want → Type 0
IsNoStop (Want.Stop fault line) = ⊥
IsNoStop _ = Unit {0}

-- what is no stop by each of its kinds
pub no_stop : (want : Want) → ((fault : Fault) (line : ℕ) → want ≡ Want.Stop fault line → ⊥) → IsNoStop want
no_stop (Want.Stop fault line) h = h fault line refl
no_stop _ h = tt

module _ (s : State) (answer : ℤ) where
  -- a label that completes what a step wants, which is no stop, leaves this state
  abbrev Leads : Move State → State → Type 0
  Leads move t = (label : Label) → Completes (want_of move) answer label → IsNoStop (want_of move) → after_label s move label ≡ t

  -- what a step that wants something leaves
  abbrev result_of : Want → (ℤ → State) → State
  result_of (Want.Load cell line) after = after answer
  result_of Want.End after = over s ended
  result_of _ after = after (pos 0)

  by_label : (move : Move State) (label known : Label) → label ≡ known → after_label s move label ≡ after_label s move known
  by_label move label known is = ap (after_label s move) is

  asks_lead : (want : Want) (after : ℤ → State) → Leads (asks want after) (result_of want after)
  asks_lead Want.Quiet after label c n = by_label (asks Want.Quiet after) label Label.Quiet c
  asks_lead (Want.Load cell line) after label c n = by_label (asks (Want.Load cell line) after) label (Label.Load cell answer) c
  asks_lead (Want.Store cell value line) after label c n = by_label (asks (Want.Store cell value line) after) label (Label.Store cell value) c
  asks_lead (Want.Ask lock mode line) after label c n = by_label (asks (Want.Ask lock mode line) after) label (Label.Ask lock mode) c
  asks_lead (Want.Take lock mode) after label c n = by_label (asks (Want.Take lock mode) after) label (Label.Take lock mode c.0) c.1
  asks_lead (Want.Give lock line) after label c n = by_label (asks (Want.Give lock line) after) label (Label.Give lock) c
  asks_lead (Want.Arrive bar) after label c n = by_label (asks (Want.Arrive bar) after) label (Label.Arrive bar) c
  asks_lead (Want.Cross bar) after label c n = by_label (asks (Want.Cross bar) after) label (Label.Cross bar c.0) c.1
  asks_lead Want.Line after label c n = by_label (asks Want.Line after) label (Label.Line c.0) c.1
  asks_lead Want.End after label c n = by_label (asks Want.End after) label Label.End c
  asks_lead (Want.Stop fault line) after label c n = absurd n
  asks_lead Want.Over after label c n = absurd c

  number_leads : (line : ℕ) (found : Option ℕ) (go : ℕ → Move State) (t : State) → ((n : ℕ) → Leads (go n) t) → Leads (at_number s line found go) t
  number_leads line None go t h = λ label c n. absurd n
  number_leads line (Some n) go t h = h n

  outcome_leads : (rest : List ℤ) (line : ℕ) (outcome : Outcome) → Leads (comes_to s rest line outcome) s
  outcome_leads rest line (Ok value) = λ label c n. absurd c
  outcome_leads rest line (Err fault) = λ label c n. absurd n

  entering_leads : (line : ℕ) (t : State) (few : Bool) → Leads (cond few (asks Want.Quiet (λ answer. t)) (asks (Want.Stop Fault.Depth line) (λ answer. s))) (cond few t s)
  entering_leads line t true = asks_lead Want.Quiet (λ answer. t)
  entering_leads line t false = λ label c n. absurd n

  returns_lead : (value : ℤ) (outer : List Frame) → Leads (returns s value outer) (returned s value outer)
  returns_lead value [] = asks_lead Want.End (λ answer. over s ended)
  returns_lead value (caller ∷ outer) = asks_lead Want.Quiet (λ answer. back_in s value caller outer)

  act_leads : (i : Instr) → Leads (act s i) (finished s answer i)
  act_leads (Instr.Push n) = λ label c n. absurd c
  act_leads Instr.Discard = λ label c n. absurd c
  act_leads (Instr.LoadSlot x way) = λ label c n. absurd c
  act_leads (Instr.StoreSlot x) = λ label c n. absurd c
  act_leads (Instr.TestIndex array line) =
      number_leads line (number_at (Target.Member array) (top s.operands)) (λ n. goes (onward s s.operands)) s (λ n label c m. absurd c)
  act_leads (Instr.LoadOwn target way line) =
      number_leads line (number_at target (top s.operands)) (λ n. goes (after_load s target way (get_or s.own n (pos 0)))) s (λ n label c m. absurd c)
  act_leads (Instr.StoreOwn target line) =
      number_leads line (number_at target (top (below s.operands))) (λ n. goes (record (onward s (stored target s.operands)) { own = set s.own n (top s.operands) })) s
      (λ n label c m. absurd c)
  act_leads (Instr.Load target way line) =
      number_leads line (number_at target (top s.operands)) (λ n. asks (Want.Load (record { 0 = n }) line) (after_load s target way)) (after_load s target way answer)
      (λ n. asks_lead (Want.Load (record { 0 = n }) line) (after_load s target way))
  act_leads (Instr.Store target bound line) =
      number_leads line (number_at target (top (below s.operands)))
      (λ n. asks (Want.Store (record { 0 = n }) (top s.operands) line) (λ answer. onward s (stored target s.operands))) (onward s (stored target s.operands))
      (λ n. asks_lead (Want.Store (record { 0 = n }) (top s.operands) line) (λ answer. onward s (stored target s.operands)))
  act_leads (Instr.Unary op line) = outcome_leads (below s.operands) line (unary_value op (top s.operands))
  act_leads (Instr.StepBy op line) = outcome_leads (below s.operands) line (step_value op (top s.operands))
  act_leads (Instr.Binary op line) = outcome_leads (below (below s.operands)) line (binary_value op (top (below s.operands)) (top s.operands))
  act_leads Instr.ToTruth = λ label c n. absurd c
  act_leads (Instr.GoOn count) = λ label c n. absurd c
  act_leads (Instr.SkipIfZero count) = λ label c n. absurd c
  act_leads (Instr.GoBack count) = asks_lead Want.Quiet (λ answer. finished s answer (Instr.GoBack count))
  act_leads (Instr.Enter number line) = entering_leads line (entered s number (function_at s.program number)) (nat_lt (length s.outer + 1) 256)
  act_leads Instr.Leave = returns_lead (top s.operands) s.outer
  act_leads (Instr.Ask target mode line) =
      number_leads line (number_at target (top s.operands)) (λ n. asks (Want.Ask (record { 0 = n }) mode line) (λ answer. onward s s.operands)) (onward s s.operands)
      (λ n. asks_lead (Want.Ask (record { 0 = n }) mode line) (λ answer. onward s s.operands))
  act_leads (Instr.Take target mode line) =
      number_leads line (number_at target (top s.operands)) (λ n. asks (Want.Take (record { 0 = n }) mode) (λ answer. onward s (below_index target s.operands)))
      (onward s (below_index target s.operands)) (λ n. asks_lead (Want.Take (record { 0 = n }) mode) (λ answer. onward s (below_index target s.operands)))
  act_leads (Instr.Give target line) =
      number_leads line (number_at target (top s.operands)) (λ n. asks (Want.Give (record { 0 = n }) line) (λ answer. onward s (below_index target s.operands)))
      (onward s (below_index target s.operands)) (λ n. asks_lead (Want.Give (record { 0 = n }) line) (λ answer. onward s (below_index target s.operands)))
  act_leads (Instr.Arrive bar) = asks_lead (Want.Arrive bar) (λ answer. onward s s.operands)
  act_leads (Instr.Cross bar) = asks_lead (Want.Cross bar) (λ answer. onward s s.operands)
  act_leads (Instr.Print number) = asks_lead Want.Line (λ answer. finished s answer (Instr.Print number))

  at_leads : (o : Option Row) → Leads (act_at s o) (finished_at s answer o)
  at_leads None = λ label c n. absurd c
  at_leads (Some row) = act_leads row.instr

  in_leads : (life : Option Over) → Leads (step_in s life) (finished_in s answer life)
  in_leads None = at_leads (row_at s.program s.function s.place)
  in_leads (Some way) = λ label c n. absurd c

-- a label that completes what a state wants, which is no stop, leaves what is finished of its step
pub finished_is : (s : State) (answer : ℤ) (label : Label) → Completes (want_of (step s)) answer label → IsNoStop (want_of (step s))
    → completed s label ≡ finished_in s answer s.life
finished_is s answer label c n = completed_is s label ∙ in_leads s answer s.life label c n
