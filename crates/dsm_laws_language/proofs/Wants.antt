-- Only a thread that is over wants nothing more, and only a print wants a line.
use Rattle.std.proofs.Common.{◌≡◌, ℕ, ◌+◌, nat_lt, ℤ, pos, Bool, true, false, cond, List, [], ◌∷◌, length, Option, Some, None, Ok, Err, refl, subst}
use Rattle.std.specs.Prelude.{IsTrue, IsSome}
use Rattle.dsm_base.specs.declared.label.Want.{Want}
use Rattle.dsm_base.specs.Steps.{Move, goes, asks, want_of, Over}
use Rattle.dsm_base.proofs.StepsSettle.{Asks, settled_reaches}
use Rattle.dsm_syntax.specs.declared.tree.Sharing.{Sharing}
use Rattle.dsm_check.specs.Resolved as r
use Rattle.dsm_values.specs.Values.{Outcome, holds, unary_value, step_value, binary_value}
use Rattle.dsm_semantics.specs.States.{Place, slot, cell, member, Use, Item, evaluate, evaluate_all, test_index, load, store, unary, step_by, binary, and_then, or_else, to_truth, choose, enter, discard, execute, run, declare, branch, round, decide, third_part, jump_back, leave, ask, take_lock, give, cross, gather, print, Frame, State, top, below}
use Rattle.dsm_semantics.specs.Semantics.{member_number, at_member, loads, load_at, stores, store_at, comes_to, returns, declaring, declaration, lock_line, lock_number, gathering, evaluation, evaluation_of_all, execution, execution_of_all, act, act_first, step_in, step, ready}
use Rattle.dsm_semantics.proofs.Falls.{weight_at, step_falls}
use Rattle.dsm_laws_language.specs.States.{is_print_next}

module _ (todo : List Item) where
  -- what a thread wants that goes on with this
  abbrev pub Fits : Want → Type 0
  Fits Want.Over = ⊥
  Fits Want.Line = IsTrue (is_print_next todo)
  Fits _ = Unit {0}

  abbrev pub Wants : Move State → Type 0
  Wants (goes t) = Unit {0}
  Wants (asks want after) = Fits want

  wants_if : (test : Bool) (a b : Move State) → Wants a → Wants b → Wants (cond test a b)
  wants_if true a b p q = p
  wants_if false a b p q = q

  wants_member : (s : State) (line : ℕ) (found : Option ℕ) (go : ℕ → Move State) → ((number : ℕ) → Wants (go number)) → Wants (at_member s line found go)
  wants_member s line None go h = tt
  wants_member s line (Some number) go h = h number

  wants_outcome : (s : State) (rest : List ℤ) (line : ℕ) (outcome : Outcome) → Wants (comes_to s rest line outcome)
  wants_outcome s rest line (Ok value) = tt
  wants_outcome s rest line (Err fault) = tt

  wants_loads : (s : State) (sharing : Sharing) (number line : ℕ) (after : ℤ → State) → Wants (loads s sharing number line after)
  wants_loads s Sharing.Shared number line after = tt
  wants_loads s Sharing.Private number line after = tt

  wants_load : (s : State) (way : Use) (place : Place) → Wants (load_at s way place)
  wants_load s way (slot number) = tt
  wants_load s way (cell sharing number line) = wants_loads s sharing number line _
  wants_load s way (member sharing array line) =
      wants_member s line (member_number array (top s.operands)) _ (λ number. wants_loads s sharing number line _)

  wants_stores : (sharing : Sharing) (number line : ℕ) (value : ℤ) (after : State) → Wants (stores sharing number line value after)
  wants_stores Sharing.Shared number line value after = tt
  wants_stores Sharing.Private number line value after = tt

  wants_store : (s : State) (place : Place) → Wants (store_at s place)
  wants_store s (slot number) = tt
  wants_store s (cell sharing number line) = wants_stores sharing number line _ _
  wants_store s (member sharing array line) =
      wants_member s line (member_number array (top (below s.operands))) _ (λ number. wants_stores sharing number line _ _)

  wants_evaluation : (s : State) (e : r.Expression) → Wants (evaluation s e)
  wants_evaluation s (r.number n) = tt
  wants_evaluation s e = tt

  wants_arguments : (s : State) (arguments : r.Expressions) → Wants (evaluation_of_all s arguments)
  wants_arguments s r.nil = tt
  wants_arguments s (r.cons e rest) = tt

  wants_returns : (s : State) (value : ℤ) (outer : List Frame) → Wants (returns s value outer)
  wants_returns s value [] = tt
  wants_returns s value (caller ∷ outer) = tt

  wants_declaring : (s : State) (number : ℕ) (initial : Option r.Expression) → Wants (declaring s number initial)
  wants_declaring s number None = tt
  wants_declaring s number (Some e) = tt

  wants_declaration : (s : State) (variables : List r.Variable) → Wants (declaration s variables)
  wants_declaration s [] = tt
  wants_declaration s (variable ∷ rest) = wants_declaring (record s { todo = declare rest ∷ s.todo }) variable.slot variable.initial

  wants_gathering : (s : State) (parts : List r.Part) → Wants (gathering s parts)
  wants_gathering s [] = tt
  wants_gathering s (r.part_text text ∷ rest) = tt
  wants_gathering s (r.part_value e ∷ rest) = tt

  wants_execution : (s : State) (statement : r.Statement) → Wants (execution s statement)
  wants_execution s (r.return None) = tt
  wants_execution s (r.return (Some e)) = tt
  wants_execution s statement = tt

  wants_statements : (s : State) (statements : r.Statements) → Wants (execution_of_all s statements)
  wants_statements s r.none = tt
  wants_statements s (r.then statement rest) = tt

wants_act : (functions : List r.Function) (s : State) (item : Item) → Wants (item ∷ s.todo) (act functions s item)
wants_act functions s (evaluate e) = wants_evaluation (evaluate e ∷ s.todo) s e
wants_act functions s (evaluate_all arguments) = wants_arguments (evaluate_all arguments ∷ s.todo) s arguments
wants_act functions s (test_index array line) = wants_member (test_index array line ∷ s.todo) s line (member_number array (top s.operands)) _ (λ number. tt)
wants_act functions s (load place way) = wants_load (load place way ∷ s.todo) s way place
wants_act functions s (store place) = wants_store (store place ∷ s.todo) s place
wants_act functions s (unary op line) = wants_outcome (unary op line ∷ s.todo) s (below s.operands) line (unary_value op (top s.operands))
wants_act functions s (step_by op line) = wants_outcome (step_by op line ∷ s.todo) s (below s.operands) line (step_value op (top s.operands))
wants_act functions s (binary op line) =
    wants_outcome (binary op line ∷ s.todo) s (below (below s.operands)) line (binary_value op (top (below s.operands)) (top s.operands))
wants_act functions s (and_then e) = wants_if (and_then e ∷ s.todo) (holds (top s.operands)) _ _ tt tt
wants_act functions s (or_else e) = wants_if (or_else e ∷ s.todo) (holds (top s.operands)) _ _ tt tt
wants_act functions s to_truth = tt
wants_act functions s (choose a b) = tt
wants_act functions s (enter number line) = wants_if (enter number line ∷ s.todo) (nat_lt (length s.outer + 1) 256) _ _ tt tt
wants_act functions s discard = tt
wants_act functions s (execute statement) = wants_execution (execute statement ∷ s.todo) s statement
wants_act functions s (run statements) = wants_statements (run statements ∷ s.todo) s statements
wants_act functions s (declare variables) = wants_declaration (declare variables ∷ s.todo) s variables
wants_act functions s (branch body other) = tt
wants_act functions s (round loop) = tt
wants_act functions s (decide loop) = tt
wants_act functions s (third_part loop) = tt
wants_act functions s (jump_back loop) = tt
wants_act functions s leave = wants_returns (leave ∷ s.todo) s (top s.operands) s.outer
wants_act functions s (ask lock mode) = wants_member (ask lock mode ∷ s.todo) s (lock_line lock) (lock_number lock s.operands) _ (λ number. tt)
wants_act functions s (take_lock lock mode) = wants_member (take_lock lock mode ∷ s.todo) s (lock_line lock) (lock_number lock s.operands) _ (λ number. tt)
wants_act functions s (give lock) = wants_member (give lock ∷ s.todo) s (lock_line lock) (lock_number lock s.operands) _ (λ number. tt)
wants_act functions s (cross bar) = tt
wants_act functions s (gather parts) = wants_gathering (gather parts ∷ s.todo) s parts
wants_act functions s (print parts) = refl

wants_first : (functions : List r.Function) (s : State) (todo : List Item) → Wants todo (act_first functions s todo)
wants_first functions s [] = wants_returns [] s (pos 0) s.outer
wants_first functions s (item ∷ k) = wants_act functions (record s { todo = k }) item

over_in : (functions : List r.Function) (s : State) (life : Option Over) → Asks (step_in functions s life) → want_of (step_in functions s life) ≡ Want.Over → IsSome life
over_in functions s None a is = of (act_first functions s s.todo) (wants_first functions s s.todo) a is
  where
    of : (move : Move State) → Wants s.todo move → Asks move → want_of move ≡ Want.Over → IsSome {T = Over} None
    of (goes t) wants a is = absurd a
    of (asks want after) wants a is = absurd (subst (Fits s.todo) is wants)
over_in functions s (Some way) a is = refl

pub over_only : (functions : List r.Function) (s : State) → want_of (step functions (ready functions s)) ≡ Want.Over → IsSome (ready functions s).life
over_only functions s is =
    over_in functions (ready functions s) (ready functions s).life (settled_reaches (step functions) weight_at (step_falls functions) s) is

line_in : (functions : List r.Function) (s : State) (life : Option Over) → want_of (step_in functions s life) ≡ Want.Line → IsTrue (is_print_next s.todo)
line_in functions s None is = of (act_first functions s s.todo) (wants_first functions s s.todo) is
  where
    of : (move : Move State) → Wants s.todo move → want_of move ≡ Want.Line → IsTrue (is_print_next s.todo)
    of (goes t) wants is = cc
    of (asks want after) wants is = subst (Fits s.todo) is wants
line_in functions s (Some way) is = cc

pub line_only : (functions : List r.Function) (s : State) → want_of (step functions s) ≡ Want.Line → IsTrue (is_print_next s.todo)
line_only functions s is = line_in functions s s.life is
