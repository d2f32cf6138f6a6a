-- Expressions, loads and stores of a closed state leave closed states.
use Rattle.std.proofs.Common.{◌≡◌, ℕ, suc, ◌+◌, ℤ, pos, Bool, true, false, cond, ◌&&◌, List, [], ◌∷◌, length, Option, Some, None, Ok, Err, refl, sym, ◌∙◌, subst, arith}
use Rattle.std.specs.Prelude.{set, get_or, slice_get, is_some}
use Rattle.std.proofs.lemmas.List.{length-set}
use Rattle.std.proofs.lemmas.Bool.{eqb-true}
use Rattle.dsm_base.specs.declared.names.Fault.{Fault}
use Rattle.dsm_base.specs.declared.label.Want.{Want}
use Rattle.dsm_base.specs.Steps.{Move, goes, asks}
use Rattle.dsm_syntax.specs.declared.tree.BinaryOp.{BinaryOp}
use Rattle.dsm_syntax.specs.declared.tree.Sharing.{Sharing}
use Rattle.dsm_check.specs.Resolved as r
use Rattle.dsm_check.specs.Programs.{Program}
use Rattle.dsm_check.proofs.Successes.{both_true}
use Rattle.dsm_values.specs.Values.{Outcome}
use Rattle.dsm_semantics.specs.Assignments.{operator_of}
use Rattle.dsm_semantics.specs.States.{Place, slot, cell, member, Use, for_value, for_change, for_step_behind, Item, evaluate, evaluate_all, test_index, load, store, unary, step_by, binary, and_then, or_else, choose, enter, discard, State, top, below}
use Rattle.dsm_semantics.specs.Semantics.{faults, member_number, at_member, reaching, place_of, loads, load_at, stores, store_at, comes_to, second, assigning, numbered, evaluation, evaluation_of_all}
use Rattle.dsm_laws_language.specs.Closed.{is_callable, count_in, is_closed_location, is_closed_expression, are_closed_arguments, has_params}
use Rattle.dsm_laws_language.specs.States.{index_count, loaded_count, takes, gives, is_outermost, has_loop, is_closed_place, is_closed_item, AreClosed, AllWait, IsClosedState}
use Rattle.dsm_laws_language.proofs.Depths.{never, below_length, below_below_length, loaded_length, at_depth, put}

-- a thread that wants this goes on behind the answer
abbrev pub MayGoOn : Want → Type 0
MayGoOn Want.End = ⊥
MayGoOn (Want.Stop fault line) = ⊥
MayGoOn Want.Over = ⊥
MayGoOn _ = Unit {0}

module _ (program : Program) where
  -- a step leaves a closed state
  abbrev pub LeavesClosed : Move State → Type 0
  LeavesClosed (goes t) = IsClosedState program t
  LeavesClosed (asks want after) = MayGoOn want → (answer : ℤ) → IsClosedState program (after answer)

  -- the private cells and the callers of a state
  abbrev pub HasOthers : State → Type 0
  HasOthers s = (length s.own ≡ program.private_cells) × AllWait program s.outer

  abbrev pub Done : State → ℕ → List Item → Type 0
  Done s depth k = AreClosed program (length s.slots) depth k

  pub leaves_fault : (s : State) (fault : Fault) (line : ℕ) → LeavesClosed (faults s fault line)
  leaves_fault s fault line = λ on. absurd on

  pub leaves_if : (test : Bool) (a b : Move State) → LeavesClosed a → LeavesClosed b → LeavesClosed (cond test a b)
  leaves_if true a b p q = p
  leaves_if false a b p q = q

  pub leaves_member : (s : State) (line : ℕ) (found : Option ℕ) (go : ℕ → Move State) → ((number : ℕ) → LeavesClosed (go number))
      → LeavesClosed (at_member s line found go)
  leaves_member s line None go h = leaves_fault s Fault.Index line
  leaves_member s line (Some number) go h = h number

  -- a state with other operands
  pub with_operands : (s : State) (operands : List ℤ) (depth : ℕ) → HasOthers s → length operands ≡ depth → Done s depth s.todo
      → IsClosedState program (record s { operands = operands })
  with_operands s operands depth others long done = record {
    own = others.0;
    inner = at_depth program (length s.slots) depth (length operands) s.todo (sym long) done;
    outer = others.1;
  }

  -- a state with other things to be done
  pub with_todo : (s : State) (todo : List Item) → HasOthers s → Done s (length s.operands) todo → IsClosedState program (record s { todo = todo })
  with_todo s todo others done = record { own = others.0; inner = done; outer = others.1 }

  pub leaves_outcome : (s : State) (rest : List ℤ) (line : ℕ) (outcome : Outcome) → HasOthers s → Done s (length rest + 1) s.todo
      → LeavesClosed (comes_to s rest line outcome)
  leaves_outcome s rest line (Ok value) others done = with_operands s (value ∷ rest) (length rest + 1) others (omega arith) done
  leaves_outcome s rest line (Err fault) others done = leaves_fault s fault line

  -- Loads and stores.

  leaves_loads : (s : State) (sharing : Sharing) (number line : ℕ) (after : ℤ → State) → ((v : ℤ) → IsClosedState program (after v))
      → LeavesClosed (loads s sharing number line after)
  leaves_loads s Sharing.Shared number line after h = λ on answer. h answer
  leaves_loads s Sharing.Private number line after h = h _

  pub leaves_load : (s : State) (way : Use) (place : Place) (rest : ℕ) → HasOthers s → length s.operands ≡ rest + index_count place
      → Done s (rest + loaded_count way (index_count place)) s.todo → LeavesClosed (load_at s way place)
  leaves_load s way (slot number) rest others long done =
      with_operands s _ (rest + loaded_count way 0) others
      (let made = loaded_length way [] s.operands (get_or s.slots number (pos 0)) in omega (arith, long, made)) done
  leaves_load s way (cell sharing number line) rest others long done =
      leaves_loads s sharing number line _ (λ v.
      with_operands s _ (rest + loaded_count way 0) others (let made = loaded_length way [] s.operands v in omega (arith, long, made)) done)
  leaves_load s way (member sharing array line) rest others long done =
      leaves_member s line (member_number array (top s.operands)) _ (λ number.
      leaves_loads s sharing number line _ (λ v.
      with_operands s _ (rest + loaded_count way 1) others
      (let made = loaded_length way (top s.operands ∷ []) (below s.operands) v in omega (arith, below_length s.operands rest long, made)) done))

  leaves_stores : (sharing : Sharing) (number line : ℕ) (value : ℤ) (after : State) → IsClosedState program after
      → LeavesClosed (stores sharing number line value after)
  leaves_stores Sharing.Shared number line value after h = λ on answer. h
  leaves_stores Sharing.Private number line value after h =
      record { own = length-set after.own number value ∙ h.own; inner = h.inner; outer = h.outer }

  -- a state with another value in a slot
  pub with_slot : (s : State) (number : ℕ) (value : ℤ) (todo : List Item) → HasOthers s → Done s (length s.operands) todo
      → IsClosedState program (record s { slots = set s.slots number value; todo = todo })
  with_slot s number value todo others done = record {
    own = others.0;
    inner = subst (λ slots. AreClosed program slots (length s.operands) todo) (sym (length-set s.slots number value)) done;
    outer = others.1;
  }

  pub leaves_store : (s : State) (place : Place) (rest : ℕ) → HasOthers s → length s.operands ≡ rest + (index_count place + 1)
      → Done s (rest + 1) s.todo → LeavesClosed (store_at s place)
  leaves_store s (slot number) rest others long done =
      with_slot s number (top s.operands) s.todo others (at_depth program (length s.slots) (rest + 1) (length s.operands) s.todo (omega (arith, long)) done)
  leaves_store s (cell sharing number line) rest others long done =
      leaves_stores sharing number line (top s.operands) s
      (with_operands s s.operands (rest + 1) others (omega (arith, long)) done)
  leaves_store s (member sharing array line) rest others long done =
      leaves_member s line (member_number array (top (below s.operands))) _ (λ number.
      leaves_stores sharing number line (top s.operands) _
      (with_operands s (top s.operands ∷ below (below s.operands)) (rest + 1) others
      (omega (arith, below_below_length s.operands rest (omega (arith, long)))) done))

  -- Expressions.

  module _ (slots : ℕ) where
    abbrev From : ℕ → List Item → Type 0
    From depth k = AreClosed program slots depth k

    pub from_evaluate : (n : ℕ) (e : r.Expression) (k : List Item) → is_closed_expression program slots e ≡ true → From (n + 1) k → From n (evaluate e ∷ k)
    from_evaluate n e k closed done = put program slots (evaluate e) k n n (n + 1) (omega arith) refl never closed done

    place_closed : (location : r.Location) → is_closed_location program slots location ≡ true → is_closed_place program slots (place_of location) ≡ true
    place_closed (r.variable number) h = h
    place_closed (r.cell sharing number line) h = h
    place_closed (r.element sharing array index line) h = (both_true _ _ h).0

    from_reaching : (n : ℕ) (location : r.Location) (k : List Item) → is_closed_location program slots location ≡ true
        → From (n + index_count (place_of location)) k → From n (reaching location k)
    from_reaching n (r.variable number) k h done = at_depth program slots (n + 0) n k (omega arith) done
    from_reaching n (r.cell sharing number line) k h done = at_depth program slots (n + 0) n k (omega arith) done
    from_reaching n (r.element sharing array index line) k h done =
        from_evaluate n index (test_index array line ∷ k) (both_true _ _ h).1
        (put program slots (test_index array line) k (n + 1) n (n + 1) refl refl never refl done)

    from_load : (n : ℕ) (place : Place) (way : Use) (k : List Item) → is_closed_place program slots place ≡ true
        → From (n + loaded_count way (index_count place)) k → From (n + index_count place) (load place way ∷ k)
    from_load n place way k closed done = put program slots (load place way) k (n + index_count place) n (n + loaded_count way (index_count place)) refl refl never closed done

    from_store : (n : ℕ) (place : Place) (k : List Item) → is_closed_place program slots place ≡ true
        → From (n + 1) k → From (n + (index_count place + 1)) (store place ∷ k)
    from_store n place k closed done = put program slots (store place) k (n + (index_count place + 1)) n (n + 1) refl refl never closed done

    from_second : (n : ℕ) (op : BinaryOp) (line : ℕ) (e : r.Expression) (k : List Item) → is_closed_expression program slots e ≡ true
        → From (n + 1) k → From (n + 1) (second op line e k)
    from_second n BinaryOp.And line e k closed done = put program slots (and_then e) k (n + 1) n (n + 1) refl refl never closed done
    from_second n BinaryOp.Or line e k closed done = put program slots (or_else e) k (n + 1) n (n + 1) refl refl never closed done
    from_second n op line e k closed done =
        from_evaluate (n + 1) e (binary op line ∷ k) closed (put program slots (binary op line) k (n + 1 + 1) n (n + 1) (omega arith) refl never refl done)

    from_assigning : (n : ℕ) (op : Option BinaryOp) (line : ℕ) (place : Place) (e : r.Expression) (k : List Item) → is_closed_place program slots place ≡ true
        → is_closed_expression program slots e ≡ true → From (n + 1) k → From (n + index_count place) (assigning op line place e k)
    from_assigning n None line place e k there closed done =
        from_evaluate (n + index_count place) e (store place ∷ k) closed
        (at_depth program slots (n + (index_count place + 1)) (n + index_count place + 1) (store place ∷ k) (omega arith) (from_store n place k there done))
    from_assigning n (Some op) line place e k there closed done =
        from_load n place for_change (evaluate e ∷ binary op line ∷ store place ∷ k) there
        (from_evaluate (n + (index_count place + 1)) e (binary op line ∷ store place ∷ k) closed
        (put program slots (binary op line) (store place ∷ k) (n + (index_count place + 1) + 1) (n + index_count place) (n + (index_count place + 1))
        (omega arith) (omega arith) never refl
        (from_store n place k there done)))

    from_step_before : (n : ℕ) (place : Place) (item : Item) (k : List Item) → takes program item ≡ 1 → gives item ≡ 1 → is_outermost item ≡ false
        → is_closed_item program slots (has_loop (store place ∷ k)) item ≡ true → is_closed_place program slots place ≡ true
        → From (n + 1) k → From (n + index_count place) (load place for_change ∷ item ∷ store place ∷ k)
    from_step_before n place item k one other inside closed there done =
        from_load n place for_change (item ∷ store place ∷ k) there
        (put program slots item (store place ∷ k) (n + (index_count place + 1)) (n + index_count place) (n + (index_count place + 1))
        (omega (arith, one)) (omega (arith, other)) (λ h. never (sym inside ∙ h)) closed
        (from_store n place k there done))

    from_step_behind : (n : ℕ) (place : Place) (item : Item) (k : List Item) → takes program item ≡ 1 → gives item ≡ 1 → is_outermost item ≡ false
        → is_closed_item program slots (has_loop (store place ∷ discard ∷ k)) item ≡ true → is_closed_place program slots place ≡ true
        → From (n + 1) k → From (n + index_count place) (load place for_step_behind ∷ item ∷ store place ∷ discard ∷ k)
    from_step_behind n place item k one other inside closed there done =
        from_load n place for_step_behind (item ∷ store place ∷ discard ∷ k) there
        (put program slots item (store place ∷ discard ∷ k) (n + (index_count place + 2)) (n + (index_count place + 1)) (n + 1 + (index_count place + 1))
        (omega (arith, one)) (omega (arith, other)) (λ h. never (sym inside ∙ h)) closed
        (from_store (n + 1) place (discard ∷ k) there
        (put program slots discard k (n + 1 + 1) (n + 1) (n + 1) refl (omega arith) never refl done)))

    params_are : (count : ℕ) (found : Option r.Function) → has_params count found ≡ true → (numbered found).params ≡ count
    params_are count None h = cc
    params_are count (Some function) h = eqb-true function.params count h

    is_there : (count : ℕ) (found : Option r.Function) → has_params count found ≡ true → is_some found ≡ true
    is_there count None h = cc
    is_there count (Some function) h = refl

    -- what an expression brings
    from_call : (n function : ℕ) (arguments : r.Expressions) (line : ℕ) (k : List Item) → is_callable program function (count_in arguments) ≡ true
        → are_closed_arguments program slots arguments ≡ true → From (n + 1) k → From n (evaluate_all arguments ∷ enter function line ∷ k)
    from_call n function arguments line k fits closed done =
        put program slots (evaluate_all arguments) (enter function line ∷ k) n n (n + count_in arguments) (omega arith) refl never closed
        (put program slots (enter function line) k (n + count_in arguments) n (n + 1)
        (let same = params_are (count_in arguments) (slice_get program.functions function) fits in omega (arith, same)) refl never
        (is_there (count_in arguments) (slice_get program.functions function) fits) done)

  module _ (s : State) (others : HasOthers s) where
    abbrev n : ℕ
    n = length s.operands

    abbrev k : List Item
    k = s.todo

    -- goes on with an expression, and then with what comes behind it
    first : (e : r.Expression) (k : List Item) → is_closed_expression program (length s.slots) e ≡ true → Done s (n + 1) k
        → IsClosedState program (record s { todo = evaluate e ∷ k })
    first e k closed done = with_todo s (evaluate e ∷ k) others (from_evaluate (length s.slots) n e k closed done)

    -- goes on with what a location needs, and then with what comes behind it
    reach : (location : r.Location) (k : List Item) → is_closed_location program (length s.slots) location ≡ true
        → Done s (n + index_count (place_of location)) k → IsClosedState program (record s { todo = reaching location k })
    reach location k closed done = with_todo s (reaching location k) others (from_reaching (length s.slots) n location k closed done)

    place_there : (location : r.Location) → is_closed_location program (length s.slots) location ≡ true
        → is_closed_place program (length s.slots) (place_of location) ≡ true
    place_there location h = place_closed (length s.slots) location h

    pub leaves_evaluation : (e : r.Expression) → is_closed_expression program (length s.slots) e ≡ true → Done s (n + 1) k → LeavesClosed (evaluation s e)
    leaves_evaluation (r.number value) h done = with_operands s (value ∷ s.operands) (n + 1) others (omega arith) done
    leaves_evaluation (r.load location) h done =
        reach location (load (place_of location) for_value ∷ k) h
        (from_load (length s.slots) n (place_of location) for_value k (place_there location h) done)
    leaves_evaluation (r.call function arguments line) h done =
        let split = both_true (is_callable program function (count_in arguments)) (are_closed_arguments program (length s.slots) arguments) h in
        with_todo s (evaluate_all arguments ∷ enter function line ∷ k) others
        (from_call (length s.slots) n function arguments line k split.0 split.1 done)
    leaves_evaluation (r.unary op line e) h done =
        first e (unary op line ∷ k) h (put program (length s.slots) (unary op line) k (n + 1) n (n + 1) refl refl never refl done)
    leaves_evaluation (r.prefix op line location) h done =
        reach location (load (place_of location) for_change ∷ step_by op line ∷ store (place_of location) ∷ k) h
        (from_step_before (length s.slots) n (place_of location) (step_by op line) k refl refl refl refl (place_there location h) done)
    leaves_evaluation (r.postfix location op line) h done =
        reach location (load (place_of location) for_step_behind ∷ step_by op line ∷ store (place_of location) ∷ discard ∷ k) h
        (from_step_behind (length s.slots) n (place_of location) (step_by op line) k refl refl refl refl (place_there location h) done)
    leaves_evaluation (r.binary a op line b) h done =
        let split = both_true (is_closed_expression program (length s.slots) a) (is_closed_expression program (length s.slots) b) h in
        first a (second op line b k) split.0 (from_second (length s.slots) n op line b k split.1 done)
    leaves_evaluation (r.choice test a b) h done =
        let split = both_true (is_closed_expression program (length s.slots) test) (is_closed_expression program (length s.slots) a && is_closed_expression program (length s.slots) b) h in
        first test (choose a b ∷ k) split.0 (put program (length s.slots) (choose a b) k (n + 1) n (n + 1) refl refl never split.1 done)
    leaves_evaluation (r.assign location op line e) h done =
        let split = both_true (is_closed_location program (length s.slots) location) (is_closed_expression program (length s.slots) e) h in
        reach location (assigning (operator_of op) line (place_of location) e k) split.0
        (from_assigning (length s.slots) n (operator_of op) line (place_of location) e k (place_there location split.0) split.1 done)

    pub leaves_arguments : (arguments : r.Expressions) → are_closed_arguments program (length s.slots) arguments ≡ true
        → Done s (n + count_in arguments) k → LeavesClosed (evaluation_of_all s arguments)
    leaves_arguments r.nil h done = with_operands s s.operands (n + 0) others (omega arith) done
    leaves_arguments (r.cons e rest) h done =
        let split = both_true (is_closed_expression program (length s.slots) e) (are_closed_arguments program (length s.slots) rest) h in
        first e (evaluate_all rest ∷ k) split.0
        (put program (length s.slots) (evaluate_all rest) k (n + 1) (n + 1) (n + suc (count_in rest)) (omega arith) (omega arith) never split.1 done)
