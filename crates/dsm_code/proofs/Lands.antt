-- Where each step of valid code leads: to a place of the code, with the operands that the code has there.
use Rattle.std.proofs.Common.{◌≡◌, ℕ, ◌+◌, ◌-◌, ◌<◌, ◌≤◌, nat_lt, ℤ, pos, Bool, true, false, cond, List, [], ◌∷◌, length, get_or, set, take, drop, reverse, Option, Some, None, Ok, Err, refl, sym, ap, ◌∙◌, subst, arith, length-drop}
use Rattle.std.specs.Prelude.{slice_get, nat_le}
use Rattle.std.proofs.lemmas.Bool.{and_parts, ltb-true}
use Rattle.std.proofs.Math.ListN.{length-set}
use Rattle.dsm_base.specs.declared.names.Fault.{Fault}
use Rattle.dsm_base.specs.declared.names.Mode.{Mode}
use Rattle.dsm_base.specs.declared.names.Bar.{Bar}
use Rattle.dsm_base.specs.declared.label.Want.{Want}
use Rattle.dsm_base.specs.Steps.{Move, goes, asks, ended}
use Rattle.dsm_values.specs.Values.{Outcome, holds, truth, unary_value, step_value, binary_value}
use Rattle.dsm_code.specs.declared.instruction.Target.{Target}
use Rattle.dsm_code.specs.declared.instruction.Use.{Use}
use Rattle.dsm_code.specs.declared.instruction.Instr.{Instr}
use Rattle.dsm_code.specs.declared.parts.Row.{Row}
use Rattle.dsm_code.specs.Instructions.{top, below, number_at, index_of, below_index, loaded, stored, is_free, is_take, is_cross}
use Rattle.dsm_code.specs.Programs.{Program, Function, function_at, row_at, print_at, values_in}
use Rattle.dsm_code.specs.Machine.{State, Frame, over, onward, comes_to, at_number, after_load, new_slots, entered, back_in, returns, act, act_at, step}
use Rattle.dsm_code.specs.Finished.{returned, finished, finished_at}
use Rattle.dsm_code.specs.Valid.{takes, depth_after, has_names, is_there, leads_on, is_valid}
use Rattle.dsm_code.specs.Typed.{Waits, AllWait, IsGoing, IsTyped, NamesIn}
use Rattle.dsm_code.proofs.Facts.{there_facts, valid_facts, row_fine}
use Rattle.dsm_code.proofs.Lengths.{below_length, below_index_length, loaded_length, loaded_slot_length, stored_length, slots_length, arguments_length, number_below, take_is, cross_is}

abbrev pub free_at : Option Row → Bool
free_at None = false
free_at (Some row) = is_free row.instr

-- a thread that goes on, at neither a take nor a crossing
pub record IsFreeGoing (s : State) : Type 0 where
  pub going : IsGoing s
  pub free : free_at (row_at s.program s.function s.place) ≡ true

-- a thread that goes on, and wants this
pub record WillWant (want : Want) (s : State) : Type 0 where
  pub going : IsGoing s
  pub after : ℤ → State
  pub is : step s ≡ asks want after

-- what a labelled step of an instruction leaves, by what it wants
abbrev pub LandsAt : Instr → State → Want → State → Type 0
LandsAt i s (Want.Stop fault line) t = t ≡ s
LandsAt i s Want.Over t = ⊥
LandsAt i s Want.End t = t ≡ over s ended
LandsAt i s (Want.Ask lock mode line) t = WillWant (Want.Take lock mode) t
LandsAt i s (Want.Arrive bar) t = WillWant (Want.Cross bar) t
LandsAt i s (Want.Take lock mode) t = (is_free i ≡ false) × IsFreeGoing t
LandsAt i s (Want.Cross bar) t = (is_free i ≡ false) × IsFreeGoing t
LandsAt i s _ t = IsFreeGoing t

-- what a step of an instruction leaves, and what it wants
abbrev pub Lands : Instr → State → Move State → Type 0
Lands i s (goes t) = IsFreeGoing t
Lands i s (asks want after) = NamesIn s.program want × ((answer : ℤ) → LandsAt i s want (after answer))

-- a state at a place where there is an instruction of a kind
module _ (kind : Instr → Bool) (program : Program) (number to depth : ℕ) (values slots : List ℤ) (outer : List Frame) (own : List ℤ) where
  abbrev arrived : State
  arrived = record { program = program; function = number; place = to; operands = values; slots = slots; outer = outer; own = own; life = None }

  pub arrives : is_valid program ≡ true → number < length program.functions → is_there kind program (function_at program number) depth to ≡ true → length values ≡ depth
      → (function_at program number).slots ≡ length slots → AllWait program number outer → length outer < 256 → length own ≡ program.private_cells → IsGoing arrived
  arrives valid in_list leads e slots_are waits few cells =
      let at = there_facts kind program (function_at program number) depth to leads in
      record {
        valid = valid;
        inner = record {
          function = in_list;
          row = at.row;
          is = at.is;
          depth = at.depth_is ∙ sym e;
          low = subst (λ d. d ≤ program.deepest) (sym e) at.low;
          small = at.small;
          slots_are = slots_are;
        };
        outer = waits;
        few = few;
        own = cells;
      }

pub free_there : (program : Program) (f : Function) (depth to : ℕ) → is_there is_free program f depth to ≡ true → free_at (slice_get f.rows to) ≡ true
free_there program f depth to leads =
    let at = there_facts is_free program f depth to leads in
    ap free_at at.is ∙ at.such

module _ (program : Program) (function place : ℕ) (operands slots : List ℤ) (outer : List Frame) (own : List ℤ) where
  abbrev here : State
  here = record { program = program; function = function; place = place; operands = operands; slots = slots; outer = outer; own = own; life = None }

  abbrev f : Function
  f = function_at program function

  -- what is known of the instruction here
  record FineHere (i : Instr) : Type 0 where
    is : row_at program function place ≡ Some (record { instr = i; depth = length operands })
    enough : takes program i ≤ length operands
    names : has_names program f i ≡ true
    on : leads_on program f place (depth_after program (length operands) i) i ≡ true

  -- a caller goes on behind its call
  goes_back : (value : ℤ) (caller : Frame) (callers : List Frame) → IsGoing (record here { outer = caller ∷ callers })
      → IsFreeGoing (back_in (record here { outer = caller ∷ callers }) value caller callers)
  goes_back value caller callers is =
      let waits = is.outer.0 in
      let row : Row = record { instr = Instr.Enter function waits.line; depth = waits.depth } in
      let fine = row_fine program caller.function caller.place row is.valid waits.is in
      let depth = depth_after program waits.depth (Instr.Enter function waits.line) in
      let count : length (value ∷ caller.operands) ≡ depth = omega (arith, waits.operands) in
      record {
        going = arrives is_free program caller.function (caller.place + 1) depth (value ∷ caller.operands) caller.slots callers own
            is.valid waits.function fine.on count waits.slots_are is.outer.1 (omega (arith, is.few)) is.own;
        free = free_there program (function_at program caller.function) depth (caller.place + 1) fine.on;
      }

  module _ (going : IsGoing here) where
    -- the same function goes on at another place
    moved : (kind : Instr → Bool) (to depth : ℕ) (values more cells : List ℤ) → is_there kind program f depth to ≡ true → length values ≡ depth
        → length more ≡ length slots → length cells ≡ length own → IsGoing (arrived kind program function to depth values more outer cells)
    moved kind to depth values more cells leads e same_slots same_cells =
        arrives kind program function to depth values more outer cells going.valid going.inner.function leads e
        (going.inner.slots_are ∙ sym same_slots) going.outer going.few (same_cells ∙ going.own)

    lands : (to depth : ℕ) (values more cells : List ℤ) → is_there is_free program f depth to ≡ true → length values ≡ depth
        → length more ≡ length slots → length cells ≡ length own → IsFreeGoing (arrived is_free program function to depth values more outer cells)
    lands to depth values more cells leads e same_slots same_cells =
        record { going = moved is_free to depth values more cells leads e same_slots same_cells; free = free_there program f depth to leads }

    -- onward with the operands that an instruction leaves
    lands_on : (i : Instr) (values : List ℤ) → is_there is_free program f (depth_after program (length operands) i) (place + 1) ≡ true
        → length values ≡ depth_after program (length operands) i → IsFreeGoing (onward here values)
    lands_on i values leads e = lands (place + 1) (depth_after program (length operands) i) values slots own leads e refl refl

    abbrev after_one : Target → Use → ℤ → List ℤ
    after_one target way value = loaded way (index_of target operands) (below_index target operands) value

    number_lands : (i : Instr) (line : ℕ) (found : Option ℕ) (go : ℕ → Move State) → ((n : ℕ) → found ≡ Some n → Lands i here (go n)) → Lands i here (at_number here line found go)
    number_lands i line None go h = (tt, λ answer. refl)
    number_lands i line (Some n) go h = h n refl

    outcome_lands : (i : Instr) (rest : List ℤ) (line : ℕ) (outcome : Outcome) → ((value : ℤ) → IsFreeGoing (onward here (value ∷ rest))) → Lands i here (comes_to here rest line outcome)
    outcome_lands i rest line (Ok value) h = h value
    outcome_lands i rest line (Err fault) h = (tt, λ answer. refl)

    skips_land : (count depth : ℕ) (values : List ℤ) (test : Bool) → is_there is_free program f depth (place + 1) ≡ true → is_there is_free program f depth (place + 1 + count) ≡ true
        → length values ≡ depth → IsFreeGoing (record here { place = cond test (place + 1) (place + 1 + count); operands = values })
    skips_land count depth values true a b e = lands (place + 1) depth values slots own a e refl refl
    skips_land count depth values false a b e = lands (place + 1 + count) depth values slots own b e refl refl

    -- a call
    module _ (number line : ℕ) (fine : FineHere (Instr.Enter number line)) where
      abbrev callee : Function
      callee = function_at program number

      enters : length outer + 1 < 256 → IsFreeGoing (entered here number callee)
      enters few =
          let in_list : number < length program.functions = ltb-true number (length program.functions) fine.names in
          let sound = (valid_facts program going.valid).sound number in_list in
          let arguments = reverse (take callee.params operands) in
          let count : length arguments ≡ callee.params = arguments_length callee.params operands fine.enough in
          let some : length arguments ≤ callee.slots = omega (arith, count, sound.params) in
          let waits : Waits program number (record { function = function; place = place; operands = drop callee.params operands; slots = slots }) = record {
            function = going.inner.function;
            line = line;
            depth = length operands;
            is = fine.is;
            operands = omega (arith, length-drop callee.params operands, fine.enough);
            slots_are = going.inner.slots_are;
          } in
          record {
            going = arrives is_free program number 0 0 [] (new_slots callee arguments) (record { function = function; place = place; operands = drop callee.params operands; slots = slots } ∷ outer) own
                going.valid in_list sound.start refl (sym (slots_length callee arguments some)) (waits, going.outer) (omega (arith, few)) going.own;
            free = free_there program callee 0 0 sound.start;
          }

      entering_lands : (few : Bool) → nat_lt (length outer + 1) 256 ≡ few
          → Lands (Instr.Enter number line) here (cond few (asks Want.Quiet (λ answer. entered here number callee)) (asks (Want.Stop Fault.Depth line) (λ answer. here)))
      entering_lands true few = (tt, λ answer. enters (ltb-true (length outer + 1) 256 few))
      entering_lands false few = (tt, λ answer. refl)

    -- a lock is asked for, and its take comes next
    module _ (target : Target) (mode : Mode) (line : ℕ) (fine : FineHere (Instr.Ask target mode line)) where
      abbrev asked : State
      asked = onward here operands

      abbrev taking : ℕ → Move State
      taking n = asks (Want.Take (record { 0 = n }) mode) (λ answer. onward asked (below_index target operands))

      asks_take : (n : ℕ) → number_at target (top operands) ≡ Some n → WillWant (Want.Take (record { 0 = n }) mode) asked
      asks_take n found =
          let depth = depth_after program (length operands) (Instr.Ask target mode line) in
          let at = there_facts (is_take target mode) program f depth (place + 1) fine.on in
          let take = take_is target mode at.row.instr at.such in
          let same : length operands ≡ depth = omega (arith, fine.enough) in
          record {
            going = moved (is_take target mode) (place + 1) depth operands slots own fine.on same refl refl;
            after = λ answer. onward asked (below_index target operands);
            is = ap (act_at asked) at.is ∙ ap (act asked) take.1 ∙ ap (λ found. at_number asked take.0 found taking) found;
          }

    arrives_at : (bar : Bar) → FineHere (Instr.Arrive bar) → WillWant (Want.Cross bar) (onward here operands)
    arrives_at bar fine =
        let depth = depth_after program (length operands) (Instr.Arrive bar) in
        let at = there_facts (is_cross bar) program f depth (place + 1) fine.on in
        let next = onward here operands in
        let same : length operands ≡ depth = omega arith in
        record {
          going = moved (is_cross bar) (place + 1) depth operands slots own fine.on same refl refl;
          after = λ answer. onward next operands;
          is = ap (act_at next) at.is ∙ ap (act next) (cross_is bar at.row.instr at.such);
        }

    act_lands : (i : Instr) → FineHere i → Lands i here (act here i)
    act_lands (Instr.Push n) fine = lands_on (Instr.Push n) (n ∷ operands) fine.on (omega arith)
    act_lands Instr.Discard fine = lands_on Instr.Discard (below operands) fine.on (omega (arith, below_length operands))
    act_lands (Instr.LoadSlot x way) fine =
        lands_on (Instr.LoadSlot x way) (loaded way [] operands (get_or slots x (pos 0))) fine.on (loaded_slot_length way operands (get_or slots x (pos 0)))
    act_lands (Instr.StoreSlot x) fine =
        let same : length operands ≡ depth_after program (length operands) (Instr.StoreSlot x) = omega (arith, fine.enough) in
        lands (place + 1) (depth_after program (length operands) (Instr.StoreSlot x)) operands (set slots x (top operands)) own fine.on same (length-set slots x (top operands)) refl
    act_lands (Instr.TestIndex array line) fine =
        number_lands (Instr.TestIndex array line) line (number_at (Target.Member array) (top operands)) (λ n. goes (onward here operands))
        (λ n found. lands_on (Instr.TestIndex array line) operands fine.on (omega (arith, fine.enough)))
    act_lands (Instr.LoadOwn target way line) fine =
        number_lands (Instr.LoadOwn target way line) line (number_at target (top operands)) (λ n. goes (after_load here target way (get_or own n (pos 0))))
        (λ n found. lands_on (Instr.LoadOwn target way line) (after_one target way (get_or own n (pos 0))) fine.on (loaded_length way target operands (get_or own n (pos 0))))
    act_lands (Instr.StoreOwn target line) fine =
        let depth = depth_after program (length operands) (Instr.StoreOwn target line) in
        number_lands (Instr.StoreOwn target line) line (number_at target (top (below operands)))
        (λ n. goes (record (onward here (stored target operands)) { own = set own n (top operands) }))
        (λ n found. lands (place + 1) depth (stored target operands) slots (set own n (top operands)) fine.on (stored_length target operands fine.enough) refl (length-set own n (top operands)))
    act_lands (Instr.Load target way line) fine =
        number_lands (Instr.Load target way line) line (number_at target (top operands)) (λ n. asks (Want.Load (record { 0 = n }) line) (after_load here target way))
        (λ n found. (
          number_below program.cells target (top operands) n fine.names found,
          λ answer. lands_on (Instr.Load target way line) (after_one target way answer) fine.on (loaded_length way target operands answer),
        ))
    act_lands (Instr.Store target bound line) fine =
        number_lands (Instr.Store target bound line) line (number_at target (top (below operands)))
        (λ n. asks (Want.Store (record { 0 = n }) (top operands) line) (λ answer. onward here (stored target operands)))
        (λ n found. (
          number_below program.cells target (top (below operands)) n fine.names found,
          λ answer. lands_on (Instr.Store target bound line) (stored target operands) fine.on (stored_length target operands fine.enough),
        ))
    act_lands (Instr.Unary op line) fine =
        outcome_lands (Instr.Unary op line) (below operands) line (unary_value op (top operands))
        (λ value. lands_on (Instr.Unary op line) (value ∷ below operands) fine.on (omega (arith, below_length operands)))
    act_lands (Instr.StepBy op line) fine =
        outcome_lands (Instr.StepBy op line) (below operands) line (step_value op (top operands))
        (λ value. lands_on (Instr.StepBy op line) (value ∷ below operands) fine.on (omega (arith, below_length operands)))
    act_lands (Instr.Binary op line) fine =
        outcome_lands (Instr.Binary op line) (below (below operands)) line (binary_value op (top (below operands)) (top operands))
        (λ value. lands_on (Instr.Binary op line) (value ∷ below (below operands)) fine.on (omega (arith, below_length (below operands), below_length operands)))
    act_lands Instr.ToTruth fine = lands_on Instr.ToTruth (truth (holds (top operands)) ∷ below operands) fine.on (omega (arith, below_length operands))
    act_lands (Instr.GoOn count) fine =
        let same : length operands ≡ depth_after program (length operands) (Instr.GoOn count) = omega arith in
        lands (place + 1 + count) (depth_after program (length operands) (Instr.GoOn count)) operands slots own fine.on same refl refl
    act_lands (Instr.SkipIfZero count) fine =
        let depth = depth_after program (length operands) (Instr.SkipIfZero count) in
        let both = and_parts (is_there is_free program f depth (place + 1)) (is_there is_free program f depth (place + 1 + count)) fine.on in
        skips_land count depth (below operands) (holds (top operands)) both.0 both.1 (omega (arith, below_length operands))
    act_lands (Instr.GoBack count) fine =
        let depth = depth_after program (length operands) (Instr.GoBack count) in
        let both = and_parts (nat_le count place) (is_there is_free program f depth (place - count)) fine.on in
        (tt, λ answer. lands (place - count) depth operands slots own both.1 (omega arith) refl refl)
    act_lands (Instr.Enter number line) fine = entering_lands number line fine (nat_lt (length outer + 1) 256) refl
    act_lands Instr.Leave fine = returns_land (top operands) outer going
      where
        returns_land : (value : ℤ) (callers : List Frame) → IsGoing (record here { outer = callers })
            → Lands Instr.Leave (record here { outer = callers }) (returns (record here { outer = callers }) value callers)
        returns_land value [] is = (tt, λ answer. refl)
        returns_land value (caller ∷ callers) is = (tt, λ answer. goes_back value caller callers is)
    act_lands (Instr.Ask target mode line) fine =
        number_lands (Instr.Ask target mode line) line (number_at target (top operands))
        (λ n. asks (Want.Ask (record { 0 = n }) mode line) (λ answer. onward here operands))
        (λ n found. (number_below program.locks target (top operands) n fine.names found, λ answer. asks_take target mode line fine n found))
    act_lands (Instr.Take target mode line) fine =
        number_lands (Instr.Take target mode line) line (number_at target (top operands))
        (λ n. asks (Want.Take (record { 0 = n }) mode) (λ answer. onward here (below_index target operands)))
        (λ n found. (
          number_below program.locks target (top operands) n fine.names found,
          λ answer. (refl, lands_on (Instr.Take target mode line) (below_index target operands) fine.on (omega (arith, below_index_length target operands))),
        ))
    act_lands (Instr.Give target line) fine =
        number_lands (Instr.Give target line) line (number_at target (top operands))
        (λ n. asks (Want.Give (record { 0 = n }) line) (λ answer. onward here (below_index target operands)))
        (λ n found. (
          number_below program.locks target (top operands) n fine.names found,
          λ answer. lands_on (Instr.Give target line) (below_index target operands) fine.on (omega (arith, below_index_length target operands)),
        ))
    act_lands (Instr.Arrive bar) fine = (ltb-true bar.0 program.bars fine.names, λ answer. arrives_at bar fine)
    act_lands (Instr.Cross bar) fine = (ltb-true bar.0 program.bars fine.names, λ answer. (refl, lands_on (Instr.Cross bar) operands fine.on (omega arith)))
    act_lands (Instr.Print number) fine =
        let count = values_in (print_at program number) in
        (tt, λ answer. lands_on (Instr.Print number) (drop count operands) fine.on (omega (arith, length-drop count operands)))

    -- A labelled step that is finished.

    finished_enters : (number line : ℕ) → FineHere (Instr.Enter number line) → (few : Bool) → nat_lt (length outer + 1) 256 ≡ few
        → IsTyped (cond few (entered here number (function_at program number)) here)
    finished_enters number line fine true few = (enters number line fine (ltb-true (length outer + 1) 256 few)).going
    finished_enters number line fine false few = going

    finished_lands : (i : Instr) → FineHere i → (answer : ℤ) → IsTyped (finished here answer i)
    finished_lands (Instr.Load target way line) fine answer =
        (lands_on (Instr.Load target way line) (after_one target way answer) fine.on (loaded_length way target operands answer)).going
    finished_lands (Instr.Store target bound line) fine answer =
        (lands_on (Instr.Store target bound line) (stored target operands) fine.on (stored_length target operands fine.enough)).going
    finished_lands (Instr.GoBack count) fine answer =
        let depth = depth_after program (length operands) (Instr.GoBack count) in
        let both = and_parts (nat_le count place) (is_there is_free program f depth (place - count)) fine.on in
        let same : length operands ≡ depth = omega arith in
        (lands (place - count) depth operands slots own both.1 same refl refl).going
    finished_lands (Instr.Enter number line) fine answer = finished_enters number line fine (nat_lt (length outer + 1) 256) refl
    finished_lands Instr.Leave fine answer = returned_lands (top operands) outer going
      where
        returned_lands : (value : ℤ) (callers : List Frame) → IsGoing (record here { outer = callers }) → IsTyped (returned (record here { outer = callers }) value callers)
        returned_lands value [] is = tt
        returned_lands value (caller ∷ callers) is = (goes_back value caller callers is).going
    finished_lands (Instr.Ask target mode line) fine answer =
        let depth = depth_after program (length operands) (Instr.Ask target mode line) in
        let same : length operands ≡ depth = omega (arith, fine.enough) in
        moved (is_take target mode) (place + 1) depth operands slots own fine.on same refl refl
    finished_lands (Instr.Take target mode line) fine answer =
        (lands_on (Instr.Take target mode line) (below_index target operands) fine.on (omega (arith, below_index_length target operands))).going
    finished_lands (Instr.Give target line) fine answer =
        (lands_on (Instr.Give target line) (below_index target operands) fine.on (omega (arith, below_index_length target operands))).going
    finished_lands (Instr.Arrive bar) fine answer =
        let depth = depth_after program (length operands) (Instr.Arrive bar) in
        let same : length operands ≡ depth = omega arith in
        moved (is_cross bar) (place + 1) depth operands slots own fine.on same refl refl
    finished_lands (Instr.Cross bar) fine answer = (lands_on (Instr.Cross bar) operands fine.on (omega arith)).going
    finished_lands (Instr.Print number) fine answer =
        let count = values_in (print_at program number) in
        (lands_on (Instr.Print number) (drop count operands) fine.on (omega (arith, length-drop count operands))).going
    finished_lands _ fine answer = going

    -- what is known of the instruction here, from the validity of the code
    fine_here : (row : Row) → row_at program function place ≡ Some row → row.depth ≡ length operands → FineHere row.instr
    fine_here row is depth =
        let fine = row_fine program function place row going.valid is in
        let at : (n : ℕ) → row.depth ≡ n → row ≡ record { instr = row.instr; depth = n } = λ n e i. record { instr = row.instr; depth = e i } in
        record {
          is = is ∙ ap Some (at (length operands) depth);
          enough = subst (λ d. takes program row.instr ≤ d) depth fine.operands;
          names = fine.names;
          on = subst (λ d. leads_on program f place (depth_after program d row.instr) row.instr ≡ true) depth fine.on;
        }

    pub here_lands : Lands going.inner.row.instr here (act here going.inner.row.instr)
    here_lands = act_lands going.inner.row.instr (fine_here going.inner.row going.inner.is going.inner.depth)

    -- the step here is that of the instruction
    pub here_acts : step here ≡ act here going.inner.row.instr
    here_acts = ap (act_at here) going.inner.is

    pub here_finishes : (answer : ℤ) → IsTyped (finished_at here answer (row_at program function place))
    here_finishes answer =
        subst (λ o. IsTyped (finished_at here answer o)) (sym going.inner.is)
        (finished_lands going.inner.row.instr (fine_here going.inner.row going.inner.is going.inner.depth) answer)
