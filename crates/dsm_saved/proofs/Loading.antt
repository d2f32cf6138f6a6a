-- What was saved of this code is a state of it.
use Rattle.std.proofs.Common.{◌≡◌, ◌∙◌, ℕ, zero, suc, ℤ, ◌+◌, ◌-◌, ◌<◌, ◌≤◌, ◌^◌, Bool, true, false, ◌&&◌, List, [], ◌∷◌, ◌++◌, length, map, take, drop, Option, Some, None, refl, sym, ap, subst, arith}
use Rattle.std.specs.Prelude.{◌==◌, nat_lt, nat_le, reverse, slice_get}
use Rattle.std.proofs.lemmas.Bool.{eqb-true, ne_eqb, eq-eqb, leb-true, ltb-true, ltb-false}
use Rattle.std.proofs.lemmas.Option.{same_Some, slice_get_past}
use Rattle.std.proofs.lemmas.List.{append-nil, reverse-append, reverse-reverse, length-reverse, length-map, length-take, length-drop, take-append-drop}
use Rattle.dsm_fields.specs.Fields.{Field, is_fit, are_fit, byte, number, numbered}
use Rattle.dsm_fields.proofs.Exact.{both_true}
use Rattle.dsm_code.specs.declared.instruction.Instr.{Instr}
use Rattle.dsm_code.specs.declared.parts.Row.{Row}
use Rattle.dsm_code.specs.Programs.{Program, numbered as function_numbered, function_at, row_at}
use Rattle.dsm_code.specs.Valid.{takes, is_valid}
use Rattle.dsm_code.specs.Machine.{State, act, act_at, step}
use Rattle.dsm_code.specs.Typed.{Waits, AllWait, IsGoing}
use Rattle.dsm_code.proofs.Facts.{row_fine}
use Rattle.dsm_saved.specs.declared.saved.SavedFrame.{SavedFrame}
use Rattle.dsm_saved.specs.declared.saved.Saved.{Saved}
use Rattle.dsm_saved.specs.Stops.{may_want, called, is_place, value_count}
use Rattle.dsm_saved.specs.Spelling.{value_fields, called_at, due, is_due, known_fields, frame_fields, frames_fields, own_fields, is_fault, is_line, life_fields, saved_fields, HasFrames}
use Rattle.dsm_saved.specs.Answers.{IsSaved}
use Rattle.dsm_saved.specs.States.{fault_number, numbered_fault, saved_frame, saved_of, opened, going_with, state_by, state_of, Asks, IsState}
use Rattle.dsm_saved.proofs.Writing.{last_after, numbered_append, last_of_one}
use Rattle.dsm_saved.proofs.Deciding.{fit_append}
use Rattle.dsm_saved.proofs.Standing.{asks_of}

-- ---- one function

-- what is known of a saved function whose fields fit
record Known (program : Program) (is_last : Bool) (next : Option ℕ) (f : SavedFrame) : Type 0 where
  due : is_due next f.function ≡ true
  small : f.place < 2 ^ 32
  place : is_place program is_last (row_at program f.function f.place) ≡ true
  count : length f.values ≡ value_count program is_last f.function (row_at program f.function f.place)
  values : are_fit (numbered (value_fields (row_at program f.function f.place) (length f.values)) 0 None f.values) ≡ true

known_of : (program : Program) (is_last : Bool) (next : Option ℕ) (f : SavedFrame) → are_fit (known_fields program is_last next f) ≡ true → Known program is_last next f
known_of program is_last next f fit =
    let row = row_at program f.function f.place in
    let values = numbered (value_fields row (length f.values)) 0 None f.values in
    let function = number 2 f.function (is_due next f.function) in
    let place = number 4 f.place (is_place program is_last row) in
    let count = number 2 (length f.values) (length f.values == value_count program is_last f.function row) in
    let a = both_true (is_fit function) (is_fit place && (is_fit count && are_fit values)) fit in
    let b = both_true (is_fit place) (is_fit count && are_fit values) a.1 in
    let c = both_true (is_fit count) (are_fit values) b.1 in
    let first = both_true function.holds function.keeps a.0 in
    let second = both_true place.holds place.keeps b.0 in
    let third = both_true count.holds count.keeps c.0 in
    record {
      due = first.1;
      small = omega (arith, ltb-true f.place (256 ^ 4) second.0);
      place = second.1;
      count = eqb-true (length f.values) (value_count program is_last f.function row) third.1;
      values = c.1;
    }

due_is : (next : Option ℕ) (function : ℕ) → is_due next function ≡ true → next ≡ Some function
due_is None function e = absurd cc
due_is (Some n) function e = ap (λ (m : ℕ). let o : Option ℕ = Some m in o) (sym (eqb-true function n e))

-- a function with an instruction is in the list
in_list : (program : Program) (number place : ℕ) (row : Row) → row_at program number place ≡ Some row → number < length program.functions
in_list program number place row is = of (nat_lt number (length program.functions)) refl
  where
    of : (known : Bool) → nat_lt number (length program.functions) ≡ known → number < length program.functions
    of true lt = ltb-true number (length program.functions) lt
    of false ge =
        let none = slice_get_past program.functions number (ltb-false number (length program.functions) ge) in
        let empty : slice_get (function_numbered None).rows place ≡ Some row = subst (λ o. slice_get (function_numbered o).rows place ≡ Some row) none is in
        cc (empty)

record Call (callee : ℕ) (o : Option Row) : Type 0 where
  line : ℕ
  depth : ℕ
  is : o ≡ Some (record { instr = Instr.Enter callee line; depth = depth })

call_at : (callee depth : ℕ) (i : Instr) → called i ≡ Some callee → Call callee (Some (record { instr = i; depth = depth }))
call_at callee depth (Instr.Enter number line) e =
    let same : number ≡ callee = same_Some number callee e in
    record { line = line; depth = depth; is = ap (λ (n : ℕ). let o : Option Row = Some (record { instr = Instr.Enter n line; depth = depth }) in o) same }
call_at callee depth _ e = absurd cc

call_of : (callee : ℕ) (o : Option Row) → called_at o ≡ Some callee → Call callee o
call_of callee None e = absurd cc
call_of callee (Some row) e = call_at callee row.depth row.instr e

-- a saved function at its call waits
waits_of : (program : Program) (callee : ℕ) (next : Option ℕ) (f : SavedFrame) → is_valid program ≡ true → Known program false next f → due program (Some f) ≡ Some callee → Waits program callee (opened program f)
waits_of program callee next f valid known due_of =
    let call = call_of callee (row_at program f.function f.place) due_of in
    let row : Row = record { instr = Instr.Enter callee call.line; depth = call.depth } in
    let slots = (function_at program f.function).slots in
    let fine = row_fine program f.function f.place row valid call.is in
    let count : length f.values ≡ value_count program false f.function (Some row) = known.count ∙ ap (value_count program false f.function) call.is in
    record {
      function = in_list program f.function f.place row call.is;
      line = call.line;
      depth = call.depth;
      is = call.is;
      operands = omega (arith, length-reverse (drop slots f.values), length-drop slots f.values, count, fine.operands);
      slots_are = omega (arith, length-take slots f.values, count);
    }

record Stand (program : Program) (o : Option Row) : Type 0 where
  row : Row
  is : o ≡ Some row
  may : may_want row.instr ≡ true
  low : row.depth ≤ program.deepest

stand_of : (program : Program) (o : Option Row) → is_place program true o ≡ true → Stand program o
stand_of program None e = absurd cc
stand_of program (Some row) e =
    let both = both_true (may_want row.instr) (nat_le row.depth program.deepest) e in
    record { row = row; is = refl; may = both.0; low = leb-true row.depth program.deepest both.1 }

-- the values of a function that is under way again
values_again : (program : Program) (f : SavedFrame) → (opened program f).slots ++ reverse (opened program f).operands ≡ f.values
values_again program f =
    let slots = (function_at program f.function).slots in
    ap (λ (w : List ℤ). take slots f.values ++ w) (reverse-reverse (drop slots f.values)) ∙ take-append-drop slots f.values

frame_again : (program : Program) (f : SavedFrame) → saved_frame (opened program f) ≡ f
frame_again program f = ap (λ (w : List ℤ). let g : SavedFrame = record { function = f.function; place = f.place; values = w } in g) (values_again program f)

-- ---- all of them

module _ (program : Program) (innermost : ℕ) where
  abbrev fields : ℕ → Option SavedFrame → SavedFrame → List Field
  fields = frame_fields program innermost

  abbrev Fit : List SavedFrame → Type 0
  Fit frames = are_fit (numbered fields 0 None frames) ≡ true

  record Split (f : SavedFrame) (front : List SavedFrame) : Type 0 where
    before : Fit front
    known : Known program (length front == innermost) (due program (last_after None front)) f

  split_of : (f : SavedFrame) (front : List SavedFrame) → Fit (front ++ f ∷ []) → Split f front
  split_of f front fit =
      let parts = fit_append (numbered fields 0 None front) (numbered fields (0 + length front) (last_after None front) (f ∷ [])) (ap are_fit (sym (numbered_append fields 0 None front (f ∷ []))) ∙ fit) in
      let at : length front ≡ 0 + length front = omega arith in
      record {
        before = parts.0;
        known = known_of program (length front == innermost) (due program (last_after None front)) f
            (ap (λ (n : ℕ). are_fit (fields n (last_after None front) f)) at ∙ ap are_fit (sym (append-nil (fields (0 + length front) (last_after None front) f))) ∙ parts.1);
      }

  outer_waits : (callee : ℕ) (xs : List SavedFrame) → is_valid program ≡ true → length xs ≤ innermost → Fit (reverse xs) → due program (last_after None (reverse xs)) ≡ Some callee → AllWait program callee (map (opened program) xs)
  outer_waits callee [] valid le fit due_of = sym (same_Some program.main callee due_of)
  outer_waits callee (f ∷ xs) valid le fit due_of =
      let front = reverse xs in
      let parts : reverse (f ∷ xs) ≡ front ++ f ∷ [] = reverse-append (f ∷ []) xs in
      let split = split_of f front (subst Fit parts fit) in
      let waiting : (length front == innermost) ≡ false = ne_eqb (length front) innermost (λ e. omega (arith, e, length-reverse xs, le)) in
      let known = subst (λ (b : Bool). Known program b (due program (last_after None front)) f) waiting split.known in
      let last : due program (Some f) ≡ Some callee = sym (ap (due program) (ap (last_after None) parts ∙ last_of_one front f None)) ∙ due_of in (
        waits_of program callee (due program (last_after None front)) f valid known last,
        outer_waits f.function xs valid (omega (arith, le)) split.before (due_is (due program (last_after None front)) f.function known.due),
      )

-- ---- a state that goes on

few_frames : (f : SavedFrame) (xs : List SavedFrame) → length (reverse (f ∷ xs)) ≤ 256 → length xs < 256
few_frames f xs few = omega (arith, few, length-reverse (f ∷ xs))

module _ (program : Program) (own : List ℤ) (valid : is_valid program ≡ true) (cells : length own ≡ program.private_cells) where
  abbrev going : SavedFrame → List SavedFrame → State
  going f xs = going_with program own (map (opened program) (f ∷ xs))

  record Goes (s : State) : Type 0 where
    is : IsGoing s
    asks : Asks (step s)

  goes_of : (f : SavedFrame) (xs : List SavedFrame) → length xs < 256 → are_fit (numbered (frame_fields program (length xs)) 0 None (reverse (f ∷ xs))) ≡ true → Goes (going f xs)
  goes_of f xs few fit =
      let innermost = length xs in
      let front = reverse xs in
      let parts : reverse (f ∷ xs) ≡ front ++ f ∷ [] = reverse-append (f ∷ []) xs in
      let split = split_of program innermost f front (subst (λ (w : List SavedFrame). are_fit (numbered (frame_fields program innermost) 0 None w) ≡ true) parts fit) in
      let last : (length front == innermost) ≡ true = eq-eqb (length front) innermost (length-reverse xs) in
      let known = subst (λ (b : Bool). Known program b (due program (last_after None front)) f) last split.known in
      let stand = stand_of program (row_at program f.function f.place) known.place in
      let row = stand.row in
      let slots = (function_at program f.function).slots in
      let s = going f xs in
      let count : length f.values ≡ value_count program true f.function (Some row) = known.count ∙ ap (value_count program true f.function) stand.is in
      let values : are_fit (numbered (value_fields (Some row) (length f.values)) 0 None f.values) ≡ true =
      subst (λ (o : Option Row). are_fit (numbered (value_fields o (length f.values)) 0 None f.values) ≡ true) stand.is known.values in
      let long : length s.slots ≡ slots = omega (arith, length-take slots f.values, count) in
      let deep : length s.operands ≡ row.depth = omega (arith, length-reverse (drop slots f.values), length-drop slots f.values, count) in
      let fine = row_fine program f.function f.place row valid stand.is in
      let enough : takes program row.instr ≤ length s.operands = omega (arith, fine.operands, deep) in
      let acts : Asks (act s row.instr) =
      asks_of row.depth (length f.values) s (omega (arith, long, deep, count)) row.instr stand.may enough
      (ap (λ (w : List ℤ). are_fit (numbered (value_fields (Some row) (length f.values)) 0 None w)) (values_again program f) ∙ values) in
      record {
        is = record {
          valid = valid;
          inner = record {
            function = in_list program f.function f.place row stand.is;
            row = row;
            is = stand.is;
            depth = sym deep;
            low = omega (arith, deep, stand.low);
            small = known.small;
            slots_are = sym long;
          };
          outer = outer_waits program innermost f.function xs valid (omega arith) split.before (due_is (due program (last_after None front)) f.function known.due);
          few = omega (arith, few, length-map xs (opened program));
          own = cells;
        };
        asks = subst (λ (o : Option Row). Asks (act_at s o)) (sym stand.is) acts;
      }

  -- by the frames from the innermost outwards
  by_frames : (frames turned : List SavedFrame) → turned ≡ reverse frames → 1 ≤ length frames → length frames ≤ 256 → are_fit (frames_fields program 0 frames) ≡ true → Goes (going_with program own (map (opened program) turned))
  by_frames frames [] turn some few fit = absurd (omega (arith, ap length turn, length-reverse frames, some))
  by_frames frames (f ∷ xs) turn some few fit =
      let back : frames ≡ reverse (f ∷ xs) = sym (reverse-reverse frames) ∙ ap reverse (sym turn) in
      let len : length frames ≡ suc (length xs) = omega (arith, ap length turn, length-reverse frames) in
      let inner : length frames - 1 ≡ length xs = omega (arith, len) in
      let first = both_true (is_fit (byte (length frames - 1) true)) (are_fit (numbered (frame_fields program (length frames - 1)) 0 None frames)) fit in
      goes_of f xs (omega (arith, len, few))
      (sym (ap (λ (w : List SavedFrame). are_fit (numbered (frame_fields program (length xs)) 0 None w)) back) ∙ sym (ap (λ (n : ℕ). are_fit (numbered (frame_fields program n) 0 None frames)) inner) ∙ first.1)

-- ---- the whole

record Parts (program : Program) (saved : Saved) : Type 0 where
  way : nat_lt saved.way 3 ≡ true
  fault : is_fault saved.way saved.fault ≡ true
  line : is_line saved.way saved.line ≡ true
  cells : length saved.own ≡ program.private_cells
  frames : are_fit (frames_fields program saved.way saved.frames) ≡ true

parts_of : (program : Program) (saved : Saved) → are_fit (saved_fields program saved) ≡ true → Parts program saved
parts_of program saved fit =
    let own = own_fields program saved.own in
    let frames = frames_fields program saved.way saved.frames in
    let a = fit_append (life_fields saved.way saved.fault saved.line) (own ++ frames) fit in
    let b = fit_append own frames a.1 in
    let way = byte saved.way (nat_lt saved.way 3) in
    let fault = byte saved.fault (is_fault saved.way saved.fault) in
    let line = number 4 saved.line (is_line saved.way saved.line) in
    let c = both_true (is_fit way) (is_fit fault && (is_fit line && true)) a.0 in
    let d = both_true (is_fit fault) (is_fit line && true) c.1 in
    let e = both_true (is_fit line) true d.1 in
    let count = number 4 (length saved.own) (length saved.own == program.private_cells) in
    let g = both_true (is_fit count) (are_fit (numbered (value_fields None (length saved.own)) 0 None saved.own)) b.0 in
    record {
      way = c.0;
      fault = d.0;
      line = (both_true line.holds line.keeps e.0).1;
      cells = eqb-true (length saved.own) program.private_cells (both_true count.holds count.keeps g.0).1;
      frames = b.1;
    }

is_state : (program : Program) (saved : Saved) (way : ℕ) → is_valid program ≡ true → length saved.own ≡ program.private_cells → length saved.frames ≤ 256 → HasFrames way saved.frames → are_fit (frames_fields program way saved.frames) ≡ true
    → IsState program (state_by program saved way)
is_state program saved zero valid cells few some fit = with_frames (reverse saved.frames) refl
  where
    with_frames : (turned : List SavedFrame) → turned ≡ reverse saved.frames → IsState program (going_with program saved.own (map (opened program) turned))
    with_frames [] turn = absurd (omega (arith, ap length turn, length-reverse saved.frames, some))
    with_frames (f ∷ xs) turn =
        let goes = by_frames program saved.own valid cells saved.frames (f ∷ xs) turn some few fit in
        record { program_is = refl; typed = goes.is; asks = goes.asks; over = tt }
is_state program saved (suc zero) valid cells few none fit = record { program_is = refl; typed = tt; asks = tt; over = (cells, refl) }
is_state program saved (suc (suc way)) valid cells few none fit = record { program_is = refl; typed = tt; asks = tt; over = (cells, refl) }

-- what was saved of this code is a state of it
pub saved_state : (program : Program) (saved : Saved) → is_valid program ≡ true → IsSaved program saved → length saved.frames ≤ 256 → IsState program (state_of program saved)
saved_state program saved valid is few =
    let parts = parts_of program saved is.fit in
    is_state program saved saved.way valid parts.cells few is.shaped parts.frames

-- ---- and that is saved as it was

all_again : (program : Program) (frames : List SavedFrame) → map saved_frame (map (opened program) frames) ≡ frames
all_again program [] = refl
all_again program (f ∷ frames) = rw (frame_again program f, all_again program frames) refl

fault_back : (fault : ℕ) → nat_lt fault 8 ≡ true → fault_number (numbered_fault fault) ≡ fault
fault_back zero lt = refl
fault_back (suc zero) lt = refl
fault_back (suc (suc zero)) lt = refl
fault_back (suc (suc (suc zero))) lt = refl
fault_back (suc (suc (suc (suc zero)))) lt = refl
fault_back (suc (suc (suc (suc (suc zero))))) lt = refl
fault_back (suc (suc (suc (suc (suc (suc zero)))))) lt = refl
fault_back (suc (suc (suc (suc (suc (suc (suc zero))))))) lt = refl
fault_back (suc (suc (suc (suc (suc (suc (suc (suc n)))))))) lt = absurd (omega (arith, ltb-true (suc (suc (suc (suc (suc (suc (suc (suc n)))))))) 8 lt))

no_fault : (fault : ℕ) → nat_lt fault 1 ≡ true → 0 ≡ fault
no_fault fault lt = omega (arith, ltb-true fault 1 lt)

abbrev made : ℕ → ℕ → ℕ → List ℤ → List SavedFrame → Saved
made way fault line own frames = record { way = way; fault = fault; line = line; own = own; frames = frames }

going_again : (program : Program) (own : List ℤ) (frames turned : List SavedFrame) → turned ≡ reverse frames → 1 ≤ length frames → saved_of (going_with program own (map (opened program) turned)) ≡ made 0 0 0 own frames
going_again program own frames [] turn some = absurd (omega (arith, ap length turn, length-reverse frames, some))
going_again program own frames (f ∷ xs) turn some =
    let all : reverse (map saved_frame (map (opened program) (f ∷ xs))) ≡ frames = ap reverse (all_again program (f ∷ xs) ∙ turn) ∙ reverse-reverse frames in
    ap (made 0 0 0 own) all

again_by : (program : Program) (saved : Saved) (way : ℕ) → HasFrames way saved.frames → nat_lt way 3 ≡ true → is_fault way saved.fault ≡ true → is_line way saved.line ≡ true
    → saved_of (state_by program saved way) ≡ made way saved.fault saved.line saved.own saved.frames
again_by program saved zero some lt fault line =
    going_again program saved.own saved.frames (reverse saved.frames) refl some
    ∙ ap (λ (n : ℕ). made 0 n 0 saved.own saved.frames) (no_fault saved.fault fault)
    ∙ ap (λ (n : ℕ). made 0 saved.fault n saved.own saved.frames) (sym (eqb-true saved.line 0 line))
again_by program saved (suc zero) none lt fault line =
    ap (λ (n : ℕ). made 1 n 0 saved.own []) (no_fault saved.fault fault)
    ∙ ap (λ (n : ℕ). made 1 saved.fault n saved.own []) (sym (eqb-true saved.line 0 line))
    ∙ ap (made 1 saved.fault saved.line saved.own) (sym none)
again_by program saved (suc (suc zero)) none lt fault line =
    ap (λ (n : ℕ). made 2 n saved.line saved.own []) (fault_back saved.fault fault) ∙ ap (made 2 saved.fault saved.line saved.own) (sym none)
again_by program saved (suc (suc (suc way))) none lt fault line = absurd (omega (arith, ltb-true (suc (suc (suc way))) 3 lt))

-- the state that goes on from what was saved is saved as it was
pub saved_again : (program : Program) (saved : Saved) → IsSaved program saved → saved_of (state_of program saved) ≡ saved
saved_again program saved is =
    let parts = parts_of program saved is.fit in
    again_by program saved saved.way is.shaped parts.way parts.fault parts.line

-- as many private cells as the program has
pub saved_cells : (program : Program) (saved : Saved) → IsSaved program saved → length saved.own ≡ program.private_cells
saved_cells program saved is = (parts_of program saved is.fit).cells
