-- A state of the code is saved as one, and goes on from what was saved.
use Rattle.std.proofs.Common.{◌≡◌, ◌∙◌, ℕ, ℤ, ◌+◌, ◌-◌, ◌≤◌, Bool, true, false, List, [], ◌∷◌, ◌++◌, length, map, take, drop, Option, Some, None, refl, sym, ap, subst, arith}
use Rattle.std.specs.Prelude.{◌==◌, reverse}
use Rattle.std.proofs.lemmas.Bool.{eq-eqb, ne_eqb, le-leb}
use Rattle.std.proofs.lemmas.List.{append-nil, reverse-append, reverse-reverse, length-reverse, length-map, take_at, drop_at}
use Rattle.dsm_base.specs.declared.names.Fault.{Fault}
use Rattle.dsm_base.specs.Steps.{Over, ended, stopped}
use Rattle.dsm_fields.specs.Fields.{Field, number, numbered, are_kept}
use Rattle.dsm_code.specs.declared.instruction.Instr.{Instr}
use Rattle.dsm_code.specs.declared.parts.Row.{Row}
use Rattle.dsm_code.specs.Programs.{Program, function_at, row_at}
use Rattle.dsm_code.specs.Valid.{takes}
use Rattle.dsm_code.specs.Machine.{State, Frame, waiting, act, act_at, step_in}
use Rattle.dsm_code.specs.Typed.{Waits, AllWait, IsGoing, IsTypedIn}
use Rattle.dsm_code.proofs.Facts.{row_fine}
use Rattle.dsm_saved.specs.declared.saved.SavedFrame.{SavedFrame}
use Rattle.dsm_saved.specs.Stops.{is_stand, is_place, value_count}
use Rattle.dsm_saved.specs.Spelling.{value_fields, called_at, due, is_due, known_fields, frame_fields, frames_fields, own_fields, is_fault, saved_fields, HasFrames, IsShaped}
use Rattle.dsm_saved.specs.States.{way_of, fault_number, fault_of, line_of, saved_frame, frames_in, saved_of, numbered_fault, opened, bare, going_with, state_of, Asks, IsOverIn, IsState}
use Rattle.dsm_saved.proofs.Writing.{last_after, numbered_append, last_of_one}
use Rattle.dsm_saved.proofs.Deciding.{kept_append, any_values, early_values}
use Rattle.dsm_saved.proofs.Standing.{len_of, may_of, kept_of}

-- ---- one function

-- the fields of a function at an instruction
abbrev row_fields : Program → Bool → Option ℕ → SavedFrame → Option Row → List Field
row_fields program is_last next f row =
    number 2 f.function (is_due next f.function)
    ∷ number 4 f.place (is_place program is_last row)
    ∷ number 2 (length f.values) (length f.values == value_count program is_last f.function row)
    ∷ numbered (value_fields row (length f.values)) 0 None f.values

known_kept : (program : Program) (is_last : Bool) (next : Option ℕ) (f : SavedFrame) (row : Row) → row_at program f.function f.place ≡ Some row → is_due next f.function ≡ true → is_place program is_last (Some row) ≡ true
    → length f.values ≡ value_count program is_last f.function (Some row) → are_kept (numbered (value_fields (Some row) (length f.values)) 0 None f.values) ≡ true
    → are_kept (known_fields program is_last next f) ≡ true
known_kept program is_last next f row is due place count values =
    ap (λ (o : Option Row). are_kept (row_fields program is_last next f o)) is
    ∙ rw (due, place, eq-eqb (length f.values) (value_count program is_last f.function (Some row)) count, values) refl

-- a function that waits
waits_kept : (program : Program) (callee : ℕ) (caller : Frame) → Waits program callee caller → are_kept (known_fields program false (Some caller.function) (saved_frame caller)) ≡ true
waits_kept program callee caller w =
    let row : Row = record { instr = Instr.Enter callee w.line; depth = w.depth } in
    let f = saved_frame caller in
    let len = len_of caller.slots caller.operands in
    known_kept program false (Some caller.function) f row w.is (eq-eqb caller.function caller.function refl) refl
    (omega (arith, len, w.operands, w.slots_are)) (early_values row (length f.values) 0 None f.values (omega arith))

-- the innermost one
inner_kept : (s : State) (going : IsGoing s) → Asks (act s going.inner.row.instr) → are_kept (known_fields s.program true (Some s.function) (saved_frame (waiting s s.operands))) ≡ true
inner_kept s going asks =
    let at = going.inner in
    let row = at.row in
    let f = saved_frame (waiting s s.operands) in
    let len : length f.values ≡ length s.slots + length s.operands = len_of s.slots s.operands in
    let fine = row_fine s.program s.function s.place row going.valid at.is in
    let enough : takes s.program row.instr ≤ length s.operands = omega (arith, fine.operands, at.depth) in
    let low : row.depth ≤ s.program.deepest = omega (arith, at.depth, at.low) in
    let stand : is_stand s.program row ≡ true = rw (may_of row.instr s asks, le-leb row.depth s.program.deepest low) refl in
    known_kept s.program true (Some s.function) f row at.is (eq-eqb s.function s.function refl) stand
    (omega (arith, len, at.depth, at.slots_are)) (kept_of row.depth (length f.values) s len row.instr enough asks)

-- ---- all of them

outer_kept : (program : Program) (innermost callee : ℕ) (outer : List Frame) → AllWait program callee outer → length outer ≤ innermost
    → (are_kept (numbered (frame_fields program innermost) 0 None (reverse (map saved_frame outer))) ≡ true) × (due program (last_after None (reverse (map saved_frame outer))) ≡ Some callee)
outer_kept program innermost callee [] waits le = (refl, ap Some (sym waits))
outer_kept program innermost callee (caller ∷ outer) waits le =
    let front = reverse (map saved_frame outer) in
    let f = saved_frame caller in
    let fields = frame_fields program innermost in
    let parts : reverse (f ∷ map saved_frame outer) ≡ front ++ f ∷ [] = reverse-append (f ∷ []) (map saved_frame outer) in
    let before = outer_kept program innermost caller.function outer waits.1 (omega (arith, le)) in
    let len : length front ≡ length outer = length-reverse (map saved_frame outer) ∙ length-map outer saved_frame in
    let waiting : (0 + length front == innermost) ≡ false = ne_eqb (0 + length front) innermost (λ e. omega (arith, e, len, le)) in
    let one : are_kept (fields (0 + length front) (last_after None front) f) ≡ true =
    rw (waiting, before.1) (waits_kept program callee caller waits.0) in (
      ap (λ (w : List SavedFrame). are_kept (numbered fields 0 None w)) parts
          ∙ ap are_kept (numbered_append fields 0 None front (f ∷ []))
          ∙ kept_append (numbered fields 0 None front) (numbered fields (0 + length front) (last_after None front) (f ∷ [])) before.0
          (ap are_kept (append-nil (fields (0 + length front) (last_after None front) f)) ∙ one),
      ap (λ (w : List SavedFrame). due program (last_after None w)) parts ∙ ap (due program) (last_of_one front f None) ∙ ap called_at waits.0.is,
    )

frames_kept : (s : State) (going : IsGoing s) → Asks (act s going.inner.row.instr) → are_kept (frames_fields s.program 0 (frames_in s None)) ≡ true
frames_kept s going asks =
    let program = s.program in
    let outer = s.outer in
    let front = reverse (map saved_frame outer) in
    let f = saved_frame (waiting s s.operands) in
    let frames = frames_in s None in
    let innermost = length outer in
    let fields = frame_fields program innermost in
    let parts : frames ≡ front ++ f ∷ [] = reverse-append (f ∷ []) (map saved_frame outer) in
    let before = outer_kept program innermost s.function outer going.outer (omega arith) in
    let len : length front ≡ length outer = length-reverse (map saved_frame outer) ∙ length-map outer saved_frame in
    let all : length frames - 1 ≡ innermost = omega (arith, length-reverse (f ∷ map saved_frame outer), length-map outer saved_frame) in
    let last : (0 + length front == innermost) ≡ true = eq-eqb (0 + length front) innermost (omega (arith, len)) in
    let one : are_kept (fields (0 + length front) (last_after None front) f) ≡ true = rw (last, before.1) (inner_kept s going asks) in
    ap (λ (n : ℕ). are_kept (numbered (frame_fields program n) 0 None frames)) all
    ∙ ap (λ (w : List SavedFrame). are_kept (numbered fields 0 None w)) parts
    ∙ ap are_kept (numbered_append fields 0 None front (f ∷ []))
    ∙ kept_append (numbered fields 0 None front) (numbered fields (0 + length front) (last_after None front) (f ∷ [])) before.0
    (ap are_kept (append-nil (fields (0 + length front) (last_after None front) f)) ∙ one)

-- ---- the whole

fault_kept : (fault : Fault) → is_fault 2 (fault_number fault) ≡ true
fault_kept Fault.Overflow = refl
fault_kept Fault.DivZero = refl
fault_kept Fault.Shift = refl
fault_kept Fault.Index = refl
fault_kept Fault.Depth = refl
fault_kept Fault.Unbound = refl
fault_kept Fault.Held = refl
fault_kept Fault.NotHeld = refl

own_kept : (program : Program) (own : List ℤ) → length own ≡ program.private_cells → are_kept (own_fields program own) ≡ true
own_kept program own len = rw (eq-eqb (length own) program.private_cells len, any_values (length own) 0 None own) refl

-- the instruction at which a state goes on wants something
act_asks : (s : State) (going : IsGoing s) → Asks (step_in s None) → Asks (act s going.inner.row.instr)
act_asks s going asks = subst (λ (o : Option Row). Asks (act_at s o)) going.inner.is asks

kept_in : (s : State) (life : Option Over) → IsTypedIn s life → Asks (step_in s life) → IsOverIn s life
    → are_kept (saved_fields s.program (record { way = way_of life; fault = fault_of life; line = line_of life; own = s.own; frames = frames_in s life })) ≡ true
kept_in s None going asks over =
    kept_append (own_fields s.program s.own) (frames_fields s.program 0 (frames_in s None)) (own_kept s.program s.own going.own) (frames_kept s going (act_asks s going asks))
kept_in s (Some ended) typed asks over = kept_append (own_fields s.program s.own) [] (own_kept s.program s.own over.0) refl
kept_in s (Some (stopped fault line)) typed asks over = rw (fault_kept fault) (kept_append (own_fields s.program s.own) [] (own_kept s.program s.own over.0) refl)

-- what is saved of a state keeps all ranges
pub saved_kept : (program : Program) (s : State) → IsState program s → are_kept (saved_fields program (saved_of s)) ≡ true
saved_kept program s is = subst (λ (p : Program). are_kept (saved_fields p (saved_of s)) ≡ true) is.program_is (kept_in s s.life is.typed is.asks is.over)

shaped_in : (s : State) (life : Option Over) → HasFrames (way_of life) (frames_in s life)
shaped_in s None = let frames = map saved_frame (waiting s s.operands ∷ s.outer) in omega (arith, length-reverse frames)
shaped_in s (Some ended) = refl
shaped_in s (Some (stopped fault line)) = refl

pub saved_shaped : (s : State) → IsShaped (saved_of s)
saved_shaped s = shaped_in s s.life

-- ---- the state that goes on from what was saved

-- a function is under way again
opened_saved : (program : Program) (f : Frame) → (function_at program f.function).slots ≡ length f.slots → opened program (saved_frame f) ≡ f
opened_saved program f slots =
    let taken : take (function_at program f.function).slots (f.slots ++ reverse f.operands) ≡ f.slots = take_at f.slots (reverse f.operands) (function_at program f.function).slots (sym slots) in
    let dropped : drop (function_at program f.function).slots (f.slots ++ reverse f.operands) ≡ reverse f.operands = drop_at f.slots (reverse f.operands) (function_at program f.function).slots (sym slots) in
    rw (taken, dropped, reverse-reverse f.operands) refl

outer_opened : (program : Program) (callee : ℕ) (outer : List Frame) → AllWait program callee outer → map (opened program) (map saved_frame outer) ≡ outer
outer_opened program callee [] waits = refl
outer_opened program callee (caller ∷ outer) waits =
    let one = opened_saved program caller waits.0.slots_are in
    let more = outer_opened program caller.function outer waits.1 in
    ap (λ (f : Frame). f ∷ map (opened program) (map saved_frame outer)) one ∙ ap (λ (w : List Frame). caller ∷ w) more

goes_on : (s : State) → IsGoing s → going_with s.program s.own (map (opened s.program) (reverse (frames_in s None))) ≡ record s { life = None }
goes_on s going =
    let inner = waiting s s.operands in
    let frames = map saved_frame (inner ∷ s.outer) in
    let all : map (opened s.program) (reverse (reverse frames)) ≡ inner ∷ s.outer =
    ap (map (opened s.program)) (reverse-reverse frames)
    ∙ ap (λ (f : Frame). f ∷ map (opened s.program) (map saved_frame s.outer)) (opened_saved s.program inner going.inner.slots_are)
    ∙ ap (λ (w : List Frame). inner ∷ w) (outer_opened s.program s.function s.outer going.outer) in
    ap (going_with s.program s.own) all

numbered_back : (fault : Fault) → numbered_fault (fault_number fault) ≡ fault
numbered_back Fault.Overflow = refl
numbered_back Fault.DivZero = refl
numbered_back Fault.Shift = refl
numbered_back Fault.Index = refl
numbered_back Fault.Depth = refl
numbered_back Fault.Unbound = refl
numbered_back Fault.Held = refl
numbered_back Fault.NotHeld = refl

again_in : (s : State) (life : Option Over) → IsTypedIn s life → IsOverIn s life
    → state_of s.program (record { way = way_of life; fault = fault_of life; line = line_of life; own = s.own; frames = frames_in s life }) ≡ record s { life = life }
again_in s None going over = goes_on s going
again_in s (Some ended) typed over = sym (ap (λ (t : State). record t { life = Some ended }) over.1)
again_in s (Some (stopped fault line)) typed over =
    ap (λ (f : Fault). bare s.program s.own (stopped f line)) (numbered_back fault) ∙ sym (ap (λ (t : State). record t { life = Some (stopped fault line) }) over.1)

-- what is saved of a state gives it back
pub state_again : (program : Program) (s : State) → IsState program s → state_of program (saved_of s) ≡ s
state_again program s is = subst (λ (p : Program). state_of p (saved_of s) ≡ s) is.program_is (again_in s s.life is.typed is.over)
