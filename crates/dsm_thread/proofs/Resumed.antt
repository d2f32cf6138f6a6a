-- Saved functions that are under way again.
use Rattle.std.proofs.Common.{◌≡◌, ◌∙◌, ℕ, zero, suc, ℤ, ◌<◌, ◌≤◌, true, List, [], ◌∷◌, ◌++◌, length, map, drop, get_or, refl, sym, ap, subst, arith}
use Rattle.std.specs.Prelude.{reverse}
use Rattle.std.proofs.lemmas.List.{reverse-append, reverse-reverse, length-reverse, length-take, length-drop}
use Rattle.dsm_base.specs.Steps.{stopped}
use Rattle.dsm_code.specs.declared.instruction.Instr.{Instr}
use Rattle.dsm_code.specs.declared.parts.Row.{Row}
use Rattle.dsm_code.specs.Programs.{Program, function_at}
use Rattle.dsm_code.specs.Valid.{is_valid}
use Rattle.dsm_code.specs.Machine.{State}
use Rattle.dsm_code.specs.Typed.{IsAt, Waits, AllWait, IsGoing}
use Rattle.dsm_code.proofs.Facts.{row_fine}
use Rattle.dsm_saved.specs.declared.saved.SavedFrame.{SavedFrame}
use Rattle.dsm_saved.specs.declared.saved.Saved.{Saved}
use Rattle.dsm_saved.specs.Spelling.{HasFrames, IsShaped}
use Rattle.dsm_saved.specs.States.{numbered_fault, opened, bare, going_with, state_by, state_of, IsState}
use Rattle.dsm_thread.specs.Resuming.{CanResume, AllCanResume, within}

-- ---- there is room

can_append : (program : Program) (xs ys : List SavedFrame) → AllCanResume program xs → AllCanResume program ys → AllCanResume program (xs ++ ys)
can_append program [] ys p q = q
can_append program (f ∷ xs) ys p q = (p.0, can_append program xs ys p.1 q)

can_reverse : (program : Program) (xs : List SavedFrame) → AllCanResume program xs → AllCanResume program (reverse xs)
can_reverse program [] p = tt
can_reverse program (f ∷ xs) p =
    subst (AllCanResume program) (sym (reverse-append (f ∷ []) xs)) (can_append program (reverse xs) (f ∷ []) (can_reverse program xs p.1) (p.0, tt))

can_inner : (program : Program) (f : SavedFrame) → IsAt program f.function f.place (length (opened program f).operands) (length (opened program f).slots) → CanResume program f
can_inner program f at =
    let slots = (function_at program f.function).slots in
    record {
      slots = omega (arith, at.slots_are, length-take slots f.values);
      operands = omega (arith, at.low, length-reverse (drop slots f.values), length-drop slots f.values);
    }

can_wait : (program : Program) (callee : ℕ) (f : SavedFrame) → is_valid program ≡ true → Waits program callee (opened program f) → CanResume program f
can_wait program callee f valid w =
    let slots = (function_at program f.function).slots in
    let row : Row = record { instr = Instr.Enter callee w.line; depth = w.depth } in
    let fine = row_fine program f.function f.place row valid w.is in
    record {
      slots = omega (arith, w.slots_are, length-take slots f.values);
      operands = omega (arith, w.operands, fine.low, fine.operands, length-reverse (drop slots f.values), length-drop slots f.values);
    }

can_outer : (program : Program) (callee : ℕ) (xs : List SavedFrame) → is_valid program ≡ true → AllWait program callee (map (opened program) xs) → AllCanResume program xs
can_outer program callee [] valid waits = tt
can_outer program callee (f ∷ xs) valid waits = (can_wait program callee f valid waits.0, can_outer program f.function xs valid waits.1)

can_all : (program : Program) (own : List ℤ) (frames turned : List SavedFrame) → turned ≡ reverse frames → 1 ≤ length frames → IsState program (going_with program own (map (opened program) turned)) → AllCanResume program frames
can_all program own frames [] turn some is = absurd (omega (arith, ap length turn, length-reverse frames, some))
can_all program own frames (f ∷ xs) turn some is =
    let going : IsGoing (going_with program own (map (opened program) (f ∷ xs))) = is.typed in
    let all : AllCanResume program (f ∷ xs) = (can_inner program f going.inner, can_outer program f.function xs going.valid going.outer) in
    subst (AllCanResume program) (ap reverse turn ∙ reverse-reverse frames) (can_reverse program (f ∷ xs) all)

pub can_resume : (program : Program) (saved : Saved) (first : SavedFrame) (rest : List SavedFrame) → saved.way ≡ 0 → IsShaped saved → IsState program (state_of program saved) → saved.frames ≡ first ∷ rest → AllCanResume program (first ∷ rest)
can_resume program saved first rest going shaped is parts =
    let some : 1 ≤ length saved.frames = subst (λ (way : ℕ). HasFrames way saved.frames) going shaped in
    let all = can_all program saved.own saved.frames (reverse saved.frames) refl some (subst (λ (way : ℕ). IsState program (state_by program saved way)) going is) in
    subst (AllCanResume program) parts all

-- the one at a place
pub can_at : (program : Program) (frames : List SavedFrame) (i : ℕ) (default : SavedFrame) → AllCanResume program frames → i < length frames → CanResume program (get_or frames i default)
can_at program [] i default can lt = absurd (omega (arith, lt))
can_at program (f ∷ frames) zero default can lt = can.0
can_at program (f ∷ frames) (suc i) default can lt = can_at program frames i default can.1 (omega (arith, lt))

-- ---- one more

abbrev under_way : Program → List ℤ → List SavedFrame → State
under_way program own frames = going_with program own (map (opened program) (reverse frames))

within_is : (program : Program) (own : List ℤ) (turned : List SavedFrame) (f : SavedFrame) → 1 ≤ length turned → within (going_with program own (map (opened program) turned)) (opened program f) ≡ going_with program own (map (opened program) (f ∷ turned))
within_is program own [] f some = absurd (omega (arith, some))
within_is program own (g ∷ turned) f some = refl

pub one_more : (program : Program) (own : List ℤ) (first : SavedFrame) (front : List SavedFrame) (f : SavedFrame) (s : State) → s ≡ under_way program own (first ∷ front) → within s (opened program f) ≡ under_way program own (first ∷ (front ++ f ∷ []))
one_more program own first front f s is =
    let turned = reverse (first ∷ front) in
    ap (λ (t : State). within t (opened program f)) is
    ∙ within_is program own turned f (omega (arith, length-reverse (first ∷ front)))
    ∙ ap (λ (w : List SavedFrame). going_with program own (map (opened program) w)) (sym (reverse-append (first ∷ front) (f ∷ [])))

pub over_way : (program : Program) (saved : Saved) (way : ℕ) → (way ≡ 0 → ⊥) → (way ≡ 1 → ⊥) → state_by program saved way ≡ bare program saved.own (stopped (numbered_fault saved.fault) saved.line)
over_way program saved zero not_zero not_one = absurd (not_zero refl)
over_way program saved (suc zero) not_zero not_one = absurd (not_one refl)
over_way program saved (suc (suc way)) not_zero not_one = refl
