-- Functions that are under way, as they are written.
use Rattle.std.proofs.Common.{◌≡◌, ◌∙◌, ℕ, ◌+◌, ◌-◌, Bool, true, List, [], ◌∷◌, ◌++◌, length, map, Option, None, refl, sym, ap, subst, arith}
use Rattle.std.specs.Prelude.{reverse, ◌==◌}
use Rattle.std.proofs.lemmas.List.{append-nil, reverse-append, map-append, length-reverse, length-map}
use Rattle.dsm_fields.specs.Fields.{Field, byte, numbered, Appends}
use Rattle.dsm_fields.proofs.Writing.{field_first, fields_first}
use Rattle.dsm_code.specs.Programs.{Program}
use Rattle.dsm_saved.specs.declared.saved.SavedFrame.{SavedFrame}
use Rattle.dsm_saved.specs.Spelling.{due, known_fields, frame_fields, frames_fields}
use Rattle.dsm_saved.specs.States.{saved_frame, frames_in}
use Rattle.dsm_saved.proofs.Writing.{last_after, numbered_append}
use Rattle.dsm_machine.specs.declared.frame.Frame as declared
use Rattle.dsm_machine.specs.declared.machine.Machine.{Machine}
use Rattle.dsm_machine.specs.Frames.{frame_of}
use Rattle.dsm_thread.specs.Saving.{kept_of}
use Rattle.dsm_machine.specs.States.{state_in}

map_reverse : {A B : Type 0} (f : A → B) (xs : List A) → map f (reverse xs) ≡ reverse (map f xs)
map_reverse f [] = refl
map_reverse f (x ∷ xs) =
    ap (map f) (reverse-append (x ∷ []) xs) ∙ map-append f (reverse xs) (x ∷ []) ∙ ap (λ w. w ++ f x ∷ []) (map_reverse f xs) ∙ sym (reverse-append (f x ∷ []) (map f xs))

kept_map : (frames : List declared.Frame) → map saved_frame (map frame_of frames) ≡ map kept_of frames
kept_map [] = refl
kept_map (f ∷ frames) = ap (λ (w : List SavedFrame). kept_of f ∷ w) (kept_map frames)

pub stack_written : (program : Program) (machine : Machine) (old one two new : List ℕ) → one ≡ old ++ length machine.outer.values ∷ []
    → ((innermost at : ℕ) (last : Option SavedFrame) → Appends (numbered (frame_fields program innermost) at last (map kept_of (reverse machine.outer.values))) one two)
    → ((is_last : Bool) (next : Option ℕ) → Appends (known_fields program is_last next (kept_of machine.frame)) two new)
    → Appends (frames_fields program 0 (frames_in (state_in machine) None)) old new
stack_written program machine old one two new first outer inner =
    let waiting = machine.outer.values in
    let frames = frames_in (state_in machine) None in
    let f = kept_of machine.frame in
    let front = map kept_of (reverse waiting) in
    let innermost = length frames - 1 in
    let fields = frame_fields program innermost in
    let parts : frames ≡ front ++ f ∷ [] =
    reverse-append (f ∷ []) (map saved_frame (map frame_of waiting))
    ∙ ap (λ (w : List SavedFrame). w ++ f ∷ []) (ap reverse (kept_map waiting) ∙ sym (map_reverse kept_of waiting)) in
    let count : length waiting ≡ innermost =
    omega (arith, length-reverse (f ∷ map saved_frame (map frame_of waiting)), length-map (map frame_of waiting) saved_frame, length-map waiting frame_of) in
    let last = inner (0 + length front == innermost) (due program (last_after None front)) in
    let both = fields_first (outer innermost 0 None) (subst (λ (w : List Field). Appends w two new) (sym (append-nil (fields (0 + length front) (last_after None front) f))) last) in
    let all = subst (λ (w : List Field). Appends w one new) (sym (numbered_append fields 0 None front (f ∷ []))) both in
    field_first (byte innermost true) (first ∙ ap (λ (n : ℕ). old ++ n ∷ []) count) refl
    (subst (λ (w : List SavedFrame). Appends (numbered fields 0 None w) one new) (sym parts) all)
