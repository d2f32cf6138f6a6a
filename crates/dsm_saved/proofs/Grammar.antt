-- Each part of a saved thread has an exact reader.
use Rattle.std.proofs.Common.{replicate, ◌≡◌, ℕ, zero, suc, ℤ, pos, ◌-◌, Bool, true, List, [], ◌∷◌, ◌++◌, length, Option, None, refl, ap, subst, arith}
use Rattle.std.specs.Prelude.{◌==◌, nat_lt}
use Rattle.std.proofs.lemmas.List.{length-replicate}
use Rattle.dsm_code.specs.declared.parts.Row.{Row}
use Rattle.dsm_code.specs.Programs.{Program, row_at}
use Rattle.dsm_fields.specs.Fields.{Any, Field, byte, number, numbered}
use Rattle.dsm_fields.specs.Reading.{byte_at, numbered_at}
use Rattle.dsm_fields.proofs.Exact.{Exact, done}
use Rattle.dsm_fields.proofs.Chain.{At, chain}
use Rattle.dsm_fields.proofs.Formats.{Has, reworded}
use Rattle.dsm_fields.proofs.Numbers.{number_exact, byte_exact, any_byte, signed_exact}
use Rattle.dsm_fields.proofs.Steps.{step, put, rest_of, known, fixed_exact}
use Rattle.dsm_saved.specs.declared.saved.SavedFrame.{SavedFrame}
use Rattle.dsm_saved.specs.declared.saved.Saved.{Saved}
use Rattle.dsm_saved.specs.Stops.{is_place, value_count, is_value}
use Rattle.dsm_saved.specs.Spelling.{value_fields, due, is_due, known_fields, frame_fields, frames_fields, own_fields, is_fault, is_line, saved_fields, HasFrames, IsShaped}
use Rattle.dsm_saved.specs.Reading.{value_at, known_at, frame_at, frames_at, own_at, saved_at}

values_exact : (row : Option Row) (count : ℕ) → Exact (Has count) (numbered (value_fields row count) 0 None) (numbered_at (value_at row count) 0 None count)
values_exact row count = fixed_exact (pos 0) (value_fields row count) (value_at row count) (λ at last. signed_exact (is_value row count at last)) count

-- ---- private cells

pub own_exact : (program : Program) → Exact Any (own_fields program) (own_at program)
unfolding own_at
own_exact program =
    step (number_exact 4 (λ count. count == program.private_cells))
    (λ count. known (λ own. numbered (value_fields None (length own)) 0 None own)
    (λ own at. ap (λ (n : ℕ). numbered (value_fields None n) 0 None own) at.same)
    (reworded (Has count) (At Any length count) (numbered (value_fields None count) 0 None) (numbered (value_fields None count) 0 None) (numbered_at (value_at None count) 0 None count)
    (λ own len. record { is = tt; same = len }) (λ own at. at.same) (λ own at. refl) (values_exact None count)))
    (λ count. (replicate count (pos 0), record { is = tt; same = length-replicate count (pos 0) }))

-- ---- functions

pub known_exact : (program : Program) (is_last : Bool) (next : Option ℕ) → Exact Any (known_fields program is_last next) (known_at program is_last next)
unfolding known_at
known_exact program is_last next =
    let made : ℕ → ℕ → List ℤ → SavedFrame = (λ function place values. record { function = function; place = place; values = values }) in
    let later : ℕ → SavedFrame → List Field = (λ function f.
    let row = row_at program function f.place in
    number 4 f.place (is_place program is_last row) ∷ number 2 (length f.values) (length f.values == value_count program is_last function row) ∷ numbered (value_fields row (length f.values)) 0 None f.values) in
    let last : ℕ → ℕ → SavedFrame → List Field = (λ function place f.
    let row = row_at program function place in
    number 2 (length f.values) (length f.values == value_count program is_last function row) ∷ numbered (value_fields row (length f.values)) 0 None f.values) in
    step (number_exact 2 (is_due next))
    (λ function. known (λ f. later f.function f) (λ f at. ap (λ (n : ℕ). later n f) at.same)
    (step (number_exact 4 (λ place. is_place program is_last (row_at program function place)))
    (λ place. known (λ f. last function f.place f) (λ f at. ap (λ (n : ℕ). last function n f) at.same)
    (step (number_exact 2 (λ count. count == value_count program is_last function (row_at program function place)))
    (λ count. known (λ f. numbered (value_fields (row_at program function place) (length f.values)) 0 None f.values)
    (λ f at. ap (λ (n : ℕ). numbered (value_fields (row_at program function place) n) 0 None f.values) at.same)
    (rest_of (At (At (At Any (λ f. f.function) function) (λ f. f.place) place) (λ f. length f.values) count) (λ f. f.values) (made function place) (values_exact (row_at program function place) count)
    (λ values len. record { is = put (put tt); same = len }) (λ values. refl) (λ f at. at.same) (λ f at. rw (← at.is.same, ← at.is.is.same) refl)))
    (λ count. (made function place (replicate count (pos 0)), record { is = put (put tt); same = length-replicate count (pos 0) }))))
    (λ place. (made function place [], put (put tt)))))
    (λ function. (made function 0 [], put tt))

pub frame_exact : (program : Program) (innermost at : ℕ) (last : Option SavedFrame) → Exact Any (frame_fields program innermost at last) (frame_at program innermost at last)
frame_exact program innermost at last = known_exact program (at == innermost) (due program last)

abbrev no_frame : SavedFrame
no_frame = record { function = 0; place = 0; values = [] }

nothing_is : (frames : List SavedFrame) → frames ≡ [] → frames ≡ []
nothing_is frames is = is

pub frames_exact : (program : Program) (way : ℕ) → Exact (HasFrames way) (frames_fields program way) (frames_at program way)
unfolding frames_at
frames_exact program (suc way) = done (HasFrames (suc way)) [] refl nothing_is
frames_exact program zero =
    let count : List SavedFrame → ℕ = (λ frames. length frames - 1) in
    let back : List SavedFrame → List Field = (λ frames. numbered (frame_fields program (length frames - 1)) 0 None frames) in
    chain Any (λ n. byte n true ∷ []) byte_at (HasFrames 0) count back (λ innermost bytes. numbered_at (frame_at program innermost) 0 None (suc innermost) bytes) any_byte
    (λ innermost is fit. reworded (Has (suc innermost)) (At (HasFrames 0) count innermost) (numbered (frame_fields program innermost) 0 None) back (numbered_at (frame_at program innermost) 0 None (suc innermost))
    (λ frames len. record { is = omega (arith, len); same = omega (arith, len) })
    (λ frames at. omega (arith, at.is, at.same))
    (λ frames at. ap (λ (n : ℕ). numbered (frame_fields program n) 0 None frames) at.same)
    (fixed_exact no_frame (frame_fields program innermost) (frame_at program innermost) (frame_exact program innermost) (suc innermost)))
    (λ innermost is. (replicate (suc innermost) no_frame, record { is = omega (arith, length-replicate (suc innermost) no_frame); same = omega (arith, length-replicate (suc innermost) no_frame) }))
    (λ frames is. tt)

-- ---- the whole

-- some frames, where there have to be some
abbrev some_frames : ℕ → List SavedFrame
some_frames zero = no_frame ∷ []
some_frames (suc way) = []

are_some : (way : ℕ) → HasFrames way (some_frames way)
are_some zero = omega arith
are_some (suc way) = refl

pub saved_exact : (program : Program) → Exact IsShaped (saved_fields program) (saved_at program)
unfolding saved_at
saved_exact program =
    let made : ℕ → ℕ → ℕ → List ℤ → List SavedFrame → Saved = (λ way fault line own frames. record { way = way; fault = fault; line = line; own = own; frames = frames }) in
    let rest : ℕ → Saved → List Field = (λ way s. own_fields program s.own ++ frames_fields program way s.frames) in
    step (byte_exact (λ way. nat_lt way 3))
    (λ way. known (λ s. byte s.fault (is_fault s.way s.fault) ∷ number 4 s.line (is_line s.way s.line) ∷ rest s.way s)
    (λ s at. ap (λ (w : ℕ). byte s.fault (is_fault w s.fault) ∷ number 4 s.line (is_line w s.line) ∷ rest w s) at.same)
    (step (byte_exact (is_fault way))
    (λ fault. step (number_exact 4 (is_line way))
    (λ line. step (own_exact program)
    (λ own. rest_of (At (At (At (At IsShaped (λ s. s.way) way) (λ s. s.fault) fault) (λ s. s.line) line) (λ s. s.own) own) (λ s. s.frames) (made way fault line own) (frames_exact program way)
    (λ frames is. put (put (put (put is)))) (λ frames. refl) (λ s at. subst (λ (w : ℕ). HasFrames w s.frames) at.is.is.is.same at.is.is.is.is) (λ s at. rw (← at.same, ← at.is.same, ← at.is.is.same, ← at.is.is.is.same) refl))
    (λ own. (made way fault line own (some_frames way), put (put (put (put (are_some way)))))))
    (λ line. (made way fault line [] (some_frames way), put (put (put (are_some way))))))
    (λ fault. (made way fault 0 [] (some_frames way), put (put (are_some way))))))
    (λ way. (made way 0 0 [] (some_frames way), put (are_some way)))
