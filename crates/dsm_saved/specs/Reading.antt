-- Reading saved threads from left to right: what the readers of the code give.
use Rattle.std.specs.Prelude.{ℕ, zero, suc, ℤ, ◌==◌, nat_lt, Bool, List, [], Option, None, Ok}
use Rattle.dsm_code.specs.declared.parts.Row.{Row}
use Rattle.dsm_code.specs.Programs.{Program, row_at}
use Rattle.dsm_fields.specs.Reading.{Read, then_with, kept, byte_at, number_at, signed_at, numbered_at}
use Rattle.dsm_saved.specs.declared.saved.SavedFrame.{SavedFrame}
use Rattle.dsm_saved.specs.declared.saved.Saved.{Saved}
use Rattle.dsm_saved.specs.Stops.{is_place, value_count, is_value}
use Rattle.dsm_saved.specs.Spelling.{due, is_due, is_fault, is_line}

-- a value of so many of a function at an instruction
abbrev pub value_at : Option Row → ℕ → ℕ → Option ℤ → List ℕ → Read ℤ
value_at row count at last bytes = kept (is_value row count at last) signed_at bytes

unfoldable pub known_at : Program → Bool → Option ℕ → List ℕ → Read SavedFrame
known_at program is_last next bytes =
    then_with (kept (is_due next) (number_at 2) bytes) (λ function bytes.
    then_with (kept (λ place. is_place program is_last (row_at program function place)) (number_at 4) bytes) (λ place bytes.
    then_with (kept (λ count. count == value_count program is_last function (row_at program function place)) (number_at 2) bytes) (λ count bytes.
    then_with (numbered_at (value_at (row_at program function place) count) 0 None count bytes) (λ values bytes.
    Ok (record { function = function; place = place; values = values }, bytes)))))

-- a function by its number from main inwards, where the innermost one has this number
abbrev pub frame_at : Program → ℕ → ℕ → Option SavedFrame → List ℕ → Read SavedFrame
frame_at program innermost at last bytes = known_at program (at == innermost) (due program last) bytes

unfoldable pub frames_at : Program → ℕ → List ℕ → Read (List SavedFrame)
frames_at program zero bytes = then_with (byte_at bytes) (λ innermost bytes. numbered_at (frame_at program innermost) 0 None (suc innermost) bytes)
frames_at program (suc way) bytes = Ok ([], bytes)

unfoldable pub own_at : Program → List ℕ → Read (List ℤ)
own_at program bytes =
    then_with (kept (λ count. count == program.private_cells) (number_at 4) bytes) (λ count bytes.
    numbered_at (value_at None count) 0 None count bytes)

unfoldable pub saved_at : Program → List ℕ → Read Saved
saved_at program bytes =
    then_with (kept (λ way. nat_lt way 3) byte_at bytes) (λ way bytes.
    then_with (kept (is_fault way) byte_at bytes) (λ fault bytes.
    then_with (kept (is_line way) (number_at 4) bytes) (λ line bytes.
    then_with (own_at program bytes) (λ own bytes.
    then_with (frames_at program way bytes) (λ frames bytes.
    Ok (record { way = way; fault = fault; line = line; own = own; frames = frames }, bytes))))))
