-- A saved thread as fields, each judged by the code and by what stands before it.
use Rattle.std.specs.Prelude.{◌≡◌, ℕ, zero, suc, ℤ, ◌-◌, ◌≤◌, ◌==◌, ◌||◌, nat_lt, if◌then◌else◌, Bool, true, false, List, [], ◌∷◌, ◌++◌, length, Option, Some, None}
use Rattle.dsm_code.specs.declared.parts.Row.{Row}
use Rattle.dsm_code.specs.Programs.{Program, row_at}
use Rattle.dsm_fields.specs.Fields.{Field, byte, number, signed, numbered}
use Rattle.dsm_saved.specs.declared.saved.SavedFrame.{SavedFrame}
use Rattle.dsm_saved.specs.declared.saved.Saved.{Saved}
use Rattle.dsm_saved.specs.Stops.{called, is_place, value_count, is_value}

-- a value of so many of a function at an instruction
abbrev pub value_fields : Option Row → ℕ → ℕ → Option ℤ → ℤ → List Field
value_fields row count at last value = signed value (is_value row count at last value) ∷ []

-- the function that an instruction calls, if there is one
abbrev pub called_at : Option Row → Option ℕ
called_at None = None
called_at (Some row) = called row.instr

-- the function that comes next: main at first, and then the one that the last one calls
abbrev pub due : Program → Option SavedFrame → Option ℕ
due program None = Some program.main
due program (Some frame) = called_at (row_at program frame.function frame.place)

-- it is the one that comes next
abbrev pub is_due : Option ℕ → ℕ → Bool
is_due None function = false
is_due (Some next) function = function == next

-- a function of which it is known whether it is the innermost, and which one comes next
abbrev pub known_fields : Program → Bool → Option ℕ → SavedFrame → List Field
known_fields program is_last next frame =
    let row = row_at program frame.function frame.place in
    number 2 frame.function (is_due next frame.function)
    ∷ number 4 frame.place (is_place program is_last row)
    ∷ number 2 (length frame.values) (length frame.values == value_count program is_last frame.function row)
    ∷ numbered (value_fields row (length frame.values)) 0 None frame.values

-- a function by its number from main inwards, where the innermost one has this number
abbrev pub frame_fields : Program → ℕ → ℕ → Option SavedFrame → SavedFrame → List Field
frame_fields program innermost at last frame = known_fields program (at == innermost) (due program last) frame

-- the functions that are under way, where the thread goes on: how many wait, and then each
abbrev pub frames_fields : Program → ℕ → List SavedFrame → List Field
frames_fields program zero frames = byte (length frames - 1) true ∷ numbered (frame_fields program (length frames - 1)) 0 None frames
frames_fields program (suc way) frames = []

-- the private cells, of which there are as many as the program has
abbrev pub own_fields : Program → List ℤ → List Field
own_fields program own = number 4 (length own) (length own == program.private_cells) ∷ numbered (value_fields None (length own)) 0 None own

-- the number of a fault, where the thread has stopped; else 0
abbrev pub is_fault : ℕ → ℕ → Bool
is_fault way fault = nat_lt fault (if way == 2 then 8 else 1)

-- any line where the thread has stopped; else 0
abbrev pub is_line : ℕ → ℕ → Bool
is_line way line = (way == 2) || (line == 0)

-- how the thread came to be over, if it is
abbrev pub life_fields : ℕ → ℕ → ℕ → List Field
life_fields way fault line = byte way (nat_lt way 3) ∷ byte fault (is_fault way fault) ∷ number 4 line (is_line way line) ∷ []

-- all fields of a saved thread
abbrev pub saved_fields : Program → Saved → List Field
saved_fields program saved = life_fields saved.way saved.fault saved.line ++ (own_fields program saved.own ++ frames_fields program saved.way saved.frames)

-- there are functions under way exactly where the thread goes on
abbrev pub HasFrames : ℕ → List SavedFrame → Type 0
HasFrames zero frames = 1 ≤ length frames
HasFrames (suc way) frames = frames ≡ []

abbrev pub IsShaped : Saved → Type 0
IsShaped saved = HasFrames saved.way saved.frames
