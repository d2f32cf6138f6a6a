-- Reading from left to right, with the first fault that is met: what the readers of the code give.
use Rattle.std.specs.Prelude.{◌≡◌, ℕ, ℤ, zero, suc, Bool, true, false, nat_lt, if◌then◌else◌, List, [], ◌∷◌, length, take, drop, Option, Some, None, Result, Ok, Err}
use Rattle.std.specs.Int.{w64, cast_signed}
use Rattle.byteorder.specs.Endian.{big_number}
use Rattle.dsm_base.specs.declared.names.Mode.{Mode}
use Rattle.dsm_base.specs.declared.names.Mode.TheVariants.{Shared, Excl}
use Rattle.dsm_fields.specs.declared.error.FieldErr.{FieldErr}
use Rattle.dsm_fields.specs.declared.error.FieldErr.TheVariants as errors

-- the bytes end within a field, or a field isn't fit; either way it begins where so many bytes are left
pub data Fault : Type 0 where
  Cut : ℕ → Fault
  Broken : ℕ → Fault

-- a value and the bytes behind it, or the first fault
abbrev pub Read : Type 0 → Type 0
Read A = Result (A × List ℕ) Fault

-- the value, where it was read
abbrev pub then_with : {A B : Type 0} → Read A → (A → List ℕ → Read B) → Read B
then_with (Ok x) next = next x.0 x.1
then_with (Err fault) next = Err fault

-- the fault that a function returned is the one that reading gives, unless memory ran out
abbrev pub Fails : {A : Type 0} → FieldErr → Read A → Type 0
Fails errors.Memory read = Unit {0}
Fails (errors.Short left) read = read ≡ Err (Cut left)
Fails (errors.Broken left) read = read ≡ Err (Broken left)

-- what a function returned is what reading gives, unless memory ran out
abbrev pub Gives : {A B : Type 0} → (A → B × List ℕ) → Result A FieldErr → Read B → Type 0
Gives view (Ok x) read = read ≡ Ok (view x)
Gives view (Err error) read = Fails error read

-- a number of so many bytes
unfoldable pub number_at : ℕ → List ℕ → Read ℕ
number_at width bytes = if nat_lt (length bytes) width then Err (Cut (length bytes)) else Ok (big_number width (take width bytes), drop width bytes)

-- one byte
unfoldable pub byte_at : List ℕ → Read ℕ
byte_at [] = Err (Cut 0)
byte_at (byte ∷ bytes) = Ok (byte, bytes)

-- a signed number of eight bytes
unfoldable pub signed_at : List ℕ → Read ℤ
signed_at bytes = if nat_lt (length bytes) 8 then Err (Cut (length bytes)) else Ok (cast_signed w64 (big_number 8 (take 8 bytes)), drop 8 bytes)

-- so many bytes of text
unfoldable pub text_at : ℕ → List ℕ → Read (List ℕ)
text_at count bytes = if nat_lt (length bytes) count then Err (Cut (length bytes)) else Ok (take count bytes, drop count bytes)

-- the byte of a mode; no mode is the field's place
unfoldable pub mode_at : List ℕ → Read Mode
mode_at [] = Err (Cut 0)
mode_at (zero ∷ bytes) = Ok (Shared, bytes)
mode_at (suc zero ∷ bytes) = Ok (Excl, bytes)
mode_at (suc (suc byte) ∷ bytes) = Err (Broken (length (suc (suc byte) ∷ bytes)))

-- the byte of an answer to yes or no; another is the field's place
unfoldable pub bool_at : List ℕ → Read Bool
bool_at [] = Err (Cut 0)
bool_at (zero ∷ bytes) = Ok (false, bytes)
bool_at (suc zero ∷ bytes) = Ok (true, bytes)
bool_at (suc (suc byte) ∷ bytes) = Err (Broken (length (suc (suc byte) ∷ bytes)))

-- a value that is fit, or the field's place
abbrev pub kept : {A : Type 0} → (A → Bool) → (List ℕ → Read A) → List ℕ → Read A
kept ok read bytes = then_with (read bytes) (λ value rest. if ok value then Ok (value, rest) else Err (Broken (length bytes)))

-- so many entries, each judged by the one before it
unfoldable pub entries_at : {A : Type 0} → (Option A → List ℕ → Read A) → Option A → ℕ → List ℕ → Read (List A)
entries_at item_at last zero bytes = Ok ([], bytes)
entries_at item_at last (suc count) bytes =
    then_with (item_at last bytes) (λ item bytes.
    then_with (entries_at item_at (Some item) count bytes) (λ items bytes.
    Ok (item ∷ items, bytes)))

-- so many entries that are numbered from here on, each judged by its number and the one before it
unfoldable pub numbered_at : {A : Type 0} → (ℕ → Option A → List ℕ → Read A) → ℕ → Option A → ℕ → List ℕ → Read (List A)
numbered_at item_at at last zero bytes = Ok ([], bytes)
numbered_at item_at at last (suc count) bytes =
    then_with (item_at at last bytes) (λ item bytes.
    then_with (numbered_at item_at (suc at) (Some item) count bytes) (λ items bytes.
    Ok (item ∷ items, bytes)))

-- a count, and so many entries
unfoldable pub counted_at : {A : Type 0} → (Option A → List ℕ → Read A) → List ℕ → Read (List A)
counted_at item_at bytes = then_with (number_at 4 bytes) (λ count bytes. entries_at item_at None count bytes)
