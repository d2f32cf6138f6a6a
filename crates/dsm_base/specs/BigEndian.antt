-- Big-endian numbers.
use Rattle.std.specs.Prelude.{◌≡◌, ℕ, ℤ, ◌<◌, List, length, slice_index}
use Rattle.std.specs.Int.{w64, cast_unsigned}
use Rattle.byteorder.specs.Endian.{big_bytes, big_number}

-- the eight bytes of a signed number, in two's complement
abbrev pub signed_bytes : ℤ → List ℕ
signed_bytes number = big_bytes 8 (cast_unsigned w64 number)

-- each number of the list is a byte
abbrev pub IsBytes : List ℕ → Type 0
IsBytes bytes = (i : ℕ) → slice_index bytes i < 256

-- the bytes of a number that was read are those it was read from
abbrev pub ReadsBack : Type 0
ReadsBack = (width : ℕ) (bytes : List ℕ) → length bytes ≡ width → IsBytes bytes → big_bytes width (big_number width bytes) ≡ bytes
