-- Bytes with their length and digest, filled up with zeros.
use Rattle.std.specs.Prelude.{◌≡◌, ◌≢◌, ℕ, ◌+◌, ◌-◌, ◌%◌, ◌<◌, ◌≤◌, List, ◌++◌, length, take, drop, replicate, slice_get}
use Rattle.byteorder.specs.Endian.{big_number}
use Rattle.sha2.specs.Sha256.{sha256}

-- the four bytes `DSM1` as a number
abbrev pub magic : ℕ
magic = 0x44534D31

-- the number behind the first four bytes, which tells how many bytes stand before the digest
abbrev pub size_in : List ℕ → ℕ
size_in bytes = big_number 4 (take 4 (drop 4 bytes))

-- the length and the digest fit into the bytes
pub record IsRoomy (bytes : List ℕ) : Type 0 where
  pub header : 8 ≤ length bytes
  pub digest : size_in bytes + 32 ≤ length bytes

-- all bytes before the digest
abbrev pub front_of : List ℕ → List ℕ
front_of bytes = take (size_in bytes) bytes

-- the digest that is kept
abbrev pub kept_in : List ℕ → List ℕ
kept_in bytes = take 32 (drop (size_in bytes) bytes)

-- the bytes behind the digest
abbrev pub behind_in : List ℕ → List ℕ
behind_in bytes = drop 32 (drop (size_in bytes) bytes)

-- the digest that is kept is that of the bytes before it
pub record IsSealed (bytes : List ℕ) : Type 0 where
  pub room : IsRoomy bytes
  pub same : kept_in bytes ≡ sha256 (front_of bytes)

-- how many bytes fill so many and a digest up to the next multiple of 512
abbrev pub zero_count : ℕ → ℕ
zero_count size = 511 - (size + 31) % 512

-- the zeros that follow so many bytes and a digest
abbrev pub zeros_behind : ℕ → List ℕ
zeros_behind size = replicate (zero_count size) 0

-- bytes with their digest and the zeros behind it
abbrev pub sealed : List ℕ → List ℕ
sealed front = front ++ (sha256 front ++ zeros_behind (length front))

-- the first place at which two lists differ, or one of them ends
pub record IsFirstOther (at : ℕ) (found due : List ℕ) : Type 0 where
  pub same : (i : ℕ) → i < at → slice_get found i ≡ slice_get due i
  pub other : slice_get found at ≢ slice_get due at
