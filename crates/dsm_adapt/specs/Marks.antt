-- The bytes of a mark.
use Rattle.std.specs.Prelude.{◌≢◌, ℕ, ◌<◌, ◌^◌, List, ◌∷◌}
use Rattle.byteorder.specs.Endian.{big_bytes}
use Rattle.dsm_base.specs.Store.{IsMark}

-- a byte for the slot, and four for the number of its blocks, the highest first
abbrev pub mark_bytes : ℕ × ℕ → List ℕ
mark_bytes mark = mark.0 ∷ big_bytes 4 mark.1

-- these are the bytes of no mark with a number of blocks that four bytes hold
abbrev pub IsNoMark : List ℕ → Type 0
IsNoMark bytes = (mark : ℕ × ℕ) → IsMark mark → mark.1 < 2 ^ 32 → bytes ≢ mark_bytes mark
