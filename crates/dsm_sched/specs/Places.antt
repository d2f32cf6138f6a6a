-- Where the unit of a number stands, by the ends of entries.
use Rattle.std.specs.Prelude.{ℕ, ◌<◌, ◌≤◌, zero, suc, List, length, slice_index}

-- how many units come before an entry
abbrev pub start_of : List ℕ → ℕ → ℕ
start_of ends zero = 0
start_of ends (suc place) = slice_index ends place

-- every entry before this place ends at or before the unit of this number, and every other ends behind it
pub record IsPlace (ends : List ℕ) (index place : ℕ) : Type 0 where
  pub within : place ≤ length ends
  pub passed : (k : ℕ) → k < place → slice_index ends k ≤ index
  pub ahead : (k : ℕ) → place ≤ k → k < length ends → index < slice_index ends k
