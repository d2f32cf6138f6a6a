-- The room that was made in the slots of a folder.
use Rattle.std.specs.Prelude.{ℕ, List, slice_index}

-- for how many blocks of a slot room was made
abbrev pub room_of : List ℕ → ℕ → ℕ
room_of rooms slot = slice_index rooms slot
