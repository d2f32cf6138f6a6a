-- The letters under way, as a list for each sender, of a list for each receiver.
use Rattle.std.specs.Prelude.{◌≡◌, ℕ, ◌<◌, List, [], length}
use Rattle.std.specs.List.{slice_index_or, slice_set}
use Rattle.dsm_net.specs.declared.trace.Letter.{Letter}

-- the letters from one to another, the oldest first
abbrev pub under_way : List (List (List Letter)) → ℕ → ℕ → List Letter
under_way channels from to = slice_index_or (slice_index_or channels from []) to []

-- between how many processors there are channels
abbrev pub proc_count : List (List (List Letter)) → ℕ
proc_count channels = length channels

-- each sender has a channel to each
abbrev pub AreSquare : List (List (List Letter)) → Type 0
AreSquare channels = (p : ℕ) → p < length channels → length (slice_index_or channels p []) ≡ length channels

-- one channel replaced
abbrev pub with_channel : List (List (List Letter)) → ℕ → ℕ → List Letter → List (List (List Letter))
with_channel channels from to letters = slice_set channels from (slice_set (slice_index_or channels from []) to letters)
