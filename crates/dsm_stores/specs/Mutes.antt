-- What a mute store gives of the store behind it.
use Rattle.std.specs.Prelude.{ℕ, ◌+◌, ◌/◌, ◌%◌, ◌==◌, if◌then◌else◌, List, Option, Some, None, slice_index, slice_set}

-- a block of a slot as it is read: one byte of the slot is raised by one modulo 256, if one is to be
abbrev pub raised : Option ℕ → ℕ → List ℕ → List ℕ
raised None block bytes = bytes
raised (Some at) block bytes =
    if at / 512 == block
    then slice_set bytes (at % 512) ((slice_index bytes (at % 512) + 1) % 256)
    else bytes
