-- Code whose places fit 32 bits.
use Rattle.std.specs.Prelude.{nat_lt, ◌^◌, Bool, length}
use Rattle.std.specs.List.{list_all}
use Rattle.dsm_code.specs.Programs.{Program, Function}

-- a function has fewer than 2^32 instructions
abbrev pub is_short : Function → Bool
is_short f = nat_lt (length f.rows) (2 ^ 32)

-- so it is of each function of a program
abbrev pub are_short : Program → Bool
are_short program = list_all is_short program.functions
