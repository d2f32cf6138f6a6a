-- Which lists of lines there are.
use Rattle.std.specs.Prelude.{ℕ, ◌+◌, Bool, true, ◌&&◌, nat_lt, nat_le, List, [], ◌∷◌, length}
use Rattle.dsm_lines.specs.declared.list.Line.{Line}

-- a line has one to eight values
abbrev pub is_line : Line → Bool
is_line line = nat_lt 0 (length line.values) && nat_le (length line.values) 8

-- each number is over the one before, and the first is at least this
abbrev pub are_lines_from : ℕ → List Line → Bool
are_lines_from least [] = true
are_lines_from least (line ∷ lines) =
    is_line line && (nat_le least line.number && are_lines_from (line.number + 1) lines)

-- each line has one to eight values, and their numbers rise
abbrev pub are_lines : List Line → Bool
are_lines lines = are_lines_from 0 lines
