-- The lines of several versions, of each number the newest.
use Rattle.std.specs.Prelude.{ℕ, zero, suc, ◌+◌, ◌==◌, nat_lt, if◌then◌else◌, List, [], ◌∷◌, Option, find}
use Rattle.std.specs.List.{flat_map}
use Rattle.dsm_lines.specs.declared.list.Line.{Line}
use Rattle.dsm_barrier.specs.Joined.{in_order}

-- the numbers over one and up to another, the greatest first
abbrev pub falling : ℕ → ℕ → List ℕ
falling least zero = []
falling least (suc n) = if nat_lt least (n + 1) then (n + 1) ∷ falling least n else []

-- the lines of the versions over one and up to another, in order, of each number the one of the greatest version
abbrev pub newest_lines : (ℕ → List Line) → ℕ → ℕ → List Line
newest_lines lines_of over upto = in_order (flat_map lines_of (falling over upto))

-- the first line of a number
abbrev pub line_numbered : ℕ → List Line → Option Line
line_numbered number lines = find (λ line. line.number == number) lines
