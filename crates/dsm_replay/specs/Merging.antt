-- Lines by their numbers.
use Rattle.std.specs.Prelude.{ℕ, ℤ, List}
use Rattle.dsm_lines.specs.declared.list.Line.{Line}

-- the line of a number with these values
abbrev pub line_of : ℕ × List ℤ → Line
line_of entry = record { number = entry.0; values = entry.1 }
