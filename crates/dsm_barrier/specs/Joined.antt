-- Lines in the order of their numbers.
use Rattle.std.specs.Prelude.{ℕ, Bool, false, ◌==◌, if◌then◌else◌, nat_lt, List, [], ◌∷◌}
use Rattle.dsm_lines.specs.declared.list.Line.{Line}

-- lines with one more in its place; where there is one of its number already, that one stays alone
abbrev pub with_line : List Line → Line → List Line
with_line [] line = line ∷ []
with_line (first ∷ others) line =
    if nat_lt first.number line.number
    then first ∷ with_line others line
    else if first.number == line.number then first ∷ others else line ∷ first ∷ others

-- lines with more, each in its place
abbrev pub with_lines : List Line → List Line → List Line
with_lines lines [] = lines
with_lines lines (line ∷ more) = with_lines (with_line lines line) more

-- lines in order, of each number the first
abbrev pub in_order : List Line → List Line
in_order lines = with_lines [] lines

-- whether the first line has this number
abbrev pub begins_with : List Line → ℕ → Bool
begins_with [] number = false
begins_with (first ∷ others) number = first.number == number
