-- One line is a list of lines.
use Rattle.std.proofs.Common.{◌≡◌, ℕ, ℤ, true, [], ◌∷◌, arith}
use Rattle.dsm_lines.specs.LineLists.{are_lines}

pub is_one_line : (number : ℕ) (value : ℤ) → are_lines (record { number = number; values = value ∷ [] } ∷ []) ≡ true
is_one_line number value = grind arith
