-- Texts of lines that grow.
use Rattle.std.specs.Prelude.{ℕ, ◌+◌, ◌≤◌, List, length}
use Rattle.dsm_base.specs.Output.{ArePrintable}

-- a text has become longer by at most so many bytes, and is printable where it was
abbrev pub Grows : ℕ → List ℕ → List ℕ → Type 0
Grows most text longer = (length longer ≤ length text + most) × (ArePrintable text → ArePrintable longer)
