-- Marks of lines.
use Rattle.std.specs.Prelude.{ℕ, Bool, List, filter}
use Rattle.std.specs.List.{range_with_len}
use Rattle.dsm_lines.specs.declared.marks.DirtyBits.{DirtyBits}
use Rattle.dsm_lines.specs.Bits.{is_bit}

-- whether a line is marked
abbrev pub marks_in : DirtyBits → ℕ → Bool
marks_in bits = is_bit bits.words

-- the marked lines, rising
abbrev pub marked_lines : DirtyBits → List ℕ
marked_lines bits = filter (marks_in bits) (range_with_len 0 bits.lines)
