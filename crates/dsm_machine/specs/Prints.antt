-- What a part of a print writes.
use Rattle.std.specs.Prelude.{ℕ, ℤ, List}
use Rattle.std.specs.Fmt.{signed_decimal}
use Rattle.dsm_code.specs.declared.parts.PrintPart.{PrintPart}
use Rattle.dsm_code.specs.Instructions.{top, below}

-- a string, or the next value in decimal
abbrev pub part_text : PrintPart → List ℤ → List ℕ
part_text (PrintPart.Text text) values = text
part_text PrintPart.Value values = signed_decimal (top values)

-- the values that are left behind it
abbrev pub left_after : PrintPart → List ℤ → List ℤ
left_after (PrintPart.Text text) values = values
left_after PrintPart.Value values = below values
