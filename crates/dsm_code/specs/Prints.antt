-- Parts of prints that make lines.
use Rattle.std.specs.Prelude.{◌≤◌, List, sum_by}
use Rattle.std.specs.List.{All}
use Rattle.dsm_base.specs.Output.{ArePrintable}
use Rattle.dsm_code.specs.declared.parts.PrintPart.{PrintPart}
use Rattle.dsm_code.specs.Valid.{part_bytes}

-- a string is printable
abbrev pub WritesPrintable : PrintPart → Type 0
WritesPrintable (PrintPart.Text text) = ArePrintable text
WritesPrintable PrintPart.Value = Unit {0}

-- the parts make at most 256 bytes, all of them printable
pub record IsPrint (parts : List PrintPart) : Type 0 where
  pub short : sum_by part_bytes parts ≤ 256
  pub printable : All WritesPrintable parts
