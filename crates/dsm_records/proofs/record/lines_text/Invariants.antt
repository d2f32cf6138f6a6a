use Rattle.std.proofs.Common.{◌≡◌, ◌++◌, drop}
use Rattle.std.specs.Prelude.{string_bytes}
use Rattle.dsm_records.specs.Texts.{line_numbers, lines_text}
use Rattle.dsm_records.proofs.record.lines_text.Given as goal

-- the numbers so far stand before those of what is left
abbrev pub invariant-loop-line : goal.invariant-loop-line
invariant-loop-line l = string_bytes l.text ++ line_numbers (drop l.line-index l.line-items) ≡ lines_text l.line-items
