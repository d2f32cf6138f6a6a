use Rattle.std.proofs.Common.{◌≡◌, ◌++◌, drop}
use Rattle.dsm_records.specs.Outputs.{lines_of}
use Rattle.dsm_records.proofs.lines.lines_of.Given as goal

-- the lines so far stand before those of what is left
abbrev pub invariant-loop-record : goal.invariant-loop-record
invariant-loop-record l = l.lines ++ lines_of (drop l.record-index l.record-items) ≡ lines_of l.record-items
