use Rattle.std.proofs.Common.{◌≡◌, ◌++◌, drop}
use Rattle.dsm_acqlog.specs.Tails.{unsafe_lines}
use Rattle.dsm_acqlog.proofs.tail.copy_unsafe.Given as goal

abbrev pub invariant-loop-line : goal.invariant-loop-line
invariant-loop-line l = l.left ++ unsafe_lines l.records (drop l.line-index l.lines) ≡ unsafe_lines l.records l.lines
