use Rattle.std.proofs.Common.{◌≡◌, drop}
use Rattle.dsm_barrier.specs.Joined.{with_lines}
use Rattle.dsm_replay.proofs.merged.Merged.add.Given as goal

-- with those that are still to come it is what all make of it
abbrev pub invariant-loop-line : goal.invariant-loop-line
invariant-loop-line l = with_lines l.self (drop l.line-index l.lines) ≡ with_lines l.fn.self l.lines
