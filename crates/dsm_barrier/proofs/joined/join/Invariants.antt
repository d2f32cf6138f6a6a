use Rattle.std.proofs.Common.{drop}
use Rattle.dsm_barrier.proofs.Joining.{IsJoining}
use Rattle.dsm_barrier.proofs.joined.join.Given as goal

abbrev pub invariant-loop-line : goal.invariant-loop-line
invariant-loop-line l = IsJoining l.kept l.more l.joined l.rest (drop l.line-index l.more)
