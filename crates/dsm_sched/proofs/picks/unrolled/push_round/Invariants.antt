use Rattle.std.proofs.Common.{◌≡◌, ◌++◌}
use Rattle.dsm_sched.specs.Picks.{round_of}
use Rattle.dsm_sched.proofs.picks.unrolled.push_round.Given as goal

abbrev pub invariant-loop-p : goal.invariant-loop-p
invariant-loop-p l = l.all ≡ l.fn.all ++ round_of l.p
