use Rattle.std.proofs.Common.{◌≡◌, ◌++◌, replicate}
use Rattle.dsm_sched.specs.Picks.{rounds_of}
use Rattle.dsm_sched.proofs.picks.PickEntry.unroll.Given as goal

abbrev pub invariant-picks : goal.invariant-picks
invariant-picks l = l.all ≡ l.fn.all ++ replicate l.counter l.proc

abbrev pub invariant-rounds : goal.invariant-rounds
invariant-rounds l = l.all ≡ l.fn.all ++ rounds_of l.procs l.counter
