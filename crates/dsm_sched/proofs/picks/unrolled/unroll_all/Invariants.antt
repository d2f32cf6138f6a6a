use Rattle.std.proofs.Common.{◌≡◌, take}
use Rattle.dsm_sched.specs.Picks.{picked_by}
use Rattle.dsm_sched.proofs.picks.unrolled.unroll_all.Given as goal

abbrev pub invariant-loop-entry : goal.invariant-loop-entry
invariant-loop-entry l = l.all ≡ picked_by l.procs (take l.entry-index l.entries)
