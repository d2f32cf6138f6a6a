use Rattle.std.proofs.Common.{◌≡◌, ◌+◌, map}
use Rattle.std.specs.List.{range_with_len}
use Rattle.dsm_sched.specs.Schedules.{units_before}
use Rattle.dsm_sched.proofs.schedule.units.ends.Given as goal

-- the ends of the entries so far, and the last of them
abbrev pub invariant-loop-entry : goal.invariant-loop-entry
invariant-loop-entry l = record {
  ends : l.ends ≡ map (λ k. units_before l.procs l.entries (k + 1)) (range_with_len 0 l.entry-index);
  end : l.end ≡ units_before l.procs l.entries l.entry-index;
}
