use Rattle.std.proofs.Common.{◌≡◌, ◌≤◌, ◌-◌, length, take}
use Rattle.dsm_base.specs.Output.{printed_lines}
use Rattle.dsm_base.specs.Sink.{appended}
use Rattle.dsm_sched.specs.PickTexts.{picked}
use Rattle.dsm_plain.specs.Machine.{IsWhole}
use Rattle.dsm_top.specs.PickRuns.{program_run}
use Rattle.dsm_top.specs.PlainRuns.{program_in, IsAt}
use Rattle.dsm_top.proofs.plain.apply_picks.Given as goal

-- the picks so far were applied, their lines were written, and no call has failed
abbrev pub invariant-picks : goal.invariant-picks
invariant-picks g l = record {
  whole : IsWhole l.run.machine;
  at : IsAt (program_in l.fn.run) l.fn.run.machine.setup l.run (program_run (program_in l.fn.run) l.fn.run.machine.setup (take l.run.units (picked l.picks)));
  within : l.run.units ≤ length (picked l.picks);
  wrote : g.K.Sink.sink_holds l.out ≡ appended (g.K.Sink.sink_holds l.fn.out) (printed_lines (program_run (program_in l.fn.run) l.fn.run.machine.setup (take l.run.units (picked l.picks))));
  later : g.K.Sink.sink_faults l.fn.out ≤ g.K.Sink.sink_faults l.out;
}

abbrev pub decreases-picks : goal.decreases-picks
decreases-picks g l = length (picked l.picks) - l.run.units
