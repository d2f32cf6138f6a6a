use Rattle.std.proofs.Common.{◌≡◌, ◌≤◌, ◌-◌, length}
use Rattle.dsm_base.specs.Sink.{appended}
use Rattle.dsm_sched.specs.ScheduleTexts.{units_of as acts_of}
use Rattle.dsm_network.specs.World.{groups_of, units_of}
use Rattle.dsm_laws_history.specs.Output.{output_of}
use Rattle.dsm_top.specs.Runs.{IsWholeWorld, IsMadeBy, IsSameRun}
use Rattle.dsm_top.proofs.run.apply_units.Given as goal

-- the units so far were applied, their lines were written, and no call has failed
abbrev pub invariant-acts : goal.invariant-acts
invariant-acts g l = record {
  whole : IsWholeWorld l.world;
  same : IsSameRun l.fn.world l.world;
  within : units_of l.world ≤ length (acts_of l.schedule);
  made : IsMadeBy (acts_of l.schedule) l.world;
  wrote : g.K.Sink.sink_holds l.out ≡ appended (g.K.Sink.sink_holds l.fn.out) (output_of (groups_of l.world));
  later : g.K.Sink.sink_faults l.fn.out ≤ g.K.Sink.sink_faults l.out;
}

abbrev pub decreases-acts : goal.decreases-acts
decreases-acts g l = length (acts_of l.schedule) - units_of l.world
