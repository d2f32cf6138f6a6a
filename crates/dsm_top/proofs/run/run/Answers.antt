use Rattle.std.proofs.Common.{ℕ, List, inl, inr, refl, reverse}
use Rattle.dsm_base.specs.declared.setup.Setup.{Setup}
use Rattle.dsm_check.specs.CheckedViews.{program_of}
use Rattle.dsm_net.specs.Fits.{Done}
use Rattle.dsm_network.specs.World.{setup_of}
use Rattle.dsm_sched.specs.ScheduleTexts.{units_of as acts_of}
use Rattle.dsm_top.specs.Ended.{Left}
use Rattle.dsm_top.proofs.Runs.{ran_whole, cut_by, is_setup_still, first_still}
use Rattle.dsm_top.proofs.Schedules.{some_procs, all_within}
use Rattle.dsm_top.proofs.run.run.Goals.{in-Ok-go_through, in-Err}
use Rattle.dsm_top.proofs.run.run.Goals as goal

pub start-requires : goal.start-requires
start-requires g c = some_procs c.args.prepared.schedule

pub go_through-requires-clause-procs : goal.go_through-requires-clause-procs
go_through-requires-clause-procs g c = c.in-Ok.ensures.setup.procs

pub returns : goal.returns
returns g c =
    let program = program_of c.args.prepared.program in
    let schedule = acts_of c.args.prepared.schedule in
    let world = c.go_through.new.world in
    let procs = c.args.prepared.schedule.procs in
    let same = c.go_through.ensures.same in
    let is_setup = is_setup_still program procs c.in-Ok.world world same c.in-Ok.ensures.setup in
    let first = first_still program c.in-Ok.world world same c.in-Ok.ensures.first in
    let same_units = λ (procs : ℕ) (setup : Setup) (done : List Done). c.compiled_has_runs_of_tree.ensures.units program procs setup done c.in-Ok.ensures.valid in
    let units_within = all_within (setup_of world) c.args.prepared.schedule is_setup.procs in
    let left : Left = record {
      before = g.K.Sink.sink_holds c.args.out.now;
      after = g.K.Sink.sink_holds c.go_through.new.out;
      faults_before = g.K.Sink.sink_faults c.args.out.now;
      faults_after = g.K.Sink.sink_faults c.go_through.new.out;
      trace = reverse c.into_trace.result;
      units = c.units-units.result;
    } in
    elim c.match-go_through.branch [
      | in-Ok-go_through w ↦
          rw (w.status-is)
          (inr (ran_whole program procs schedule c.laws.ensures c.output.ensures same_units c.args.prepared.asked world left is_setup first units_within c.go_through.ensures.count c.into_trace.ensures c.units-units.ensures c.own_parts.ensures.own c.own_parts.ensures.labels
          w.in-Ok-go_through.ensures.made w.finished.result w.from-status.result w.finished.ensures w.from-status.ensures w.in-Ok-go_through.ensures.all w.in-Ok-go_through.ensures.wrote))
      | in-Err w ↦ rw (w.status-is, w.from-status-in-Err.ensures)
          (inr (cut_by program procs schedule c.laws.ensures c.output.ensures same_units c.args.prepared.asked world left is_setup first units_within c.go_through.ensures.count c.into_trace.ensures c.units-units.ensures
          c.go_through.ensures.fits w.in-Err.error w.in-Err.ensures.cut w.in-Err.ensures.cause.rose))
    ]

pub returns-in_default : goal.returns-in_default
returns-in_default g c = rw (c.untraced.ensures) (inl (record { is_memory = refl; nothing = refl }, refl, refl))
