use Rattle.std.proofs.Common.{inl}
use Rattle.std.proofs.lemmas.Result.{err_from_is_err_and}
use Rattle.dsm_network.specs.World.{groups_of}
use Rattle.dsm_sched.specs.ScheduleTexts.{units_of as acts_of}
use Rattle.dsm_laws_history.specs.Output.{output_of}
use Rattle.dsm_top.specs.Runs.{HasAll, shown_of}
use Rattle.dsm_top.proofs.Faults.{cause_since}
use Rattle.dsm_top.proofs.Showing.{showing_whole, showing_cut}
use Rattle.dsm_top.proofs.run.go_through.Goals as goal

pub returns-in_err-apply_units-clause-cut : goal.returns-in_err-apply_units-clause-cut
returns-in_err-apply_units-clause-cut g c =
    let p = err_from_is_err_and c.from_residual.result c.from_residual.ensures.1 in
    rw (p.1, p.2) (inl c.in_err-apply_units.ensures.cut)

pub returns-clause-wrote : goal.returns-clause-wrote
returns-clause-wrote g c =
    let world = c.apply_units.new.world in
    showing_whole (g.K.Sink.sink_holds c.args.out.now) (g.K.Sink.sink_holds c.apply_units.new.out) (g.K.Sink.sink_holds c.put_shown.new.out) (output_of (groups_of world)) (shown_of c.args.asked world) c.in_ok-apply_units.ensures.wrote c.put_shown.result c.put_shown.ensures.whole

pub returns-clause-cut : goal.returns-clause-cut
returns-clause-cut g c =
    let world = c.apply_units.new.world in
    showing_cut (g.K.Sink.sink_holds c.args.out.now) (g.K.Sink.sink_holds c.apply_units.new.out) (g.K.Sink.sink_holds c.put_shown.new.out) (output_of (groups_of world)) (shown_of c.args.asked world) c.in_ok-apply_units.ensures.wrote
    (HasAll (acts_of c.args.schedule.now) world) record { all = c.in_ok-apply_units.ensures.all; made = c.in_ok-apply_units.ensures.made } c.put_shown.result c.put_shown.ensures.part

pub returns-clause-cause : goal.returns-clause-cause
returns-clause-cause g c =
    cause_since (g.K.Sink.sink_faults c.args.out.now) (g.K.Sink.sink_faults c.apply_units.new.out) (g.K.Sink.sink_faults c.put_shown.new.out) c.put_shown.result c.apply_units.ensures.cause.later c.put_shown.ensures.cause
