use Rattle.std.proofs.Common.{subst, reverse, ap}
use Rattle.dsm_top.specs.Ended.{Left}
use Rattle.dsm_top.specs.Prepared.{IsReady, IsPrepared}
use Rattle.dsm_top.proofs.Calls.{ended_run, ended_check, ended_plain}
use Rattle.dsm_top.proofs.tool.perform.Goals as goal

pub run_picks-requires : goal.run_picks-requires
run_picks-requires g c = subst IsReady c.in-Plain.is c.requires

pub returns-in-Run : goal.returns-in-Run
returns-in-Run g c given is =
    let left : Left = record { before = g.K.Sink.sink_holds c.args.out.now; after = g.K.Sink.sink_holds c.run.new.out; faults_before = g.K.Sink.sink_faults c.args.out.now; faults_after = g.K.Sink.sink_faults c.run.new.out; trace = reverse c.run.result.trace; units = c.run.result.units } in
    ended_run given c.in-Run.prepared left c.run.result.status (subst (IsPrepared given.files given.command) c.in-Run.is is) c.run.ensures

pub returns-in-Check : goal.returns-in-Check
returns-in-Check g c given is =
    let left : Left = record { before = g.K.Sink.sink_holds c.args.out.now; after = g.K.Sink.sink_holds c.answer_check.new.out; faults_before = g.K.Sink.sink_faults c.args.out.now; faults_after = g.K.Sink.sink_faults c.answer_check.new.out; trace = reverse c.answer_check.result.trace; units = c.answer_check.result.units } in
    ended_check given left c.answer_check.result.status (subst (IsPrepared given.files given.command) c.in-Check.is is) (ap reverse c.answer_check.ensures.no_trace) c.answer_check.ensures.no_units c.answer_check.ensures.tells

pub returns-in-Plain : goal.returns-in-Plain
returns-in-Plain g c given is =
    let left : Left = record { before = g.K.Sink.sink_holds c.args.out.now; after = g.K.Sink.sink_holds c.run_picks.new.out; faults_before = g.K.Sink.sink_faults c.args.out.now; faults_after = g.K.Sink.sink_faults c.run_picks.new.out; trace = reverse c.run_picks.result.trace; units = c.run_picks.result.units } in
    ended_plain given c.in-Plain.prepared left c.run_picks.result.status (subst (IsPrepared given.files given.command) c.in-Plain.is is) (ap reverse c.run_picks.ensures.no_trace) c.run_picks.ensures.ran
