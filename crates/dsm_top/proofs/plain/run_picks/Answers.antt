use Rattle.std.proofs.Common.{sym, subst, inr, [], length, ◌≤◌}
use Rattle.dsm_check.specs.Programs.{Program}
use Rattle.dsm_check.specs.Setups.{IsSetupOf}
use Rattle.dsm_sched.specs.PickTexts.{picked}
use Rattle.dsm_top.specs.declared.status.Status.{Status}
use Rattle.dsm_top.specs.Statuses.{status_of_write}
use Rattle.dsm_top.specs.Ended.{Left, RanPlain}
use Rattle.dsm_top.specs.PlainRuns.{program_in}
use Rattle.dsm_top.proofs.PickEnds.{plain_whole, plain_cut}
use Rattle.dsm_top.proofs.plain.run_picks.Goals.{in-Ok-apply_picks, in-Err}
use Rattle.dsm_top.proofs.plain.run_picks.Goals as goal

pub returns-clause-ran : goal.returns-clause-ran
returns-clause-ran g c =
    let procs = c.args.prepared.picks.procs in
    let picks = picked c.args.prepared.picks in
    let before = c.in-Ok.run' in
    let setup = before.machine.setup in
    let program : Program = program_in before in
    let same = c.in-Ok.ensures.at.program_is in
    let is_setup : IsSetupOf program procs setup = subst (λ one. IsSetupOf one procs setup) (sym same) c.in-Ok.ensures.setup in
    let run = c.apply_picks.new.run in
    let within : run.units ≤ length picks = c.apply_picks.ensures.count in
    let left : Left = record {
      before = g.K.Sink.sink_holds c.args.out.now;
      after = g.K.Sink.sink_holds c.apply_picks.new.out;
      faults_before = g.K.Sink.sink_faults c.args.out.now;
      faults_after = g.K.Sink.sink_faults c.apply_picks.new.out;
      trace = [];
      units = run.units;
    } in
    let as_prepared = λ (status : Status) (ran : RanPlain program procs picks left status). subst (λ one. RanPlain one procs picks left status) same ran in
    rw c.untraced-2.ensures (inr (elim c.match-apply_picks.branch [
      | in-Ok-apply_picks w ↦
          let ran = plain_whole program procs setup is_setup picks left within c.endings_by_labels.ensures run w.finished.result w.from-status.result w.finished.ensures w.from-status.ensures w.in-Ok-apply_picks.ensures.at w.in-Ok-apply_picks.ensures.all
          w.in-Ok-apply_picks.ensures.wrote in
          rw (w.status-is) (as_prepared w.from-status.result ran)
      | in-Err w ↦
          let ran = plain_cut program procs setup is_setup picks left within w.in-Err.error w.in-Err.ensures.cut w.in-Err.ensures.cause.rose in
          rw (w.status-is, w.from-status-in-Err.ensures) (as_prepared (status_of_write w.in-Err.error) ran)
    ]))
