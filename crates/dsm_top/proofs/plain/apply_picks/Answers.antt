use Rattle.std.proofs.Common.{◌∙◌, ap, sym, subst, arith, take}
use Rattle.std.proofs.lemmas.Result.{err_from_is_err_and}
use Rattle.dsm_base.specs.Output.{printed_lines}
use Rattle.dsm_base.specs.Sink.{appended, TakesPart}
use Rattle.dsm_sched.specs.PickTexts.{picked}
use Rattle.dsm_top.specs.PickRuns.{program_run}
use Rattle.dsm_top.specs.PlainRuns.{program_in, IsAt}
use Rattle.dsm_top.proofs.Applied.{front_whole}
use Rattle.dsm_top.proofs.Counts.{few_picks}
use Rattle.dsm_top.proofs.Picked.{pick_at, pick_past, more_turns, wrote_more, wrote_cut}
use Rattle.dsm_top.proofs.plain.apply_picks.Goals as goal

pub pick-requires-in-Some-clause-count : goal.pick-requires-in-Some-clause-count
pick-requires-in-Some-clause-count g c =
    let picks = c.args.picks.now in
    let here = pick_at (picked picks) c.picks.run.units c.in-Some.proc c.in-Some.ensures.member in
    omega (arith, here.0, few_picks picks.procs picks.entries picks.kept)

pub returns-in_err-line-clause-cut : goal.returns-in_err-line-clause-cut
returns-in_err-line-clause-cut g c =
    let p = err_from_is_err_and c.from_residual.result c.from_residual.ensures.1 in
    let program = program_in c.args.run.now in
    let setup = c.args.run.now.machine.setup in
    let picks = picked c.args.picks.now in
    let wrote = c.picks.invariant.wrote ∙ ap (λ units. appended (g.K.Sink.sink_holds c.args.out.now) (printed_lines (program_run program setup (take units picks)))) (sym c.in_err-line.ensures.err) in
    rw (p.1, p.2) (front_whole (g.K.Sink.sink_holds c.args.out.now) (g.K.Sink.sink_holds c.picks.out) (printed_lines (program_run program setup (take c.pick-in-Some.new.self.units picks))) wrote)

pub returns-in_err-put_all-clause-count : goal.returns-in_err-put_all-clause-count
returns-in_err-put_all-clause-count g c =
    let here = pick_at (picked c.args.picks.now) c.picks.run.units c.in-Some.proc c.in-Some.ensures.member in
    omega (arith, here.0, c.in_ok-line.ensures.units)

pub returns-in_err-put_all-clause-cut : goal.returns-in_err-put_all-clause-cut
returns-in_err-put_all-clause-cut g c =
    let p = err_from_is_err_and c.from_residual-in_err-put_all.result c.from_residual-in_err-put_all.ensures.1 in
    let program = program_in c.args.run.now in
    let setup = c.args.run.now.machine.setup in
    let picks = picked c.args.picks.now in
    let old = c.picks.run.units in
    let here = pick_at picks old c.in-Some.proc c.in-Some.ensures.member in
    let part = subst (TakesPart (g.K.Sink.sink_holds c.picks.out) (g.K.Sink.sink_holds c.put_all.new.out)) c.as_slice.ensures c.in_err-put_all.ensures.part in
    rw (p.1) (wrote_cut program setup picks old c.pick-in-Some.new.self.units c.in-Some.proc here.1 here.0 c.in_ok-line.ensures.units (g.K.Sink.sink_holds c.args.out.now) (g.K.Sink.sink_holds c.picks.out) (g.K.Sink.sink_holds c.put_all.new.out)
    c.in_ok-line.line p.0 (c.in_ok-line.ensures.line program setup (program_run program setup (take old picks)) c.picks.invariant.at) c.picks.invariant.wrote part)

pub picks-smaller : goal.picks-smaller
picks-smaller g c =
    let here = pick_at (picked c.args.picks.now) c.picks.run.units c.in-Some.proc c.in-Some.ensures.member in
    omega (arith, here.0, c.in_ok-line.ensures.units)

pub picks-preserved : goal.picks-preserved
picks-preserved g c =
    let program = program_in c.args.run.now in
    let setup = c.args.run.now.machine.setup in
    let picks = picked c.args.picks.now in
    let old = c.picks.run.units in
    let new = c.pick-in-Some.new.self in
    let turns = program_run program setup (take old picks) in
    let here = pick_at picks old c.in-Some.proc c.in-Some.ensures.member in
    record {
      whole = c.in_ok-line.ensures.whole;
      at = subst (IsAt program setup new) (sym (more_turns program setup picks old new.units c.in-Some.proc here.1 here.0 c.in_ok-line.ensures.units)) (c.in_ok-line.ensures.at program setup turns c.picks.invariant.at);
      within = omega (arith, here.0, c.in_ok-line.ensures.units);
      wrote = wrote_more program setup picks old new.units c.in-Some.proc here.1 here.0 c.in_ok-line.ensures.units (g.K.Sink.sink_holds c.args.out.now) (g.K.Sink.sink_holds c.picks.out) (g.K.Sink.sink_holds c.put_all.new.out) c.in_ok-line.line
          c.as_slice.result.now (c.in_ok-line.ensures.line program setup turns c.picks.invariant.at) c.as_slice.ensures c.picks.invariant.wrote c.in_ok-put_all.ensures.whole;
      later = omega (arith, c.picks.invariant.later, c.put_all.ensures.cause.later);
    }

pub returns-clause-all : goal.returns-clause-all
returns-clause-all g c =
    let past = pick_past (picked c.args.picks.now) c.picks.run.units c.in_default.ensures.member in
    omega (arith, past, c.picks.invariant.within)
