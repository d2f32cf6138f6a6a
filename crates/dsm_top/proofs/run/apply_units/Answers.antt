use Rattle.std.proofs.Common.{ap, sym, refl, ◌∙◌, arith, reverse, take, []}
use Rattle.std.proofs.lemmas.Result.{err_from_is_err_and}
use Rattle.dsm_base.specs.declared.setup.Setup.{Setup}
use Rattle.dsm_base.specs.Sink.{appended}
use Rattle.dsm_sched.specs.ScheduleTexts.{units_of as acts_of}
use Rattle.dsm_network.specs.World.{setup_of, groups_of}
use Rattle.dsm_laws_history.specs.Output.{output_of}
use Rattle.dsm_top.proofs.Applied.{front_whole, wrote_next, wrote_part, made_next, made_fits, fits_same}
use Rattle.dsm_top.proofs.Picked.{pick_at, pick_past}
use Rattle.dsm_top.proofs.Pieces.{appended-nil}
use Rattle.dsm_top.proofs.Schedules.{act_within}
use Rattle.dsm_top.proofs.run.apply_units.Goals as goal

pub apply-requires-clause-act : goal.apply-requires-clause-act
apply-requires-clause-act g c =
    let same = ap (λ (s : Setup). s.procs) c.acts.invariant.same.setup ∙ c.requires.procs in
    act_within (setup_of c.acts.world) c.args.schedule.now.procs c.in-Some.act same c.in-Some.ensures.within

pub returns-in_err-lines-clause-cut : goal.returns-in_err-lines-clause-cut
returns-in_err-lines-clause-cut g c =
    let p = err_from_is_err_and c.from_residual.result c.from_residual.ensures.1 in
    let wrote = c.acts.invariant.wrote ∙ ap (λ groups. appended (g.K.Sink.sink_holds c.args.out.now) (output_of groups)) (sym c.in_err-lines.ensures.err) in
    rw (p.1, p.2) (front_whole (g.K.Sink.sink_holds c.args.out.now) (g.K.Sink.sink_holds c.acts.out) (output_of (groups_of c.apply.new.self)) wrote)

pub returns-in_err-put_lines-clause-cut : goal.returns-in_err-put_lines-clause-cut
returns-in_err-put_lines-clause-cut g c =
    let p = err_from_is_err_and c.from_residual-in_err-put_lines.result c.from_residual-in_err-put_lines.ensures.1 in
    rw (p.1) (wrote_part c.acts.world c.apply.new.self c.in-Some.act c.in_ok-lines.ensures.trace (g.K.Sink.sink_holds c.args.out.now) (g.K.Sink.sink_holds c.acts.out) (g.K.Sink.sink_holds c.put_lines.new.out) c.in_ok-lines.lines p.0
    c.in_ok-lines.ensures.lines c.acts.invariant.wrote c.in_err-put_lines.ensures.part)

pub returns-in_err-put_lines-clause-fits : goal.returns-in_err-put_lines-clause-fits
returns-in_err-put_lines-clause-fits g c =
    let units = acts_of c.args.schedule.now in
    let here = pick_at units c.units.result c.in-Some.act c.in-Some.ensures.unit in
    made_fits c.apply.new.self units (made_next c.acts.world c.apply.new.self units c.units.result c.in-Some.act (sym c.units.ensures) here.1 here.0 c.in_ok-lines.ensures.units c.in_ok-lines.ensures.run c.acts.invariant.made)

pub returns-in_err-lines-clause-fits : goal.returns-in_err-lines-clause-fits
returns-in_err-lines-clause-fits g c =
    let units = acts_of c.args.schedule.now in
    fits_same c.acts.world c.apply.new.self units c.in_err-lines.ensures.err c.in_err-lines.ensures.err_units c.apply.ensures.setup c.apply.ensures.first (made_fits c.acts.world units c.acts.invariant.made)

pub returns-clause-fits : goal.returns-clause-fits
returns-clause-fits g c = made_fits c.acts.world (acts_of c.args.schedule.now) c.acts.invariant.made

pub acts-init : goal.acts-init
acts-init g c = record {
  whole = c.requires.whole;
  same = record { setup = refl; first = refl };
  within = omega (arith, c.requires.none.units);
  made = record { done = []; acts = ap (λ n. reverse (take n (acts_of c.args.schedule.now))) c.requires.none.units; run = c.requires.none };
  wrote = sym (appended-nil (g.K.Sink.sink_holds c.args.out.now)) ∙ ap (λ groups. appended (g.K.Sink.sink_holds c.args.out.now) (output_of groups)) (sym c.requires.no_trace);
  later = omega arith;
}

pub acts-smaller : goal.acts-smaller
acts-smaller g c =
    let here = pick_at (acts_of c.args.schedule.now) c.units.result c.in-Some.act c.in-Some.ensures.unit in
    omega (arith, here.0, c.units.ensures, c.in_ok-lines.ensures.units)

pub acts-preserved : goal.acts-preserved
acts-preserved g c =
    let units = acts_of c.args.schedule.now in
    let here = pick_at units c.units.result c.in-Some.act c.in-Some.ensures.unit in
    record {
      whole = c.in_ok-lines.ensures.whole;
      same = record {
        setup = c.apply.ensures.setup ∙ c.acts.invariant.same.setup;
        first = c.apply.ensures.first ∙ c.acts.invariant.same.first;
      };
      within = omega (arith, here.0, c.units.ensures, c.in_ok-lines.ensures.units);
      made = made_next c.acts.world c.apply.new.self units c.units.result c.in-Some.act (sym c.units.ensures) here.1 here.0 c.in_ok-lines.ensures.units c.in_ok-lines.ensures.run c.acts.invariant.made;
      wrote = wrote_next c.acts.world c.apply.new.self c.in-Some.act c.in_ok-lines.ensures.trace (g.K.Sink.sink_holds c.args.out.now) (g.K.Sink.sink_holds c.acts.out) (g.K.Sink.sink_holds c.put_lines.new.out) c.in_ok-lines.lines
          c.in_ok-lines.ensures.lines c.acts.invariant.wrote c.in_ok-put_lines.ensures.whole;
      later = omega (arith, c.acts.invariant.later, c.put_lines.ensures.cause.later);
    }

pub returns-clause-all : goal.returns-clause-all
returns-clause-all g c =
    let past = pick_past (acts_of c.args.schedule.now) c.units.result c.in_default.ensures.unit in
    omega (arith, past, c.units.ensures, c.acts.invariant.within)
