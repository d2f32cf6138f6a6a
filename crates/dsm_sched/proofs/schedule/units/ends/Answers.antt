use Rattle.std.proofs.Common.{arith, ◌≡◌, ◌+◌, ◌++◌, ◌∷◌, [], ◌∙◌, ap₂, sym, get_or}
use Rattle.std.proofs.lemmas.List.FromFn.{map-range_with_len_more}
use Rattle.std.proofs.lemmas.List.Sums.{sum_by_more}
use Rattle.dsm_base.specs.declared.act.Act.{Act}
use Rattle.dsm_sched.specs.declared.schedule.Entry.{Entry}
use Rattle.dsm_sched.specs.Schedules.{unit_count, units_before}
use Rattle.dsm_sched.proofs.schedule.units.ends.Goals as goal

abbrev some_entry : Entry
some_entry = Entry.Unit (Act.Step record { 0 = 0 }) 0

pub loop-entry-preserved : goal.loop-entry-preserved
loop-entry-preserved c =
    let procs = c.args.procs in
    let entries = c.args.entries.now in
    let i = c.loop-entry.entry-index in
    let more : units_before procs entries (i + 1) ≡ units_before procs entries i + unit_count procs (get_or entries i some_entry) = sum_by_more (unit_count procs) entries i some_entry c.loop-entry-test.true in
    let end : c.loop-entry.end + c.count-end.result ≡ units_before procs entries (i + 1) = omega (arith, more, c.count-end.ensures, c.loop-entry.invariant.end) in
    record {
      ends = c.in_ok-push.ensures.ok ∙ ap₂ (λ front last. front ++ last ∷ []) c.loop-entry.invariant.ends end ∙ sym (map-range_with_len_more (λ k. units_before procs entries (k + 1)) 0 i i (omega arith));
      end = end;
    }
