use Rattle.std.proofs.Common.{◌≡◌, ◌∙◌, ◌<◌, ◌≤◌, sym, arith}
use Rattle.dsm_segments.proofs.Lists.{behind_old}
use Rattle.dsm_segments.proofs.segment.old_count.Goals as goal

pub loop-entry-preserved : goal.loop-entry-preserved
loop-entry-preserved g c =
    let old : g.T.Numbered.log_number c.entry-item.result ≤ c.args.upto = grind (arith, c.number.ensures) in
    record {
      count = omega (arith, c.loop-entry.invariant.count);
      rest = sym (behind_old g.T.Numbered.log_number c.args.upto c.args.entries.now c.loop-entry.entry-index c.entry-item.result c.loop-entry-test.true c.entry-item.is old) ∙ c.loop-entry.invariant.rest;
    }
