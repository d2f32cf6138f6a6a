use Rattle.std.proofs.Common.{◌∙◌}
use Rattle.dsm_lines.specs.Marks.{marks_in}
use Rattle.dsm_lines.proofs.Spanning.{without_spans}
use Rattle.dsm_lines.proofs.marks.DirtyBits.unmark_all.Goals as goal

pub loop-span-preserved : goal.loop-span-preserved
loop-span-preserved c =
    record {
      left = without_spans c.args.spans.now c.loop-span.span-index (record { first = 0; count = 0 }) (marks_in c.args.self.now) (marks_in c.loop-span.self) (marks_in c.unmark_span.new.self)
          c.loop-span-test.true c.loop-span.invariant.left c.unmark_span.ensures.unmarked;
      same = c.unmark_span.ensures.same ∙ c.loop-span.invariant.same;
    }
