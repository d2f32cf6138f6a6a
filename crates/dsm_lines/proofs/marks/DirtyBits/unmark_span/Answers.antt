use Rattle.std.proofs.Common.{◌+◌, ◌∙◌, arith}
use Rattle.dsm_lines.specs.Marks.{marks_in}
use Rattle.dsm_lines.proofs.Spanning.{unmarked_more, unmarked_all, clear_up_to}
use Rattle.dsm_lines.proofs.marks.DirtyBits.unmark_span.Goals as goal

pub returns-then-line-end-clause-unmarked : goal.returns-then-line-end-clause-unmarked
returns-then-line-end-clause-unmarked c =
    unmarked_all (marks_in c.args.self.now) (marks_in c.loop-line.self) c.args.span.first c.loop-line.from c.args.span.count c.loop-line.invariant.behind c.loop-line.invariant.within
    c.loop-line.invariant.left (λ x above below. c.in-Some.ensures.first.2 x above (omega arith))

pub loop-line-preserved : goal.loop-line-preserved
loop-line-preserved c =
    record {
      left = unmarked_more (marks_in c.args.self.now) (marks_in c.loop-line.self) (marks_in c.unmark.new.self) c.args.span.first c.loop-line.from c.in-Some.line c.loop-line.invariant.behind
          c.loop-line.invariant.left c.in-Some.ensures.first c.unmark.ensures.unmarked;
      same = c.unmark.ensures.same ∙ c.loop-line.invariant.same;
      behind = omega (arith, c.in-Some.ensures.first.0);
      within = omega arith;
    }

pub returns-clause-unmarked : goal.returns-clause-unmarked
returns-clause-unmarked c =
    unmarked_all (marks_in c.args.self.now) (marks_in c.loop-line.self) c.args.span.first c.loop-line.from c.args.span.count c.loop-line.invariant.behind c.loop-line.invariant.within
    c.loop-line.invariant.left
    (clear_up_to (marks_in c.loop-line.self) c.loop-line.from (c.args.span.first + c.args.span.count) c.first_from.result c.first_from.ensures.first
    (λ next is. absurd (c.in_default.not-Some next is)))
