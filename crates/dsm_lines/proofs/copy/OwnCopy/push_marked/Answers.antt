use Rattle.std.proofs.Common.{◌+◌, ◌-◌, ◌++◌, ◌∙◌, sym, ap, map, filter, arith}
use Rattle.std.specs.List.{range_with_len}
use Rattle.dsm_lines.specs.Copies.{line_with}
use Rattle.dsm_lines.specs.OwnCopies.{copy_pieces, copy_memory, copy_marks}
use Rattle.dsm_lines.proofs.Ranges.{next_passes, rest_fails}
use Rattle.dsm_lines.proofs.Spanning.{among_pushed, clear_up_to}
use Rattle.dsm_lines.proofs.copy.OwnCopy.push_marked.Goals as goal

pub returns-then-line-end : goal.returns-then-line-end
returns-then-line-end c =
    c.loop-line.invariant.listed
    ∙ ap (λ ns. c.args.list.now ++ map (line_with (copy_pieces c.args.self.now) (copy_memory c.args.self.now)) ns)
    (sym (rest_fails (copy_marks c.args.self.now) c.args.span.first (c.loop-line.from - c.args.span.first) c.args.span.count c.loop-line.from (c.args.span.first + c.args.span.count)
    (omega arith) (omega arith) c.loop-line.invariant.within (λ x above below. c.in-Some.ensures.first.2 x above (omega arith))))

pub loop-line-preserved : goal.loop-line-preserved
loop-line-preserved c =
    record {
      listed = among_pushed (copy_pieces c.args.self.now) (copy_memory c.args.self.now) c.args.list.now c.loop-line.list c.push.new.self
          (filter (copy_marks c.args.self.now) (range_with_len c.args.span.first (c.loop-line.from - c.args.span.first)))
          (filter (copy_marks c.args.self.now) (range_with_len c.args.span.first (c.in-Some.line + 1 - c.args.span.first)))
          c.line.result c.in-Some.line c.loop-line.invariant.listed c.in_ok-push.ensures.ok c.line.ensures
          (next_passes (copy_marks c.args.self.now) c.args.span.first (c.loop-line.from - c.args.span.first) (c.in-Some.line + 1 - c.args.span.first) c.loop-line.from c.in-Some.line
          (omega arith) (omega (arith, c.in-Some.ensures.first.0)) c.in-Some.ensures.first);
      behind = omega (arith, c.in-Some.ensures.first.0);
      within = omega arith;
    }

pub returns : goal.returns
returns c =
    c.loop-line.invariant.listed
    ∙ ap (λ ns. c.args.list.now ++ map (line_with (copy_pieces c.args.self.now) (copy_memory c.args.self.now)) ns)
    (sym (rest_fails (copy_marks c.args.self.now) c.args.span.first (c.loop-line.from - c.args.span.first) c.args.span.count c.loop-line.from (c.args.span.first + c.args.span.count)
    (omega arith) (omega arith) c.loop-line.invariant.within
    (clear_up_to (copy_marks c.args.self.now) c.loop-line.from (c.args.span.first + c.args.span.count) c.first_from.result c.first_from.ensures.first
    (λ next is. absurd (c.in_default.not-Some next is)))))
