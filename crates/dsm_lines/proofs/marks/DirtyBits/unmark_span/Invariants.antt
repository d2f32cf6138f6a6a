use Rattle.std.proofs.Common.{◌≡◌, ◌≤◌, ◌+◌, ◌-◌}
use Rattle.std.specs.List.{range_with_len}
use Rattle.dsm_lines.specs.Copies.{without}
use Rattle.dsm_lines.specs.Marks.{marks_in}
use Rattle.dsm_lines.proofs.marks.DirtyBits.unmark_span.Given as goal

-- the lines gone over aren't marked any longer
abbrev pub invariant-loop-line : goal.invariant-loop-line
invariant-loop-line l =
    record {
      left : marks_in l.self ≡ without (range_with_len l.fn.span.first (l.from - l.fn.span.first)) (marks_in l.initial.self);
      same : l.self.lines ≡ l.initial.self.lines;
      behind : l.fn.span.first ≤ l.from;
      within : l.from ≤ l.fn.span.first + l.fn.span.count;
    }

abbrev pub decreases-loop-line : goal.decreases-loop-line
decreases-loop-line l = l.fn.span.first + l.fn.span.count - l.from
