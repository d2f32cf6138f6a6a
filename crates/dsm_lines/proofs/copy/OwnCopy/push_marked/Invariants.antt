use Rattle.std.proofs.Common.{◌≡◌, ◌≤◌, ◌+◌, ◌-◌, ◌++◌}
use Rattle.std.specs.List.{range_with_len}
use Rattle.dsm_lines.specs.Copies.{lines_among}
use Rattle.dsm_lines.specs.OwnCopies.{copy_pieces, copy_memory, copy_marks}
use Rattle.dsm_lines.proofs.copy.OwnCopy.push_marked.Given as goal

-- the marked lines gone over are listed
abbrev pub invariant-loop-line : goal.invariant-loop-line
invariant-loop-line l =
    record {
      listed : l.list ≡ l.initial.list ++ lines_among (copy_pieces l.self) (copy_marks l.self) (copy_memory l.self) (range_with_len l.fn.span.first (l.from - l.fn.span.first));
      behind : l.fn.span.first ≤ l.from;
      within : l.from ≤ l.fn.span.first + l.fn.span.count;
    }

abbrev pub decreases-loop-line : goal.decreases-loop-line
decreases-loop-line l = l.fn.span.first + l.fn.span.count - l.from
