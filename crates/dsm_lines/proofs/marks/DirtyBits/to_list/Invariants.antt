use Rattle.std.proofs.Common.{◌≡◌, ◌≤◌, ◌-◌, filter}
use Rattle.std.specs.List.{range_with_len}
use Rattle.dsm_lines.specs.Marks.{marks_in}
use Rattle.dsm_lines.proofs.marks.DirtyBits.to_list.Given as goal

-- the marked lines gone over are listed
abbrev pub invariant-loop-line : goal.invariant-loop-line
invariant-loop-line l =
    record {
      listed : l.lines ≡ filter (marks_in l.self) (range_with_len 0 l.from);
      within : l.from ≤ l.self.lines;
    }

abbrev pub decreases-loop-line : goal.decreases-loop-line
decreases-loop-line l = l.self.lines - l.from
