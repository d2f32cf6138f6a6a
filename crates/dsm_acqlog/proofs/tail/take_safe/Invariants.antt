use Rattle.std.proofs.Common.{◌≡◌, ◌-◌, ◌≤◌, ◌++◌, length, take, drop}
use Rattle.dsm_acqlog.specs.Tails.{safe_lines, unsafe_lines}
use Rattle.dsm_acqlog.proofs.tail.take_safe.Given as goal

-- the lines before this place stay, and those taken out were safe
abbrev pub invariant-loop-at : goal.invariant-loop-at
invariant-loop-at l =
    record {
      within : l.at ≤ length l.lines;
      outs : l.outs ++ safe_lines l.records (drop l.at l.lines) ≡ safe_lines l.records l.fn.lines;
      left : take l.at l.lines ++ unsafe_lines l.records (drop l.at l.lines) ≡ unsafe_lines l.records l.fn.lines;
    }

abbrev pub decreases-loop-at : goal.decreases-loop-at
decreases-loop-at l = length l.lines - l.at
