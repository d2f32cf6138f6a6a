use Rattle.std.proofs.Common.{◌≡◌, ◌≤◌, None, length, drop}
use Rattle.dsm_segments.specs.Entries.{latest}
use Rattle.dsm_segments.proofs.segment.latest_in.Given as goal

-- none of those gone over has the number
abbrev pub invariant-loop-rest : goal.invariant-loop-rest
invariant-loop-rest g l =
    record {
      within : l.rest ≤ length l.entries;
      none : latest g.T.Numbered.log_number l.number (drop l.rest l.entries) ≡ None;
    }

abbrev pub decreases-loop-rest : goal.decreases-loop-rest
decreases-loop-rest g l = l.rest
