use Rattle.std.proofs.Common.{◌≡◌, ◌≤◌, None, length, drop}
use Rattle.dsm_segments.specs.Entries.{latest}
use Rattle.dsm_segments.specs.Chains.{entries_of}
use Rattle.dsm_segments.proofs.chain.latest.Given as goal

-- no segment gone over has the number
abbrev pub invariant-loop-rest : goal.invariant-loop-rest
invariant-loop-rest g l =
    record {
      within : l.rest ≤ length l.keys;
      none : latest g.T.Numbered.log_number l.number (entries_of l.slab (drop l.rest l.keys)) ≡ None;
    }

abbrev pub decreases-loop-rest : goal.decreases-loop-rest
decreases-loop-rest g l = l.rest
