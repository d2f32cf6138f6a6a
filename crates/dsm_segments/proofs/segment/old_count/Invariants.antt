use Rattle.std.proofs.Common.{◌≡◌, drop}
use Rattle.dsm_segments.specs.Entries.{behind}
use Rattle.dsm_segments.proofs.segment.old_count.Given as goal

-- as many were gone over as were counted, and all of them are old
abbrev pub invariant-loop-entry : goal.invariant-loop-entry
invariant-loop-entry g l =
    record {
      count : l.count ≡ l.entry-index;
      rest : behind g.T.Numbered.log_number l.upto (drop l.entry-index l.entries) ≡ behind g.T.Numbered.log_number l.upto l.entries;
    }
