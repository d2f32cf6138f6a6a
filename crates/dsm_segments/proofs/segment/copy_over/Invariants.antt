use Rattle.std.proofs.Common.{◌≡◌, ◌++◌, drop}
use Rattle.dsm_segments.specs.Entries.{over}
use Rattle.dsm_segments.proofs.segment.copy_over.Given as goal

-- what was found, and what is left to find
abbrev pub invariant-loop-entry : goal.invariant-loop-entry
invariant-loop-entry g l =
    l.found ++ over g.T.Numbered.log_number l.least (drop l.entry-index l.entries) ≡ l.fn.found ++ over g.T.Numbered.log_number l.least l.entries
