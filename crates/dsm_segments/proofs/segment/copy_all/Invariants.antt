use Rattle.std.proofs.Common.{◌≡◌, ◌++◌, take}
use Rattle.dsm_segments.proofs.segment.copy_all.Given as goal

abbrev pub invariant-loop-entry : goal.invariant-loop-entry
invariant-loop-entry g l = l.found ≡ l.fn.found ++ take l.entry-index l.entries
