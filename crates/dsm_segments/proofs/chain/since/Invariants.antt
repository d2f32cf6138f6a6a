use Rattle.std.proofs.Common.{◌≡◌, ◌++◌, drop}
use Rattle.dsm_segments.specs.Entries.{over}
use Rattle.dsm_segments.specs.Chains.{entries_of}
use Rattle.dsm_segments.proofs.chain.since.Given as goal

-- what was found, and what the keys that are left stand for
abbrev pub invariant-loop-key : goal.invariant-loop-key
invariant-loop-key g l =
    l.found ++ over g.T.Numbered.log_number l.least (entries_of l.slab (drop l.key-index l.keys)) ≡ over g.T.Numbered.log_number l.least (entries_of l.slab l.keys)
