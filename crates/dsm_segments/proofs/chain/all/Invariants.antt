use Rattle.std.proofs.Common.{◌≡◌, take}
use Rattle.dsm_segments.specs.Chains.{entries_of}
use Rattle.dsm_segments.proofs.chain.all.Given as goal

abbrev pub invariant-loop-key : goal.invariant-loop-key
invariant-loop-key g l = l.found ≡ entries_of l.slab (take l.key-index l.keys)
