use Rattle.std.proofs.Common.{◌≡◌, ◌-◌, ◌^◌, length, min, take}
use Rattle.dsm_segments.specs.Chains.{entries_of}
use Rattle.dsm_segments.proofs.chain.count.Given as goal

abbrev pub invariant-loop-key : goal.invariant-loop-key
invariant-loop-key g l = l.total ≡ min (length (entries_of l.slab (take l.key-index l.keys))) (2 ^ 64 - 1)
