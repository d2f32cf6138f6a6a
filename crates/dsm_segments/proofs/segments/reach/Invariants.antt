use Rattle.std.proofs.Common.{◌≡◌, ℕ, ◌+◌, ◌-◌, [], get_or, length}
use Rattle.dsm_segments.proofs.segments.reach.Given as goal

-- what was added is empty
abbrev pub invariant-loop-alloc : goal.invariant-loop-alloc
invariant-loop-alloc l = (other : ℕ) → get_or l.chains.items other [] ≡ get_or l.fn.chains.items other []

abbrev pub decreases-loop-alloc : goal.decreases-loop-alloc
decreases-loop-alloc l = l.owner + 1 - length l.chains.items
