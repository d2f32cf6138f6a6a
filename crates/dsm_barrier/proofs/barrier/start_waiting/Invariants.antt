use Rattle.std.proofs.Common.{◌≡◌, ℕ, [], length}
use Rattle.std.specs.List.{All}
use Rattle.dsm_base.specs.Family.{family_of}
use Rattle.dsm_barrier.specs.Barriers.{HasLines}
use Rattle.dsm_barrier.proofs.barrier.start_waiting.Given as goal

-- of none of the processors gone over an arrival waits
abbrev pub invariant-loop-proc : goal.invariant-loop-proc
invariant-loop-proc l = record {
  count : length l.waiting.items ≡ l._proc;
  none : (p : ℕ) → family_of (λ q. []) l.waiting.items p ≡ [];
  lines : All (All HasLines) l.waiting.items;
}
