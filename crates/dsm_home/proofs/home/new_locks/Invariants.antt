use Rattle.std.proofs.Common.{◌≡◌, replicate}
use Rattle.dsm_home.specs.LockStates.{start_lock}
use Rattle.dsm_home.proofs.home.new_locks.Given as goal

abbrev pub invariant-loop-lock : goal.invariant-loop-lock
invariant-loop-lock l = l.locks.items ≡ replicate l._lock start_lock
