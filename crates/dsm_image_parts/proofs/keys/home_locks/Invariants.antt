use Rattle.std.proofs.Common.{◌≡◌, filter, map}
use Rattle.std.specs.List.{range_with_len}
use Rattle.dsm_image_parts.specs.Keys.{is_home, numbered_lock}
use Rattle.dsm_image_parts.proofs.keys.home_locks.Given as goal

-- the processor's locks among those gone over
abbrev pub invariant-loop-lock : goal.invariant-loop-lock
invariant-loop-lock l = l.locks.items ≡ filter (λ lock. is_home l.scope l.me.0 lock.0) (map numbered_lock (range_with_len 0 l.lock))
