use Rattle.std.proofs.Common.{◌≡◌, map}
use Rattle.std.specs.List.{range_with_len}
use Rattle.dsm_base.specs.declared.setup.Object.{Object}
use Rattle.dsm_lines.specs.Places.{spans_from}
use Rattle.dsm_lines.proofs.table.spans_of_locks.Given as goal

-- the spans of those gone over are listed
abbrev pub invariant-loop-lock : goal.invariant-loop-lock
invariant-loop-lock l = l.all ≡ map (λ lock. spans_from 0 l.pieces (Object.Lock record { 0 = lock })) (range_with_len 0 l.lock)
