use Rattle.std.proofs.Common.{◌≡◌, filter, map}
use Rattle.std.specs.Prelude.{not, ◌==◌}
use Rattle.std.specs.List.{range_with_len}
use Rattle.dsm_image_parts.specs.Keys.{numbered_proc}
use Rattle.dsm_image_parts.proofs.keys.others.Given as goal

-- the others among those gone over
abbrev pub invariant-loop-proc : goal.invariant-loop-proc
invariant-loop-proc l = l.procs.items ≡ filter (λ proc. not (proc.0 == l.me.0)) (map numbered_proc (range_with_len 0 l.proc))
