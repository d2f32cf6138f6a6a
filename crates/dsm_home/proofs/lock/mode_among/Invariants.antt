use Rattle.std.proofs.Common.{◌≡◌, map, drop}
use Rattle.dsm_home.specs.LockStates.{mode_among, holder_of}
use Rattle.dsm_home.proofs.lock.mode_among.Given as goal

abbrev pub invariant-loop-one : goal.invariant-loop-one
invariant-loop-one l = mode_among (map holder_of (drop l.one-index l.granted)) l.proc.0 ≡ mode_among (map holder_of l.granted) l.proc.0
