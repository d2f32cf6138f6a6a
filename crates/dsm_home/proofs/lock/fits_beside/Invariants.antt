use Rattle.std.proofs.Common.{◌≡◌, map, drop}
use Rattle.dsm_home.specs.LockStates.{fits_beside, holder_of}
use Rattle.dsm_home.proofs.lock.fits_beside.Given as goal

abbrev pub invariant-loop-one : goal.invariant-loop-one
invariant-loop-one l = fits_beside (map holder_of (drop l.one-index l.granted)) l.mode ≡ fits_beside (map holder_of l.granted) l.mode
