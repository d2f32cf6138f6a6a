use Rattle.std.proofs.Common.{◌≡◌, take}
use Rattle.dsm_check.specs.Bindings.{first_bound}
use Rattle.dsm_check.proofs.bindings.first_bound.Given as goal

abbrev pub invariant-loop-piece : goal.invariant-loop-piece
invariant-loop-piece l = l.found ≡ first_bound (take l.piece-index l.pieces) l.first l.count
