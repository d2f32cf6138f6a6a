use Rattle.std.proofs.Common.{◌≡◌, not, drop}
use Rattle.std.specs.Prelude.{find, nat_lt}
use Rattle.dsm_check.proofs.rules.fit.Given as goal

abbrev pub invariant-loop-piece : goal.invariant-loop-piece
invariant-loop-piece l =
    find (λ piece. not (nat_lt piece.owner l.procs)) l.checked.pieces
    ≡ find (λ piece. not (nat_lt piece.owner l.procs)) (drop l.piece-index l.checked.pieces)
