use Rattle.std.proofs.Common.{◌≡◌, ℕ, ◌<◌, length, get_or, drop, None}
use Rattle.dsm_base.specs.Access.{piece_of}
use Rattle.dsm_base.proofs.pieces.pieces_of.Given as goal

-- the pieces gone over from the back are noted
abbrev pub invariant-loop-at : goal.invariant-loop-at
invariant-loop-at l =
    record {
      count : length l.pieces ≡ l.setup.cells;
      noted : (cell : ℕ) → cell < l.setup.cells → get_or l.pieces cell None ≡ piece_of (drop l.at l.setup.bindings) cell;
    }
