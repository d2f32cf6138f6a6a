use Rattle.std.proofs.Common.{◌≡◌, ℕ, ◌<◌, length, get_or, Some, None}
use Rattle.std.specs.Prelude.{if◌then◌else◌, ◌&&◌, nat_le, nat_lt}
use Rattle.dsm_base.proofs.pieces.note_piece.Given as goal

-- the cells gone over are noted, and the others as they were
abbrev pub invariant-loop-cell : goal.invariant-loop-cell
invariant-loop-cell l =
    record {
      count : length l.pieces ≡ length l.initial.pieces;
      noted : (cell : ℕ) → cell < length l.pieces → get_or l.pieces cell None ≡ (if nat_le l.piece.first.0 cell && nat_lt cell l.cell then Some l.piece else get_or l.initial.pieces cell None);
    }
