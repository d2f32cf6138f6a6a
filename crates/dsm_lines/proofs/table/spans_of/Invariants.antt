use Rattle.std.proofs.Common.{◌≡◌, take}
use Rattle.dsm_lines.specs.Places.{lines, spans_from}
use Rattle.dsm_lines.proofs.table.spans_of.Given as goal

-- the pieces gone over have their spans
abbrev pub invariant-loop-piece : goal.invariant-loop-piece
invariant-loop-piece l =
    record {
      first : l.first ≡ lines (take l.piece-index l.pieces);
      spans : l.spans ≡ spans_from 0 (take l.piece-index l.pieces) l.object;
    }
