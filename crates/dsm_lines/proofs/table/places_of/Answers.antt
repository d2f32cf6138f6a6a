use Rattle.std.proofs.Common.{◌-◌, get_or, arith, refl}
use Rattle.dsm_lines.proofs.Tabling.{blank, lines_less, placed_more}
use Rattle.dsm_lines.proofs.table.places_of.Goals as goal

pub overflow_sub-start : goal.overflow_sub-start
overflow_sub-start c =
    omega (arith, c.line_count.ensures, c.loop-at.invariant.start, lines_less c.args.pieces.now c.loop-at.at blank (omega arith) (omega arith))

pub loop-at-preserved : goal.loop-at-preserved
loop-at-preserved c =
    let less = lines_less c.args.pieces.now c.loop-at.at blank (omega arith) (omega arith) in
    record {
      count = omega (arith, c.note_piece.ensures.length);
      start = omega (arith, c.line_count.ensures, c.loop-at.invariant.start, less);
      noted = placed_more c.args.pieces.now c.loop-at.at c.loop-at.start c.line_count.result blank (get_or c.args.pieces.now (c.loop-at.at - 1) blank) c.loop-at.places c.note_piece.new.places
          (omega arith) (omega arith) refl c.line_count.ensures (omega (arith, c.line_count.ensures, c.loop-at.invariant.start, less)) c.loop-at.invariant.noted c.note_piece.ensures.noted;
    }
