use Rattle.std.proofs.Common.{◌+◌, ◌∙◌, sym, arith}
use Rattle.dsm_lines.proofs.Tabling.{blank, lines_more, lines_most, span_pushed, span_passed}
use Rattle.dsm_lines.proofs.table.spans_of.Goals as goal
use Rattle.dsm_lines.proofs.table.spans_of.Goals.{then-same_object+in_ok-push, else-same_object}

pub overflow_add-first : goal.overflow_add-first
overflow_add-first c =
    omega (arith, c.requires.few, c.line_count-count.ensures, lines_more c.args.pieces.now c.loop-piece.piece-index blank c.loop-piece-test.true, lines_most c.args.pieces.now (c.loop-piece.piece-index + 1))

pub loop-piece-preserved : goal.loop-piece-preserved
loop-piece-preserved c =
    record {
      first = omega (arith, c.line_count-count.ensures, lines_more c.args.pieces.now c.loop-piece.piece-index blank c.loop-piece-test.true);
      spans = elim c.if-same_object.branch [
        | then-same_object+in_ok-push w ↦
            w.spans-is
            ∙ span_pushed c.args.pieces.now c.args.object c.loop-piece.piece-index blank c.loop-piece.spans w.push.new.self c.loop-piece.first c.line_count-count.result c.loop-piece-test.true
            c.loop-piece.invariant.spans c.loop-piece.invariant.first c.line_count-count.ensures (sym c.same_object.ensures ∙ w.if-same_object.true) w.in_ok-push.ensures.ok
        | else-same_object w ↦
            w.spans-is
            ∙ span_passed c.args.pieces.now c.args.object c.loop-piece.piece-index blank c.loop-piece.spans c.loop-piece-test.true c.loop-piece.invariant.spans (sym c.same_object.ensures ∙ w.if-same_object.false)
      ];
    }
