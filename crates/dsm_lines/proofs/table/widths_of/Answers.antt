use Rattle.std.proofs.Common.{◌++◌, ap, sym, ◌∙◌, get_or}
use Rattle.dsm_lines.specs.Building.{piece_widths}
use Rattle.dsm_lines.proofs.Tabling.{blank, widths_more}
use Rattle.dsm_lines.proofs.table.widths_of.Goals as goal

pub loop-piece-preserved : goal.loop-piece-preserved
loop-piece-preserved c =
    c.in_ok-push_widths.ensures
    ∙ ap (λ widths. widths ++ piece_widths (get_or c.args.pieces.now c.loop-piece.piece-index blank)) c.loop-piece.invariant
    ∙ sym (widths_more c.args.pieces.now c.loop-piece.piece-index blank c.loop-piece-test.true)
