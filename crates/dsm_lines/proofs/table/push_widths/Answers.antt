use Rattle.std.proofs.Common.{◌-◌, ◌*◌}
use Rattle.std.specs.Prelude.{min}
use Rattle.dsm_lines.proofs.Tabling.{push_more}
use Rattle.dsm_lines.proofs.table.push_widths.Goals as goal

pub loop-line-preserved : goal.loop-line-preserved
loop-line-preserved c =
    push_more (λ line. min 8 (c.args.piece.count - 8 * line)) c.loop-line.line c.args.widths.now c.loop-line.widths c.push.new.self c.min.result c.loop-line.invariant c.in_ok-push.ensures.ok c.min.ensures
