use Rattle.std.proofs.Common.{[]}
use Rattle.dsm_base.specs.declared.setup.Object.{Object}
use Rattle.dsm_lines.specs.Places.{spans_from}
use Rattle.dsm_lines.proofs.Tabling.{push_more}
use Rattle.dsm_lines.proofs.table.spans_of_bars.Goals as goal

pub loop-bar-preserved : goal.loop-bar-preserved
loop-bar-preserved c =
    push_more (λ bar. spans_from 0 c.args.pieces.now (Object.Bar record { 0 = bar })) c.loop-bar.bar [] c.loop-bar.all c.push.new.self c.in_ok-spans_of.field-0 c.loop-bar.invariant c.in_ok-push.ensures.ok c.in_ok-spans_of.ensures
