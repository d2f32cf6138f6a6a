use Rattle.std.proofs.Common.{[]}
use Rattle.dsm_base.specs.declared.setup.Object.{Object}
use Rattle.dsm_lines.specs.Places.{spans_from}
use Rattle.dsm_lines.proofs.Tabling.{push_more}
use Rattle.dsm_lines.proofs.table.spans_of_locks.Goals as goal

pub loop-lock-preserved : goal.loop-lock-preserved
loop-lock-preserved c =
    push_more (λ lock. spans_from 0 c.args.pieces.now (Object.Lock record { 0 = lock })) c.loop-lock.lock [] c.loop-lock.all c.push.new.self c.in_ok-spans_of.field-0 c.loop-lock.invariant c.in_ok-push.ensures.ok c.in_ok-spans_of.ensures
