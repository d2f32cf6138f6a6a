use Rattle.std.proofs.Common.{get_or, arith}
use Rattle.dsm_image.proofs.Zeros.{other_number, number_at_place, zeros_more}
use Rattle.dsm_image.proofs.frame.first_other.Goals as goal

pub returns-then-bytes-at-ne0 : goal.returns-then-bytes-at-ne0
returns-then-bytes-at-ne0 c =
    other_number c.args.bytes.now c.args.zeros c.loop-at.at (get_or c.args.bytes.now c.loop-at.at 0) (omega (arith, c.loop-at-test.true, c.min-due.ensures))
    (number_at_place c.args.bytes.now c.loop-at.at (omega (arith, c.loop-at-test.true, c.min-due.ensures))) c.if-bytes-at-ne0.true c.loop-at.invariant

pub loop-at-preserved : goal.loop-at-preserved
loop-at-preserved c = zeros_more c.args.bytes.now c.loop-at.at (omega (arith, c.loop-at-test.true, c.min-due.ensures)) c.if-bytes-at-ne0.false c.loop-at.invariant
