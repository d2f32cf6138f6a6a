use Rattle.std.proofs.Common.{◌≡◌, ◌*◌, arith}
use Rattle.std.proofs.lemmas.Grind.{common_steps}
use Rattle.dsm_check.proofs.Pieces.{one_length}
use Rattle.dsm_check.proofs.bindings.Binder.bind_each.Goals as goal

pub overflow_cast-count : goal.overflow_cast-count
overflow_cast-count c =
    let count = c.natural-count.result in
    let size = c.in_ok-size.size in
    let all : c.in-Some.total ≡ size * count = grind (arith, common_steps) in
    omega (arith, all, one_length size count (omega (arith, c.in_ok-size.ensures.same, c.in_ok-lock.ensures.some)), c.if-from-total.false, c.in_ok-cells.ensures.few)
