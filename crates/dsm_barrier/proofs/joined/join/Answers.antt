use Rattle.std.proofs.Common.{◌++◌, [], ◌∷◌, ◌∙◌, ap, arith}
use Rattle.dsm_barrier.proofs.Joining.{step_put, step_left}
use Rattle.dsm_barrier.proofs.joined.join.Goals as goal
use Rattle.dsm_barrier.proofs.joined.join.Goals.{then-not-begins_with+in_ok-push, else-not-begins_with}

pub loop-line-preserved : goal.loop-line-preserved
loop-line-preserved c =
    elim c.if-not-begins_with.branch [
      | then-not-begins_with+in_ok-push w ↦
          step_put c.args.kept.now c.args.more.now c.loop-line.joined c.loop-line.rest.now c.loop-line.line-index c.line-item.result c.loop-line.invariant c.loop-line-test.true c.line-item.is
          c.count_below-before.result c.count_below-before.ensures.place c.split_at.result.0.now c.if-not-begins_with.rest.now c.push_all.new.joined c.if-not-begins_with.joined
          c.split_at.ensures.front (rw w.rest-is c.split_at.ensures.back) c.in_ok-push_all.ensures
          (rw w.rest-is (grind (arith, c.begins_with.ensures, w.if-not-begins_with.true)))
          (w.joined-is ∙ w.in_ok-push.ensures.ok ∙ ap (λ one. c.push_all.new.joined ++ one ∷ []) w.copy_of.ensures)
      | else-not-begins_with w ↦
          step_left c.args.kept.now c.args.more.now c.loop-line.joined c.loop-line.rest.now c.loop-line.line-index c.line-item.result c.loop-line.invariant c.loop-line-test.true c.line-item.is
          c.count_below-before.result c.count_below-before.ensures.place c.split_at.result.0.now c.if-not-begins_with.rest.now c.push_all.new.joined c.if-not-begins_with.joined
          c.split_at.ensures.front (rw w.rest-is c.split_at.ensures.back) c.in_ok-push_all.ensures
          (rw w.rest-is (grind (arith, c.begins_with.ensures, w.if-not-begins_with.false)))
          w.joined-is
    ]
