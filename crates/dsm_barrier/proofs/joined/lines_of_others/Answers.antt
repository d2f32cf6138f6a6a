use Rattle.std.proofs.Common.{◌∙◌, sym, ap, subst}
use Rattle.std.specs.List.{All}
use Rattle.dsm_lines.specs.LineLists.{are_lines}
use Rattle.dsm_barrier.specs.Joined.{with_lines}
use Rattle.dsm_barrier.specs.Barriers.{HasLines, brought_by}
use Rattle.dsm_barrier.proofs.Joining.{own_left_out}
use Rattle.dsm_barrier.proofs.Arriving.{oldest_has_lines, joined_on}
use Rattle.dsm_barrier.proofs.joined.lines_of_others.Goals as goal
use Rattle.dsm_barrier.proofs.joined.lines_of_others.Goals.{then-other-proc+in_ok-lines, else-other-proc}

pub join-requires : goal.join-requires
join-requires c =
    ap are_lines c.oldest_lines.ensures
    ∙ oldest_has_lines c.index-waiting-other.result
    (subst (All HasLines) (sym c.index-waiting-other.is) (c.requires c.loop-other.other c.index-waiting-other.result c.loop-other-test.true))

pub loop-other-preserved : goal.loop-other-preserved
loop-other-preserved c =
    elim c.if-other-proc.branch [
      | then-other-proc+in_ok-lines w ↦
          w.lines-is ∙ w.in_ok-lines.ensures
          ∙ ap (λ front. with_lines front w.oldest_lines.result.now) w.as_slice.ensures
          ∙ ap (with_lines c.loop-other.lines) w.oldest_lines.ensures
          ∙ joined_on c.args.waiting.now c.loop-other.lines c.loop-other.other c.args.proc c.index-waiting-other.result c.loop-other-test.true c.index-waiting-other.is c.loop-other.invariant w.if-other-proc.true
      | else-other-proc w ↦
          w.lines-is ∙ c.loop-other.invariant ∙ sym (own_left_out (brought_by c.args.waiting.now) c.loop-other.other c.args.proc w.if-other-proc.false)
    ]
