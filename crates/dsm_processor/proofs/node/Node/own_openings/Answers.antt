use Rattle.std.proofs.Common.{◌+◌, [], ◌∷◌, ◌++◌, get_or, drop, map, filter, sym, ap, ◌∙◌}
use Rattle.dsm_lines.specs.declared.of_objects.Opening.{Opening}
use Rattle.dsm_net.specs.Openings.{own_opening, is_to}
use Rattle.dsm_processor.specs.Node.{me_of}
use Rattle.dsm_processor.proofs.Opened.{is_for, not_for}
use Rattle.dsm_processor.proofs.Left.{next_in, next_out}
use Rattle.dsm_processor.proofs.node.Node.own_openings.Goals.{then-one-self+in_ok-own_opening+in_ok-push, else-one-self}
use Rattle.dsm_processor.proofs.node.Node.own_openings.Goals as goal

pub loop-one-preserved : goal.loop-one-preserved
loop-one-preserved g c =
    let me = me_of c.args.self.now in
    let items = c.as_slice-one-items.result.now in
    let i = c.loop-one.one-index in
    let done = c.loop-one.own.items in
    let one = c.one-item.result in
    let its = is_to me in
    elim c.if-one-self.branch [
      | then-one-self+in_ok-own_opening+in_ok-push w ↦
          ap (λ own. own.items ++ map own_opening (filter its (drop (i + 1) items))) w.own-is
          ∙ ap (λ own. own ++ map own_opening (filter its (drop (i + 1) items))) (w.in_ok-push.ensures.items ∙ ap (λ opening. done ++ opening ∷ []) (w.in_ok-own_opening.ensures ∙ ap own_opening c.one-item.is))
          ∙ next_in own_opening its items (map own_opening (filter its items)) done i one c.loop-one-test.true (is_for (get_or items i one) me (ap (λ (x : Opening). x.to.0) (sym c.one-item.is) ∙ w.if-one-self.true)) c.loop-one.invariant
      | else-one-self w ↦
          ap (λ own. own.items ++ map own_opening (filter its (drop (i + 1) items))) w.own-is
          ∙ next_out own_opening its items (map own_opening (filter its items)) done i one c.loop-one-test.true (not_for (get_or items i one) me (λ e. w.if-one-self.false (ap (λ (x : Opening). x.to.0) c.one-item.is ∙ e))) c.loop-one.invariant
    ]
