use Rattle.std.proofs.Common.{◌+◌, [], ◌∷◌, ◌++◌, not, get_or, drop, map, filter, sym, ap, ◌∙◌}
use Rattle.dsm_lines.specs.declared.of_objects.Opening.{Opening}
use Rattle.dsm_net.specs.Openings.{opening_message, is_to}
use Rattle.dsm_processor.specs.Node.{processor_of, me_of}
use Rattle.dsm_processor.proofs.Opened.{is_for, not_for}
use Rattle.dsm_processor.proofs.Left.{next_in, next_out, none_left}
use Rattle.dsm_processor.proofs.node.Node.opening_messages.Goals.{then-one-self+in_ok-opening_message+in_ok-push, else-one-self}
use Rattle.dsm_processor.proofs.node.Node.opening_messages.Goals as goal

pub loop-one-preserved : goal.loop-one-preserved
loop-one-preserved g c =
    let self = c.args.self.now in
    let items = c.as_slice-one-items.result.now in
    let i = c.loop-one.one-index in
    let done = c.loop-one.sends in
    let one = c.one-item.result in
    let of = opening_message (me_of self) (processor_of g.T.Task.kind self) in
    let others = λ (one : Opening). not (is_to (me_of self) one) in
    elim c.if-one-self.branch [
      | then-one-self+in_ok-opening_message+in_ok-push w ↦
          ap (λ sends. sends ++ map of (filter others (drop (i + 1) items))) (w.sends-is ∙ w.in_ok-push.ensures.ok ∙ ap (λ msg. done ++ msg ∷ []) (w.in_ok-opening_message.ensures ∙ ap of c.one-item.is))
          ∙ next_in of others items (map of (filter others items)) done i one c.loop-one-test.true (ap not (not_for (get_or items i one) (me_of self) (λ e. w.if-one-self.true (ap (λ (x : Opening). x.to.0) c.one-item.is ∙ e)))) c.loop-one.invariant
      | else-one-self w ↦
          ap (λ sends. sends ++ map of (filter others (drop (i + 1) items))) w.sends-is
          ∙ next_out of others items (map of (filter others items)) done i one c.loop-one-test.true (ap not (is_for (get_or items i one) (me_of self) (ap (λ (x : Opening). x.to.0) (sym c.one-item.is) ∙ w.if-one-self.false))) c.loop-one.invariant
    ]

pub returns : goal.returns
returns g c =
    let self = c.args.self.now in
    let of = opening_message (me_of self) (processor_of g.T.Task.kind self) in
    let others = λ (one : Opening). not (is_to (me_of self) one) in
    let items = c.as_slice-one-items.result.now in
    none_left of others items (map of (filter others items)) c.loop-one.sends c.loop-one.one-index c.loop-one-test.false c.loop-one.invariant
    ∙ ap (λ xs. map of (filter others xs)) c.as_slice-one-items.ensures
