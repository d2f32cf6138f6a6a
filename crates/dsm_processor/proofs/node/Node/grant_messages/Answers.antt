use Rattle.std.proofs.Common.{◌+◌, [], ◌∷◌, ◌++◌, not, get_or, drop, map, filter, ap, ◌∙◌}
use Rattle.dsm_base.specs.declared.names.Mode.{Mode}
use Rattle.dsm_home.specs.declared.waiting.Waiting.{Waiting}
use Rattle.dsm_net.specs.Grants.{grant_message, is_of}
use Rattle.dsm_processor.specs.Node.{processor_of, setup_of, me_of}
use Rattle.dsm_processor.proofs.Granted.{is_its, not_its}
use Rattle.dsm_processor.proofs.Left.{next_in, next_out, none_left}
use Rattle.dsm_processor.proofs.node.Node.grant_messages.Goals.{then-one-self+in_ok-grant_message+in_ok-push, else-one-self}
use Rattle.dsm_processor.proofs.node.Node.grant_messages.Goals as goal

pub loop-one-preserved : goal.loop-one-preserved
loop-one-preserved g c =
    let self = c.args.self.now in
    let items = c.as_slice-one-items.result.now in
    let i = c.loop-one.one-index in
    let done = c.loop-one.sends in
    let no_one : Waiting = record { proc = record { 0 = 0 }; turn = 0; mode = Mode.Shared; «have» = 0 } in
    let of = grant_message (setup_of self) (me_of self) (processor_of g.T.Task.kind self) c.args.lock in
    let others = λ (one : Waiting). not (is_of (me_of self) one) in
    elim c.if-one-self.branch [
      | then-one-self+in_ok-grant_message+in_ok-push w ↦
          ap (λ sends. sends ++ map of (filter others (drop (i + 1) items))) (w.sends-is ∙ w.in_ok-push.ensures.ok ∙ ap (λ msg. done ++ msg ∷ []) w.in_ok-grant_message.ensures)
          ∙ next_in of others items (map of (filter others items)) done i no_one c.loop-one-test.true (ap not (not_its (get_or items i no_one) (me_of self) w.if-one-self.true)) c.loop-one.invariant
      | else-one-self w ↦
          ap (λ sends. sends ++ map of (filter others (drop (i + 1) items))) w.sends-is
          ∙ next_out of others items (map of (filter others items)) done i no_one c.loop-one-test.true (ap not (is_its (get_or items i no_one) (me_of self) w.if-one-self.false)) c.loop-one.invariant
    ]

pub returns : goal.returns
returns g c =
    let self = c.args.self.now in
    let of = grant_message (setup_of self) (me_of self) (processor_of g.T.Task.kind self) c.args.lock in
    let others = λ (one : Waiting). not (is_of (me_of self) one) in
    let items = c.as_slice-one-items.result.now in
    none_left of others items (map of (filter others items)) c.loop-one.sends c.loop-one.one-index c.loop-one-test.false c.loop-one.invariant
    ∙ ap (λ xs. map of (filter others xs)) c.as_slice-one-items.ensures
