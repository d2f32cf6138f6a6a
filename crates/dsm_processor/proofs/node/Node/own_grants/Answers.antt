use Rattle.std.proofs.Common.{◌+◌, [], ◌∷◌, ◌++◌, get_or, drop, map, filter, ap, ◌∙◌}
use Rattle.dsm_base.specs.declared.names.Mode.{Mode}
use Rattle.dsm_home.specs.declared.waiting.Waiting.{Waiting}
use Rattle.dsm_net.specs.Grants.{own_grant, is_of}
use Rattle.dsm_processor.specs.Node.{processor_of, setup_of, me_of}
use Rattle.dsm_processor.proofs.Granted.{is_its, not_its}
use Rattle.dsm_processor.proofs.Left.{next_in, next_out}
use Rattle.dsm_processor.proofs.node.Node.own_grants.Goals.{then-one-self+in_ok-own_grant+in_ok-push, else-one-self}
use Rattle.dsm_processor.proofs.node.Node.own_grants.Goals as goal

pub loop-one-preserved : goal.loop-one-preserved
loop-one-preserved g c =
    let self = c.args.self.now in
    let items = c.as_slice-one-items.result.now in
    let i = c.loop-one.one-index in
    let done = c.loop-one.grants.items in
    let no_one : Waiting = record { proc = record { 0 = 0 }; turn = 0; mode = Mode.Shared; «have» = 0 } in
    let of = own_grant (setup_of self) (processor_of g.T.Task.kind self) c.args.lock in
    let its = is_of (me_of self) in
    elim c.if-one-self.branch [
      | then-one-self+in_ok-own_grant+in_ok-push w ↦
          ap (λ grants. grants.items ++ map of (filter its (drop (i + 1) items))) w.grants-is
          ∙ ap (λ grants. grants ++ map of (filter its (drop (i + 1) items))) (w.in_ok-push.ensures.items ∙ ap (λ grant. done ++ grant ∷ []) w.in_ok-own_grant.ensures)
          ∙ next_in of its items (map of (filter its items)) done i no_one c.loop-one-test.true (is_its (get_or items i no_one) (me_of self) w.if-one-self.true) c.loop-one.invariant
      | else-one-self w ↦
          ap (λ grants. grants.items ++ map of (filter its (drop (i + 1) items))) w.grants-is
          ∙ next_out of its items (map of (filter its items)) done i no_one c.loop-one-test.true (not_its (get_or items i no_one) (me_of self) w.if-one-self.false) c.loop-one.invariant
    ]
