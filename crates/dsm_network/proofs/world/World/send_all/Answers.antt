use Rattle.std.proofs.Common.{◌≡◌, ◌∷◌, sym, ap, ◌∙◌, subst}
use Rattle.std.specs.List.{All}
use Rattle.std.proofs.lemmas.List.Elements.{All-tail}
use Rattle.dsm_net.specs.Units.{with_messages}
use Rattle.dsm_network.specs.World.{setup_of, made_of, IsSendable}
use Rattle.dsm_network.proofs.Sending.{first_removed, nodes_trans}
use Rattle.dsm_network.proofs.world.World.send_all.Goals as goal

pub loop-sends-preserved : goal.loop-sends-preserved
loop-sends-preserved g c =
    let loop = c.loop-sends in
    let sends = loop.sends in
    let msg = c.remove-msg.result in
    let are : sends ≡ msg ∷ c.remove-msg.new.self = first_removed sends msg c.remove-msg.ensures.item ∙ ap (λ left. msg ∷ left) (sym c.remove-msg.ensures.rest) in
    record {
      made = ap (λ made. with_messages made c.remove-msg.new.self) c.in_ok-send.ensures.made
          ∙ ap (λ sends. with_messages (made_of g.M.Made.Task.kind g.M.TaskMaker.first loop.self loop.records) sends) (sym are)
          ∙ loop.invariant.made;
      sendable =
          let all : All (IsSendable (setup_of loop.self)) (msg ∷ c.remove-msg.new.self) = subst (All (IsSendable (setup_of loop.self))) are loop.invariant.sendable in
          rw c.in_ok-send.ensures.same.world.setup (All-tail (IsSendable (setup_of loop.self)) msg c.remove-msg.new.self all);
      shape = c.in_ok-send.ensures.shape;
      same = nodes_trans c.args.self.now loop.self c.send.new.self loop.invariant.same c.in_ok-send.ensures.same;
    }
