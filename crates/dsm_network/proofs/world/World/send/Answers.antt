use Rattle.std.proofs.Common.{◌≡◌, ◌+◌, ◌++◌, ◌∷◌, ℕ, List, [], ap, ◌∙◌, subst, sym, rules}
use Rattle.std.specs.List.{All}
use Rattle.std.proofs.lemmas.List.Elements.{All-append, All-cons, All-nil}
use Rattle.dsm_base.specs.Family.{update_at}
use Rattle.dsm_channels.specs.Channels.{under_way}
use Rattle.dsm_net.specs.declared.trace.Letter.{Letter}
use Rattle.dsm_net.specs.declared.trace.Rec.{Rec}
use Rattle.dsm_network.specs.World.{setup_of, net_of, IsReceivable}
use Rattle.dsm_network.proofs.UnderWay.{updated}
use Rattle.dsm_network.proofs.world.World.send.Goals as goal

pub returns-clause-made : goal.returns-clause-made
returns-clause-made g c =
    let old = c.args.self.now in
    let from = c.args.msg.from.0 in
    let to = c.args.msg.to.0 in
    let sent : c.in_ok-number.number ≡ old.sent + 1 = search rules in
    let under : under_way c.send.new.self ≡ update_at (under_way old.channels) from to (under_way old.channels from to ++ record { number = old.sent + 1; msg = c.args.msg } ∷ []) =
    c.in_ok-send.ensures.letters
    ∙ (λ i. update_at (under_way old.channels) from to (under_way old.channels from to ++ record { number = sent i; msg = c.args.msg } ∷ [])) in
    λ i. record {
      net = record (net_of g.M.Made.Task.kind g.M.TaskMaker.first old) { channels = under i; sent = sent i };
      records = (c.in_ok-push.ensures.ok ∙ ap (λ n. c.args.records.now ++ Rec.Sent n c.args.msg ∷ []) sent) i;
    }

pub returns-clause-shape : goal.returns-clause-shape
returns-clause-shape g c =
    let shape = c.requires.shape in
    let old = c.args.self.now in
    let from = c.args.msg.from.0 in
    let to = c.args.msg.to.0 in
    let letter : Letter = record { number = c.in_ok-number.number; msg = c.args.msg } in
    let P = λ (q : ℕ) (letter : Letter). IsReceivable (setup_of old) q letter.msg in
    record {
      count = shape.count;
      nodes = shape.nodes;
      channels = c.send.ensures.procs ∙ shape.channels;
      letters = λ p q. subst (λ (family : ℕ → ℕ → List Letter). All (P q) (family p q)) (sym c.in_ok-send.ensures.letters)
          (updated (λ r. All (P r)) (under_way old.channels) from to (under_way old.channels from to ++ letter ∷ []) shape.letters
          (All-append (P to) (under_way old.channels from to) (letter ∷ []) (shape.letters from to)
          (All-cons (P to) letter [] (record { from = c.requires.msg.from; names = c.requires.msg.names; kept = c.requires.msg.kept }) (All-nil (P to)))) p q);
      out = shape.out;
    }
