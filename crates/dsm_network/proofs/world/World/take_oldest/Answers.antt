use Rattle.std.proofs.Common.{◌∙◌, ℕ, List, ap, subst, sym}
use Rattle.std.specs.List.{All}
use Rattle.std.proofs.lemmas.Result.{on_err_weaker}
use Rattle.dsm_channels.specs.Channels.{under_way}
use Rattle.dsm_net.specs.declared.trace.Letter.{Letter}
use Rattle.dsm_network.specs.World.{setup_of, net_of, IsReceivable}
use Rattle.dsm_network.proofs.UnderWay.{updated, taken_out, left_over, none_taken}
use Rattle.dsm_network.proofs.world.World.take_oldest.Goals as goal

pub returns-clause-named : goal.returns-clause-named
returns-clause-named g c =
    let old = c.args.self.now in
    let from = c.args.from.0 in
    let to = c.args.to.0 in
    taken_out (λ letter. IsReceivable (setup_of old) to letter.msg) (under_way old.channels from to) (under_way c.deliver.new.self from to)
    c.deliver.result c.deliver.ensures.letter (c.requires.shape.letters from to)

pub returns-clause-net : goal.returns-clause-net
returns-clause-net g c =
    λ i. record (net_of g.M.Made.Task.kind g.M.TaskMaker.first c.args.self.now) { channels = c.deliver.ensures.others i }

pub returns-clause-none : goal.returns-clause-none
returns-clause-none g c =
    none_taken c.deliver.result (λ same. λ i. record (net_of g.M.Made.Task.kind g.M.TaskMaker.first c.args.self.now) { channels = under_way (same i) })
    c.deliver.ensures.none

pub returns-clause-shape : goal.returns-clause-shape
returns-clause-shape g c =
    let old = c.args.self.now in
    let from = c.args.from.0 in
    let to = c.args.to.0 in
    let shape = c.requires.shape in
    let P = λ (q : ℕ) (letter : Letter). IsReceivable (setup_of old) q letter.msg in
    let left = left_over (P to) (under_way old.channels from to) (under_way c.deliver.new.self from to) c.deliver.result c.deliver.ensures.letter
    (none_taken c.deliver.result (λ same. ap (λ channels. under_way channels from to) same) c.deliver.ensures.none)
    (on_err_weaker c.deliver.result (λ same. ap (λ channels. under_way channels from to) same) c.deliver.ensures.err)
    (shape.letters from to) in
    record {
      count = shape.count;
      nodes = shape.nodes;
      channels = c.deliver.ensures.procs ∙ shape.channels;
      letters = λ p q. subst (λ (family : ℕ → ℕ → List Letter). All (P q) (family p q)) (sym c.deliver.ensures.others)
          (updated (λ r. All (P r)) (under_way old.channels) from to (under_way c.deliver.new.self from to) shape.letters left p q);
      out = shape.out;
    }
