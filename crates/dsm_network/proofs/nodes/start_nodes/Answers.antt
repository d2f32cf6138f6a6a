use Rattle.std.proofs.Common.{◌≡◌, arith, subst, ap}
use Rattle.dsm_base.specs.declared.setup.Setup.{Setup}
use Rattle.dsm_network.specs.Nodes.{AreStartNodes}
use Rattle.dsm_network.proofs.Start.{start_more}
use Rattle.dsm_network.proofs.nodes.start_nodes.Goals as goal

pub loop-me-preserved : goal.loop-me-preserved
loop-me-preserved g c =
    start_more g.M.Made.Task.kind c.args.setup.now.value (g.M.TaskMaker.first c.args.maker.now c.args.setup.now.value.procs) c.loop-me.me c.loop-me.nodes.items c.push.new.self.items c.in_ok-start_node.field-0 c.loop-me.invariant c.in_ok-start_node.ensures.node c.in_ok-start_node.ensures.processor c.in_ok-push.ensures.items

pub returns : goal.returns
returns g c =
    let all : c.loop-me.me ≡ c.args.setup.now.value.procs = omega (arith, ap (λ (setup : Setup). setup.procs) c.deref.ensures) in
    subst (λ count. AreStartNodes g.M.Made.Task.kind c.args.setup.now.value (g.M.TaskMaker.first c.args.maker.now c.args.setup.now.value.procs) count c.loop-me.nodes.items) all c.loop-me.invariant
