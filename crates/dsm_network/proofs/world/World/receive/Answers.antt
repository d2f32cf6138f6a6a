use Rattle.std.proofs.Common.{◌<◌, length, arith}
use Rattle.std.proofs.lemmas.Result.{on_ok_weaker, IfOk-weaker}
use Rattle.dsm_network.specs.World.{setup_of}
use Rattle.dsm_network.proofs.Replaced.{node_of, node_kept, shaped_replaced, handled_net, handled_effects, handled_result}
use Rattle.dsm_network.proofs.world.World.receive.Goals as goal

pub returns-clause-effects : goal.returns-clause-effects
returns-clause-effects g c =
    let kind = g.M.Made.Task.kind in
    let first = g.M.TaskMaker.first in
    let world = c.args.self.now in
    let p = c.args.proc.0 in
    let within : p < length world.nodes.items = omega (arith, c.requires.shape.count, c.requires.proc) in
    let node = c.index_mut.result.now in
    let read = c.index_mut.ensures.value in
    let is = node_of kind first world p within c.requires.shape c.requires.proc node read in
    IfOk-weaker c.receive.result _ _ (handled_effects kind first world p within node c.receive.new.self read is c.args.msg) c.receive.ensures.effects

pub returns-clause-net : goal.returns-clause-net
returns-clause-net g c =
    let kind = g.M.Made.Task.kind in
    let first = g.M.TaskMaker.first in
    let world = c.args.self.now in
    let p = c.args.proc.0 in
    let within : p < length world.nodes.items = omega (arith, c.requires.shape.count, c.requires.proc) in
    let node = c.index_mut.result.now in
    let read = c.index_mut.ensures.value in
    let is = node_of kind first world p within c.requires.shape c.requires.proc node read in
    on_ok_weaker c.receive.result (handled_net kind first world p within node c.receive.new.self read is c.args.msg) c.receive.ensures.processor

pub returns-clause-shape : goal.returns-clause-shape
returns-clause-shape g c =
    let kind = g.M.Made.Task.kind in
    let first = g.M.TaskMaker.first in
    let world = c.args.self.now in
    let p = c.args.proc.0 in
    let within : p < length world.nodes.items = omega (arith, c.requires.shape.count, c.requires.proc) in
    let node = c.index_mut.result.now in
    let is = node_of kind first world p within c.requires.shape c.requires.proc node c.index_mut.ensures.value in
    on_ok_weaker c.receive.result (λ whole. shaped_replaced kind first world p within c.receive.new.self (node_kept kind (setup_of world) p node c.receive.new.self is whole c.receive.ensures.same) c.requires.shape) c.receive.ensures.whole

pub returns-clause-sends : goal.returns-clause-sends
returns-clause-sends g c =
    let kind = g.M.Made.Task.kind in
    let first = g.M.TaskMaker.first in
    let world = c.args.self.now in
    let p = c.args.proc.0 in
    let within : p < length world.nodes.items = omega (arith, c.requires.shape.count, c.requires.proc) in
    let node = c.index_mut.result.now in
    let read = c.index_mut.ensures.value in
    let is = node_of kind first world p within c.requires.shape c.requires.proc node read in
    handled_result kind (setup_of world) p c.requires.proc node is c.args.msg c.receive.result c.requires.msg.names c.receive.ensures.effects c.receive.ensures.within
