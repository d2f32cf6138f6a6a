use Rattle.std.proofs.Common.{◌<◌, length, arith}
use Rattle.std.proofs.lemmas.Result.{on_ok_weaker, IfOk-weaker}
use Rattle.dsm_network.specs.World.{setup_of}
use Rattle.dsm_network.proofs.Replaced.{node_of, node_kept, shaped_replaced, turn_net, turn_stepped, turn_result}
use Rattle.dsm_network.proofs.world.World.turn.Goals as goal

pub returns-clause-stepped : goal.returns-clause-stepped
returns-clause-stepped g c =
    let kind = g.M.Made.Task.kind in
    let first = g.M.TaskMaker.first in
    let world = c.args.self.now in
    let p = c.args.proc.0 in
    let within : p < length world.nodes.items = omega (arith, c.requires.shape.count, c.requires.proc) in
    let node = c.index_mut.result.now in
    let read = c.index_mut.ensures.value in
    let is = node_of kind first world p within c.requires.shape c.requires.proc node read in
    IfOk-weaker c.step.result _ _ (turn_stepped kind first world p within node c.step.new.self read is) c.step.ensures.stepped

pub returns-clause-net : goal.returns-clause-net
returns-clause-net g c =
    let kind = g.M.Made.Task.kind in
    let first = g.M.TaskMaker.first in
    let world = c.args.self.now in
    let p = c.args.proc.0 in
    let within : p < length world.nodes.items = omega (arith, c.requires.shape.count, c.requires.proc) in
    let node = c.index_mut.result.now in
    let read = c.index_mut.ensures.value in
    let is = node_of kind first world p within c.requires.shape c.requires.proc node read in
    on_ok_weaker c.step.result (turn_net kind first world p within node c.step.new.self read is) c.step.ensures.processor

pub returns-clause-shape : goal.returns-clause-shape
returns-clause-shape g c =
    let kind = g.M.Made.Task.kind in
    let first = g.M.TaskMaker.first in
    let world = c.args.self.now in
    let p = c.args.proc.0 in
    let within : p < length world.nodes.items = omega (arith, c.requires.shape.count, c.requires.proc) in
    let node = c.index_mut.result.now in
    let is = node_of kind first world p within c.requires.shape c.requires.proc node c.index_mut.ensures.value in
    on_ok_weaker c.step.result (λ whole. shaped_replaced kind first world p within c.step.new.self (node_kept kind (setup_of world) p node c.step.new.self is whole c.step.ensures.same) c.requires.shape) c.step.ensures.whole

pub returns-clause-sends : goal.returns-clause-sends
returns-clause-sends g c =
    let kind = g.M.Made.Task.kind in
    let first = g.M.TaskMaker.first in
    let world = c.args.self.now in
    let p = c.args.proc.0 in
    let within : p < length world.nodes.items = omega (arith, c.requires.shape.count, c.requires.proc) in
    let node = c.index_mut.result.now in
    let is = node_of kind first world p within c.requires.shape c.requires.proc node c.index_mut.ensures.value in
    turn_result kind (setup_of world) p c.requires.proc node is c.step.result c.step.ensures.stepped c.step.ensures.within
