use Rattle.dsm_network.specs.Nodes.{AreStartNodes}
use Rattle.dsm_network.proofs.nodes.start_nodes.Given as goal

abbrev pub invariant-loop-me : goal.invariant-loop-me
invariant-loop-me g l = AreStartNodes g.M.Made.Task.kind l.setup.value (g.M.TaskMaker.first l.maker l.setup.value.procs) l.me l.nodes.items
