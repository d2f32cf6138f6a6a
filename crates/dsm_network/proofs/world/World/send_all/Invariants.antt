use Rattle.std.proofs.Common.{◌≡◌, length}
use Rattle.std.specs.List.{All}
use Rattle.dsm_net.specs.Units.{with_messages}
use Rattle.dsm_network.specs.World.{setup_of, made_of, IsSendable, IsShaped, HasSameNodes}
use Rattle.dsm_network.proofs.world.World.send_all.Given as goal

-- what is left to send makes the whole
abbrev pub invariant-loop-sends : goal.invariant-loop-sends
invariant-loop-sends g l =
    record {
      made : with_messages (made_of g.M.Made.Task.kind g.M.TaskMaker.first l.self l.records) l.sends ≡ with_messages (made_of g.M.Made.Task.kind g.M.TaskMaker.first l.initial.self l.initial.records) l.fn.sends;
      sendable : All (IsSendable (setup_of l.self)) l.sends;
      shape : IsShaped g.M.Made.Task.kind l.self;
      same : HasSameNodes l.initial.self l.self;
    }

abbrev pub decreases-loop-sends : goal.decreases-loop-sends
decreases-loop-sends g l = length l.sends
