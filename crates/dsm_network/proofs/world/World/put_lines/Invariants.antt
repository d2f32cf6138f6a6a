use Rattle.std.proofs.Common.{◌≡◌, length}
use Rattle.dsm_net.specs.Units.{with_lines_out}
use Rattle.dsm_network.specs.World.{made_of, IsShaped, HasSameNodes}
use Rattle.dsm_network.proofs.world.World.put_lines.Given as goal

-- what is left to put out makes the whole
abbrev pub invariant-loop-proc : goal.invariant-loop-proc
invariant-loop-proc g l =
    record {
      made : with_lines_out (made_of g.M.Made.Task.kind g.M.TaskMaker.first l.self l.records) l.proc.0 l.lines ≡ with_lines_out (made_of g.M.Made.Task.kind g.M.TaskMaker.first l.initial.self l.initial.records) l.proc.0 l.fn.lines;
      shape : IsShaped g.M.Made.Task.kind l.self;
      same : HasSameNodes l.initial.self l.self;
    }

abbrev pub decreases-loop-proc : goal.decreases-loop-proc
decreases-loop-proc g l = length l.lines
