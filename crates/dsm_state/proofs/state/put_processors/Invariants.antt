use Rattle.std.proofs.Common.{◌≡◌, ◌++◌}
use Rattle.std.specs.Prelude.{reverse}
use Rattle.std.specs.List.{range_with_len}
use Rattle.dsm_network.specs.World.{net_of, groups_of}
use Rattle.dsm_state.specs.States.{processors_text}
use Rattle.dsm_state.proofs.state.put_processors.Given as goal

-- the processors so far are told
abbrev pub invariant-loop-proc : goal.invariant-loop-proc
invariant-loop-proc g l =
    l.out.items
    ≡ l.fn.out.items ++ processors_text (net_of g.M.Made.Task.kind g.M.TaskMaker.first l.world) (reverse (groups_of l.world)) (range_with_len 0 l.proc)
