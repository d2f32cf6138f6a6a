use Rattle.std.proofs.Common.{◌≡◌, ◌++◌}
use Rattle.std.specs.List.{range_with_len}
use Rattle.dsm_network.specs.World.{setup_of, net_of}
use Rattle.dsm_state.specs.States.{locks_text}
use Rattle.dsm_state.proofs.state.put_locks.Given as goal

-- the locks so far are told
abbrev pub invariant-loop-lock : goal.invariant-loop-lock
invariant-loop-lock g l =
    l.out.items
    ≡ l.fn.out.items ++ locks_text (setup_of l.world) (net_of g.M.Made.Task.kind g.M.TaskMaker.first l.world) (range_with_len 0 l.lock)
