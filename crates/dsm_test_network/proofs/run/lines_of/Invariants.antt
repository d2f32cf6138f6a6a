use Rattle.std.proofs.Common.{◌≡◌}
use Rattle.dsm_network.specs.World.{setup_of, IsWhole}
use Rattle.dsm_test_network.proofs.run.lines_of.Given as goal

abbrev pub invariant-loop-act : goal.invariant-loop-act
invariant-loop-act g l =
    record {
      whole : IsWhole g.M.Made.Task.kind g.M.TaskMaker.first l.world;
      procs : (setup_of l.world).procs ≡ l.procs;
    }
