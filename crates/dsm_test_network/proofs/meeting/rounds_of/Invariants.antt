use Rattle.std.proofs.Common.{◌≡◌}
use Rattle.dsm_network.specs.World.{setup_of, IsWhole}
use Rattle.dsm_test_network.specs.Crossing.{crosser_kind, first_crosser}
use Rattle.dsm_test_network.proofs.meeting.rounds_of.Given as goal

-- what the rounds so far have left
abbrev pub invariant-loop : goal.invariant-loop
invariant-loop l =
    record {
      whole : IsWhole crosser_kind first_crosser l.world;
      procs : (setup_of l.world).procs ≡ l.procs;
    }
