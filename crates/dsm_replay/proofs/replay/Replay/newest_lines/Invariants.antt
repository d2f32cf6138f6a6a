use Rattle.std.proofs.Common.{◌≡◌}
use Rattle.std.specs.List.{flat_map}
use Rattle.dsm_barrier.specs.Joined.{with_lines}
use Rattle.dsm_replay.specs.Inputs.{lines_of_version}
use Rattle.dsm_replay.specs.Newest.{falling, newest_lines}
use Rattle.dsm_replay.specs.Replays.{told_to}
use Rattle.dsm_replay.proofs.replay.Replay.newest_lines.Given as goal

-- with those of the versions that are still to come they are all
abbrev pub invariant-loop-version : goal.invariant-loop-version
invariant-loop-version l =
    with_lines l.merged (flat_map (lines_of_version (told_to l.self) l.lock.0) (falling l.over l.version))
    ≡ newest_lines (lines_of_version (told_to l.self) l.lock.0) l.over l.upto

abbrev pub decreases-loop-version : goal.decreases-loop-version
decreases-loop-version l = l.version
