use Rattle.std.proofs.Common.{◌≡◌}
use Rattle.dsm_barrier.specs.BarrierStates.{lines_of_others}
use Rattle.dsm_replay.specs.Inputs.{lines_brought}
use Rattle.dsm_replay.specs.Replays.{told_to}
use Rattle.dsm_replay.proofs.replay.Replay.lines_of_others.Given as goal

-- the lines of those gone over
abbrev pub invariant-loop-q : goal.invariant-loop-q
invariant-loop-q l = l.merged ≡ lines_of_others (lines_brought (told_to l.self) l.bar.0 l.epoch) l.q l.self.me.0
