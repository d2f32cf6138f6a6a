use Rattle.std.proofs.Common.{◌≡◌}
use Rattle.std.specs.Option.{option_and_then, option_copied}
use Rattle.dsm_replay.specs.Reports.{lines_made, first_below}
use Rattle.dsm_replay.specs.Replays.{told_to}
use Rattle.dsm_replay.proofs.replay.Replay.first_made.Given as goal

-- the first answer of those gone over
abbrev pub invariant-loop-q : goal.invariant-loop-q
invariant-loop-q l = option_copied l.lines ≡ first_below l.q (λ q. option_and_then (lines_made l.lock.0 l.version) ((told_to l.self).reports q))
