use Rattle.std.proofs.Common.{◌≡◌}
use Rattle.std.specs.Option.{option_and_then}
use Rattle.dsm_replay.specs.Reports.{version_granted, first_below}
use Rattle.dsm_replay.specs.Replays.{told_to}
use Rattle.dsm_replay.proofs.replay.Replay.version_granted.Given as goal

-- the first answer of those gone over
abbrev pub invariant-loop-q : goal.invariant-loop-q
invariant-loop-q l = l.version ≡ first_below l.q (λ q. option_and_then (version_granted l.turn l.lock.0) ((told_to l.self).reports q))
