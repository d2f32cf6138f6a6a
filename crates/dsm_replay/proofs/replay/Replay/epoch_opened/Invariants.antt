use Rattle.std.proofs.Common.{◌≡◌}
use Rattle.std.specs.Option.{option_and_then}
use Rattle.dsm_replay.specs.Reports.{epoch_opened, first_below}
use Rattle.dsm_replay.specs.Replays.{told_to}
use Rattle.dsm_replay.proofs.replay.Replay.epoch_opened.Given as goal

-- the first answer of those gone over
abbrev pub invariant-loop-q : goal.invariant-loop-q
invariant-loop-q l = l.epoch ≡ first_below l.q (λ q. option_and_then (epoch_opened l.turn l.bar.0) ((told_to l.self).reports q))
