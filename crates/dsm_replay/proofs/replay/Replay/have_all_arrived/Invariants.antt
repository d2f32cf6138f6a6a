use Rattle.std.specs.Prelude.{is_some}
use Rattle.std.proofs.Common.{◌≡◌, true, ◌||◌, ◌==◌}
use Rattle.std.specs.Option.{option_and_then}
use Rattle.dsm_base.specs.Family.{all_below}
use Rattle.dsm_replay.specs.Reports.{lines_arrived}
use Rattle.dsm_replay.specs.Replays.{told_to}
use Rattle.dsm_replay.proofs.replay.Replay.have_all_arrived.Given as goal

-- all gone over have come
abbrev pub invariant-loop-q : goal.invariant-loop-q
invariant-loop-q l =
    all_below l.q (λ q. (q == l.self.me.0) || is_some (option_and_then (lines_arrived l.bar.0 l.ended) ((told_to l.self).reports q))) ≡ true
