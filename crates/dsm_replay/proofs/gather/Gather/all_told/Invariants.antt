use Rattle.std.specs.Prelude.{is_some}
use Rattle.std.proofs.Common.{◌≡◌, true, ◌||◌, ◌==◌}
use Rattle.dsm_base.specs.Family.{all_below}
use Rattle.dsm_replay.specs.Gathering.{gathered_by}
use Rattle.dsm_replay.proofs.gather.Gather.all_told.Given as goal

-- all gone over have told
abbrev pub invariant-loop-q : goal.invariant-loop-q
invariant-loop-q l = all_below l.q (λ q. (q == l.self.me.0) || is_some ((gathered_by l.self).reports q)) ≡ true
