use Rattle.std.proofs.Common.{◌≡◌, ℕ, ◌+◌, ◌-◌, None, length}
use Rattle.dsm_base.specs.Family.{family_of}
use Rattle.dsm_replay.proofs.gather.reach.Given as goal

-- what was added has no report
abbrev pub invariant-loop-reports : goal.invariant-loop-reports
invariant-loop-reports l = (q : ℕ) → family_of (λ p. None) l.reports.items q ≡ family_of (λ p. None) l.fn.reports.items q

abbrev pub decreases-loop-reports : goal.decreases-loop-reports
decreases-loop-reports l = l.index + 1 - length l.reports.items
