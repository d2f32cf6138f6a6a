use Rattle.std.proofs.Common.{◌≡◌, ℕ}
use Rattle.dsm_load.specs.Draws.{state_after}
use Rattle.dsm_load.specs.Jobs.{AppendsDrawn}
use Rattle.dsm_load.proofs.job.push_drawn.Given as goal

-- so many entries as the count says were appended
abbrev pub invariant-loop : goal.invariant-loop
invariant-loop l = (seed from : ℕ) → l.fn.draws.state ≡ state_after seed from → AppendsDrawn seed from l.counter l.fn.entries l.entries l.draws.state
