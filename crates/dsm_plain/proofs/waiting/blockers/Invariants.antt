use Rattle.std.proofs.Common.{◌≡◌}
use Rattle.dsm_base.specs.Rights.{held_of}
use Rattle.dsm_plain.specs.Machine.{rights_at}
use Rattle.dsm_plain.specs.Waiting.{blockers}
use Rattle.dsm_plain.proofs.waiting.blockers.Given as goal

abbrev pub invariant-loop-at : goal.invariant-loop-at
invariant-loop-at l = l.holders ≡ blockers l.at (λ p. held_of (rights_at l.rights p)) l.me.0 l.lock.0 l.mode
