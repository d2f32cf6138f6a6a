use Rattle.std.proofs.Common.{◌≡◌}
use Rattle.dsm_base.specs.Rights.{arrived_of}
use Rattle.dsm_plain.specs.Machine.{rights_at}
use Rattle.dsm_plain.specs.Waiting.{late}
use Rattle.dsm_plain.proofs.waiting.late.Given as goal

abbrev pub invariant-loop-at : goal.invariant-loop-at
invariant-loop-at l = l.procs ≡ late l.at (λ p. arrived_of (rights_at l.rights p)) l.epoch l.bar.0
