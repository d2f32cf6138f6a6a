use Rattle.std.proofs.Common.{◌≡◌}
use Rattle.dsm_code.specs.Machine.{ready, weight}
use Rattle.dsm_machine.specs.States.{state_in, IsFit}
use Rattle.dsm_machine.proofs.machine.Machine.settle.Given as goal

abbrev pub invariant-steps : goal.invariant-steps
invariant-steps l = record {
  same : ready (state_in l.self) ≡ ready (state_in l.fn.self);
  fit : IsFit l.self;
}

abbrev pub decreases-steps : goal.decreases-steps
decreases-steps l = weight (state_in l.self)
