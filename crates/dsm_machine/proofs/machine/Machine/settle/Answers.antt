use Rattle.std.proofs.Common.{◌∙◌}
use Rattle.dsm_machine.specs.States.{state_in}
use Rattle.dsm_machine.proofs.Fits.{same_ready, less_left, is_settled, now_stands}
use Rattle.dsm_machine.proofs.machine.Machine.settle.Goals as goal

pub returns-in-Some-clause-state : goal.returns-in-Some-clause-state
returns-in-Some-clause-state c =
    is_settled (state_in c.steps.self) (state_in c.step-wanted.new.self) c.step-wanted.result c.step-wanted.ensures.makes c.in-Some.field-0 c.in-Some.is
    ∙ c.steps.invariant.same

pub returns-in-Some-clause-stands : goal.returns-in-Some-clause-stands
returns-in-Some-clause-stands c = now_stands (state_in c.steps.self) (state_in c.step-wanted.new.self) c.step-wanted.result c.step-wanted.ensures.makes c.in-Some.field-0 c.in-Some.is

pub steps-smaller : goal.steps-smaller
steps-smaller c = less_left (state_in c.steps.self) (state_in c.step-wanted.new.self) c.step-wanted.result c.step-wanted.ensures.makes c.in-None.is

pub steps-preserved : goal.steps-preserved
steps-preserved c = record {
  same = same_ready (state_in c.steps.self) (state_in c.step-wanted.new.self) c.step-wanted.result c.step-wanted.ensures.makes c.in-None.is ∙ c.steps.invariant.same;
  fit = c.step-wanted.ensures.fit;
}
