use Rattle.std.proofs.Common.{◌∙◌, subst, sym}
use Rattle.dsm_semantics.specs.Within.{IsStateWithin}
use Rattle.dsm_interpreter.specs.Threads.{state_in}
use Rattle.dsm_interpreter.proofs.Moves.{same_ready, less_left, still_within, same_state, is_wanted, is_settled}
use Rattle.dsm_interpreter.proofs.execution.Execution.go_on.Goals as goal

pub step-requires : goal.step-requires
step-requires c = (c.requires.0, c.requires.1, c.steps.invariant.within c.requires.0 c.requires.2)

pub returns-in-Some-clause-value : goal.returns-in-Some-clause-value
returns-in-Some-clause-value c = is_wanted (state_in c.steps.self) (state_in c.step.new.self) c.in_ok-wanted.wanted c.in_ok-wanted.ensures c.in-Some.want c.in-Some.is

pub returns-in-Some-clause-state : goal.returns-in-Some-clause-state
returns-in-Some-clause-state c =
    λ functions. is_settled (state_in c.steps.self) (state_in c.step.new.self) c.in_ok-wanted.wanted c.in_ok-wanted.ensures c.in-Some.want c.in-Some.is functions
    ∙ c.steps.invariant.same functions

pub returns-in-Some-clause-within : goal.returns-in-Some-clause-within
returns-in-Some-clause-within c =
    λ extent within. subst (IsStateWithin extent) (sym (same_state (state_in c.steps.self) (state_in c.step.new.self) c.in_ok-wanted.wanted c.in_ok-wanted.ensures c.in-Some.want c.in-Some.is))
    (c.steps.invariant.within extent within)

pub steps-smaller : goal.steps-smaller
steps-smaller c = less_left (state_in c.steps.self) (state_in c.step.new.self) c.in_ok-wanted.wanted c.in_ok-wanted.ensures c.in-None.is

pub steps-preserved : goal.steps-preserved
steps-preserved c = record {
  same = λ functions. same_ready (state_in c.steps.self) (state_in c.step.new.self) c.in_ok-wanted.wanted c.in_ok-wanted.ensures c.in-None.is functions
      ∙ c.steps.invariant.same functions;
  within = λ extent within. still_within (state_in c.steps.self) (state_in c.step.new.self) c.in_ok-wanted.wanted c.in_ok-wanted.ensures c.in-None.is extent
      (c.steps.invariant.within extent within);
}
