use Rattle.std.proofs.Common.{◌∙◌, ap, map}
use Rattle.dsm_base.specs.Family.{family_of}
use Rattle.dsm_check.specs.CheckedViews.{program_of}
use Rattle.dsm_semantics.specs.Programs.{first_states}
use Rattle.dsm_interpreter.specs.Threads.{state_of}
use Rattle.dsm_plain.proofs.machine.Plain.new.Goals as goal

pub returns-clause-machine : goal.returns-clause-machine
returns-clause-machine c =
    let program = program_of c.args.checked.now in
    let threads = ap (λ n. family_of (first_states program n) (map state_of c.in_ok-threads.threads.items)) c.in_ok-setup.ensures.procs ∙ c.in_ok-threads.ensures.states in
    λ i. record {
      threads = threads i;
      memory = c.in_ok-memory.ensures.zeros i;
      versions = c.in_ok-versions.ensures.zeros i;
      held = λ p. c.in_ok-rights.ensures.held p i;
      arrived = λ p. c.in_ok-rights.ensures.arrived p i;
      crossed = λ p. c.in_ok-rights.ensures.crossed p i;
    }
