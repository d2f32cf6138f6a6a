use Rattle.std.proofs.Common.{ap, ◌∙◌, w64, to_z, of_z}
use Rattle.std.proofs.lemmas.Int.{to_z-of_z}
use Rattle.dsm_base.specs.Steps.{stopped}
use Rattle.dsm_code.specs.Machine.{over}
use Rattle.dsm_code.specs.Finished.{finished_in}
use Rattle.dsm_machine.specs.States.{state_in}
use Rattle.dsm_machine.proofs.Fits.{stop_completed, step_completed}
use Rattle.dsm_machine.proofs.machine.Machine.complete.Goals as goal

-- a stop that is completed
pub returns-in-Stop-clause-state : goal.returns-in-Stop-clause-state
returns-in-Stop-clause-state c = λ label completes.
    let s = state_in c.args.self.now in
    stop_completed s (state_in c.stop.new.self) c.wanted-want.result c.args.answer label c.wanted-want.ensures.value completes c.in-Stop.fault c.in-Stop.line c.in-Stop.is
    (c.stop.ensures.state ∙ ap (λ t. over t (stopped c.in-Stop.fault c.in-Stop.line)) c.wanted-want.ensures.state)

-- what is left of another step is what the label leaves
pub returns-in_default-clause-state : goal.returns-in_default-clause-state
returns-in_default-clause-state c = λ label completes.
    let s = state_in c.args.self.now in
    step_completed s (state_in c.finish.new.self) c.wanted-want.result c.args.answer label c.wanted-want.ensures.value completes c.in_default.not-Stop (to_z w64 (of_z w64 c.args.answer))
    (to_z-of_z w64 c.args.answer c.ranges.answer) (c.finish.ensures.state ∙ ap (λ t. finished_in t (to_z w64 (of_z w64 c.args.answer)) t.life) c.wanted-want.ensures.state)
