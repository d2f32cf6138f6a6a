use Rattle.std.proofs.Common.{◌∙◌, sym, ap, subst, w64}
use Rattle.std.proofs.lemmas.Int.{to_z-of_z}
use Rattle.dsm_code.specs.Finished.{finished}
use Rattle.dsm_code.specs.Typed.{IsTyped}
use Rattle.dsm_code.proofs.Keeping.{finished_typed}
use Rattle.dsm_machine.specs.States.{state_in}
use Rattle.dsm_machine.proofs.Fits.{going_of, roomy_of, callers_can}
use Rattle.dsm_machine.proofs.machine.Machine.finish_on.Goals as goal

pub finish_instruction-requires-clause-callers : goal.finish_instruction-requires-clause-callers
finish_instruction-requires-clause-callers c = callers_can (state_in c.args.self.now) (going_of c.args.self.now c.requires.going c.requires.fit)

pub finish_instruction-requires-clause-roomy : goal.finish_instruction-requires-clause-roomy
finish_instruction-requires-clause-roomy c = roomy_of c.args.self.now c.requires.going c.requires.fit

pub returns-clause-state : goal.returns-clause-state
returns-clause-state c =
    let s = state_in c.args.self.now in
    c.finish_instruction.ensures.state ∙ ap (λ a. finished s a c.instruction-instr.result) (to_z-of_z w64 c.args.answer c.ranges.answer)
    ∙ sym (c.instruction-instr.ensures.finishes c.args.answer)

pub returns-clause-fit : goal.returns-clause-fit
returns-clause-fit c =
    let s = state_in c.args.self.now in
    let state = c.finish_instruction.ensures.state ∙ ap (λ a. finished s a c.instruction-instr.result) (to_z-of_z w64 c.args.answer c.ranges.answer)
    ∙ sym (c.instruction-instr.ensures.finishes c.args.answer) in
    record {
      typed = subst IsTyped (sym state) (finished_typed s c.args.answer c.requires.fit.typed);
      roomy = c.finish_instruction.ensures.roomy;
    }
