use Rattle.std.proofs.Common.{sym, subst}
use Rattle.dsm_code.specs.Machine.{step}
use Rattle.dsm_machine.specs.States.{state_in, Makes}
use Rattle.dsm_machine.proofs.Fits.{roomy_of, roomy_in, still_typed}
use Rattle.dsm_machine.proofs.machine.Machine.step_on.Goals as goal

pub returns-clause-makes : goal.returns-clause-makes
returns-clause-makes c =
    subst (λ move. Makes move (state_in c.args.self.now) (state_in c.act.new.self) c.act.result) (sym c.instruction-instr.ensures.acts) c.act.ensures.makes

pub returns-clause-fit : goal.returns-clause-fit
returns-clause-fit c =
    let old = state_in c.args.self.now in
    let new = state_in c.act.new.self in
    let made : Makes (step old) old new c.act.result = subst (λ move. Makes move old new c.act.result) (sym c.instruction-instr.ensures.acts) c.act.ensures.makes in
    record {
      typed = still_typed old new c.act.result c.requires.fit.typed made;
      roomy = roomy_in c.act.new.self (c.act.ensures.roomy (roomy_of c.args.self.now c.requires.going c.requires.fit));
    }
