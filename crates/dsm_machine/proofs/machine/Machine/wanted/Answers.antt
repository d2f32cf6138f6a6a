use Rattle.dsm_machine.specs.States.{state_in}
use Rattle.dsm_machine.proofs.Fits.{is_wanted, is_same, told_some}
use Rattle.dsm_machine.proofs.machine.Machine.wanted.Goals as goal

pub returns-clause-value : goal.returns-clause-value
returns-clause-value c = is_wanted (state_in c.args.self.now) (state_in c.step-wanted.new.self) c.step-wanted.result c.step-wanted.ensures.makes c.in-Some.want c.in-Some.is

pub returns-clause-state : goal.returns-clause-state
returns-clause-state c = is_same (state_in c.args.self.now) (state_in c.step-wanted.new.self) c.step-wanted.result c.step-wanted.ensures.makes c.in-Some.want c.in-Some.is

pub unreachable-requires : goal.unreachable-requires
unreachable-requires c = told_some (state_in c.args.self.now) (state_in c.step-wanted.new.self) c.step-wanted.result c.step-wanted.ensures.makes c.requires.stands c.in-None.is
