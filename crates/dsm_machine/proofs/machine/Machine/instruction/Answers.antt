use Rattle.std.proofs.Common.{◌∙◌, sym, subst, IfSome}
use Rattle.dsm_code.specs.Programs.{function_at}
use Rattle.dsm_code.specs.Typed.{IsFine}
use Rattle.dsm_machine.proofs.Fits.{going_of, roomy_of, can_do, row_there, acts_at, finishes_at}
use Rattle.dsm_machine.proofs.machine.Machine.instruction.Goals as goal

pub returns-clause-can : goal.returns-clause-can
returns-clause-can c =
    let machine = c.args.self.now in
    let program = machine.code.value in
    can_do machine c.in-Some.row (going_of machine c.requires.going c.requires.fit) (roomy_of machine c.requires.going c.requires.fit)
    (sym c.in-Some.is ∙ c.row_here-found.ensures.value)
    (subst (λ o. IfSome o (IsFine program (function_at program machine.frame.function))) c.in-Some.is c.row_here-found.ensures.fine)

pub returns-clause-acts : goal.returns-clause-acts
returns-clause-acts c = acts_at c.args.self.now c.in-Some.row c.requires.going (sym c.in-Some.is ∙ c.row_here-found.ensures.value)

pub returns-clause-finishes : goal.returns-clause-finishes
returns-clause-finishes c = finishes_at c.args.self.now c.in-Some.row c.requires.going (sym c.in-Some.is ∙ c.row_here-found.ensures.value)

pub unreachable-requires : goal.unreachable-requires
unreachable-requires c =
    row_there c.args.self.now (going_of c.args.self.now c.requires.going c.requires.fit) (sym c.in-None.is ∙ c.row_here-found.ensures.value)
