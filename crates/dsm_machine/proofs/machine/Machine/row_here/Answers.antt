use Rattle.std.proofs.Common.{◌∙◌, ap, subst, IfSome}
use Rattle.dsm_code.specs.Programs.{function_at, row_at}
use Rattle.dsm_code.specs.Typed.{IsFine}
use Rattle.dsm_machine.proofs.machine.Machine.row_here.Goals as goal

pub returns-clause-value : goal.returns-clause-value
returns-clause-value c =
    let frame = c.args.self.now.frame in
    c.row.ensures.value ∙ ap (λ program. row_at program frame.function frame.place) c.as_ref.ensures

pub returns-clause-fine : goal.returns-clause-fine
returns-clause-fine c =
    subst (λ program. IfSome c.row.result (IsFine program (function_at program c.args.self.now.frame.function))) c.as_ref.ensures c.row.ensures.fine
