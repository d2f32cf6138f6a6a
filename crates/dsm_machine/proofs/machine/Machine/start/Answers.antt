use Rattle.std.proofs.Common.{◌≡◌, true, subst}
use Rattle.dsm_code.specs.Valid.{is_valid}
use Rattle.dsm_machine.proofs.Fits.{start_fit}
use Rattle.dsm_machine.proofs.machine.Machine.start.Goals as goal

pub returns-clause-fit : goal.returns-clause-fit
returns-clause-fit c =
    start_fit c.args.code.value c.args.procs c.args.me.0 c.make.result
    (subst (λ program. is_valid program ≡ true) c.as_ref.ensures c.is_valid.ensures) c.make.ensures.state c.make.ensures.roomy
