use Rattle.std.proofs.Common.{◌∙◌, ap}
use Rattle.dsm_code.specs.Programs.{print_at}
use Rattle.dsm_machine.proofs.machine.Machine.print_parts.Goals as goal

pub returns-clause-value : goal.returns-clause-value
returns-clause-value c = c.print.ensures.value ∙ ap (λ program. print_at program c.args.number) c.as_ref.ensures
