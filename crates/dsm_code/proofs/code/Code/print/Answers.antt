use Rattle.dsm_code.proofs.Facts.{print_is_line}
use Rattle.dsm_code.proofs.code.Code.print.Goals as goal

pub returns-clause-line : goal.returns-clause-line
returns-clause-line c = print_is_line c.args.self.now c.args.number c.find_print.result.now c.is_valid.ensures c.find_print.ensures
