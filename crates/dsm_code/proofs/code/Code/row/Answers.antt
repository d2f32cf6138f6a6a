use Rattle.dsm_code.proofs.Facts.{row_is_fine}
use Rattle.dsm_code.proofs.code.Code.row.Goals as goal

pub returns-clause-fine : goal.returns-clause-fine
returns-clause-fine c = row_is_fine c.args.self.now c.args.function c.args.place c.find.result c.is_valid.ensures c.find.ensures
