use Rattle.dsm_code.proofs.Facts.{main_wide}
use Rattle.dsm_code.proofs.code.Code.main.Goals as goal

pub returns-clause-wide : goal.returns-clause-wide
returns-clause-wide c = main_wide c.args.self.now c.is_valid.ensures
