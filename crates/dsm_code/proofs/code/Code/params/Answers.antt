use Rattle.dsm_code.proofs.Facts.{few_params}
use Rattle.dsm_code.proofs.code.Code.params.Goals as goal

pub returns-clause-few : goal.returns-clause-few
returns-clause-few c = few_params c.args.self.now c.is_valid.ensures c.args.function c.find_params.result c.find_params.ensures
