use Rattle.dsm_code.proofs.Facts.{few_slots}
use Rattle.dsm_code.proofs.code.Code.slots.Goals as goal

pub returns-clause-few : goal.returns-clause-few
returns-clause-few c = few_slots c.args.self.now c.is_valid.ensures c.args.function c.find_slots.result c.find_slots.ensures
