use Rattle.dsm_code.proofs.Asking.{code_asks_first}
use Rattle.dsm_code.proofs.laws.code_asks_first.Goals as goal

pub returns : goal.returns
returns c = code_asks_first
