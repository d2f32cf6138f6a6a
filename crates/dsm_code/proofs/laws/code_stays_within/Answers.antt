use Rattle.dsm_code.proofs.Within.{code_stays_within}
use Rattle.dsm_code.proofs.laws.code_stays_within.Goals as goal

pub returns : goal.returns
returns c = code_stays_within
