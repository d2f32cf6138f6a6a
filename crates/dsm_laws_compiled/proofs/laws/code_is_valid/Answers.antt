use Rattle.dsm_laws_compiled.proofs.Functions.{code_valid}
use Rattle.dsm_laws_compiled.proofs.laws.code_is_valid.Goals as goal

pub returns : goal.returns
returns c = code_valid
