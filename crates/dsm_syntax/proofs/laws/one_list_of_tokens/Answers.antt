use Rattle.dsm_syntax.proofs.Outcomes.{one_spelling}
use Rattle.dsm_syntax.proofs.laws.one_list_of_tokens.Goals as goal

pub returns : goal.returns
returns c = one_spelling
