use Rattle.dsm_syntax.proofs.Slices.{in_place, joined_is}
use Rattle.dsm_syntax.proofs.laws.tokens_in_place.Goals as goal

pub returns-clause-placed : goal.returns-clause-placed
returns-clause-placed c = in_place

pub returns-clause-joined : goal.returns-clause-joined
returns-clause-joined c = joined_is
