use Rattle.dsm_saved.proofs.Answering.{same_saved}
use Rattle.dsm_saved.proofs.laws.one_saved.Goals as goal

pub returns : goal.returns
returns c = same_saved
