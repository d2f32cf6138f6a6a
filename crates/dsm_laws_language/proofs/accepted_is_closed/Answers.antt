use Rattle.dsm_laws_language.proofs.Accepted.{accepted_closed}
use Rattle.dsm_laws_language.proofs.accepted_is_closed.Goals as goal

pub returns : goal.returns
returns c = accepted_closed
