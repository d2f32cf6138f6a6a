use Rattle.dsm_laws_history.proofs.InPlace.{openings_are_in_place}
use Rattle.dsm_laws_history.proofs.openings_are_in_place.Goals as goal

pub returns : goal.returns
returns g c = λ setup first acts trace ask_first fits within. openings_are_in_place setup first g.T.Task.kind.semantics ask_first acts trace fits within
