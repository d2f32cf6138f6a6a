use Rattle.dsm_laws_history.proofs.Arrivals.{opens_when_all_came}
use Rattle.dsm_laws_history.proofs.opens_when_all_came.Goals as goal

pub returns : goal.returns
returns g c = λ setup first acts trace ask_first fits within. opens_when_all_came setup first g.T.Task.kind.semantics ask_first acts trace fits within
