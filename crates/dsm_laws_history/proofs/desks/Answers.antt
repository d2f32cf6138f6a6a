use Rattle.dsm_laws_history.proofs.Handled.{desks}
use Rattle.dsm_laws_history.proofs.desks.Goals as goal

pub returns : goal.returns
returns g c = λ setup first acts trace ask_first fits within. desks setup first g.T.Task.kind.semantics ask_first acts trace fits within
