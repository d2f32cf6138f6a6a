use Rattle.dsm_laws_history.proofs.Grants.{takes_granted}
use Rattle.dsm_laws_history.proofs.takes_are_granted.Goals as goal

pub returns : goal.returns
returns g c = λ setup first acts trace fits. takes_granted setup first g.T.Task.kind.semantics acts trace fits
