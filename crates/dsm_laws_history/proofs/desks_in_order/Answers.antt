use Rattle.dsm_laws_history.proofs.Order.{waits_in_order}
use Rattle.dsm_laws_history.proofs.desks_in_order.Goals as goal

pub returns : goal.returns
returns g c = λ setup first acts trace fits. waits_in_order setup first g.T.Task.kind.semantics acts trace fits
