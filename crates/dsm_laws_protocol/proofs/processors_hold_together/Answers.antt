use Rattle.dsm_laws_protocol.proofs.Reaching.{hold_together}
use Rattle.dsm_laws_protocol.proofs.processors_hold_together.Goals as goal

pub returns : goal.returns
returns g c = λ setup first acts trace ask_first fits within. hold_together setup first g.T.Task.kind.semantics ask_first acts trace fits within
