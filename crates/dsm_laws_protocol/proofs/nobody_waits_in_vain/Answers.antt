use Rattle.dsm_laws_protocol.proofs.Waiting.{nobody_waits}
use Rattle.dsm_laws_protocol.proofs.nobody_waits_in_vain.Goals as goal

pub returns : goal.returns
returns g c = λ setup first acts trace fits. nobody_waits setup first g.T.Task.kind.semantics acts trace fits
