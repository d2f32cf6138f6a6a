use Rattle.dsm_laws_history.proofs.Printing.{output_is}
use Rattle.dsm_laws_history.proofs.output.Goals as goal

pub returns : goal.returns
returns g c = λ setup first acts trace fits. output_is setup first g.T.Task.kind.semantics acts trace fits
