use Rattle.dsm_laws_protocol.proofs.OwnParts.{own_parts, own_labels}
use Rattle.dsm_laws_protocol.proofs.own_parts.Goals as goal

pub returns-clause-own : goal.returns-clause-own
returns-clause-own g c = λ setup first acts trace fits. own_parts setup first g.T.Task.kind.semantics acts trace fits

pub returns-clause-labels : goal.returns-clause-labels
returns-clause-labels g c = λ trace p. own_labels p trace
