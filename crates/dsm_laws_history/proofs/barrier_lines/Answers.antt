use Rattle.dsm_laws_history.proofs.Agreement.{barrier_lines}
use Rattle.dsm_laws_history.proofs.barrier_lines.Goals as goal

pub returns : goal.returns
returns g c = λ setup first acts trace ask_first fits within. barrier_lines setup first g.T.Task.kind.semantics ask_first acts trace fits within
