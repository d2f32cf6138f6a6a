use Rattle.dsm_laws_history.proofs.Agreement.{one_memory}
use Rattle.dsm_laws_history.proofs.one_memory.Goals as goal

pub returns : goal.returns
returns g c = λ setup first acts trace ask_first fits within. one_memory setup first g.T.Task.kind.semantics ask_first acts trace fits within
