use Rattle.dsm_laws_tails.proofs.Shuffles.{one_state}
use Rattle.dsm_laws_tails.proofs.one_state.Goals as goal

pub returns : goal.returns
returns g c = λ setup first run other ask_first is_run other_run same. one_state setup first g.T.Task.kind.semantics ask_first run other is_run other_run same
