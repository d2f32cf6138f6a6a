use Rattle.dsm_laws_runs.proofs.Epochs.{all_came, in_step}
use Rattle.dsm_laws_runs.proofs.crossings.Goals as goal

pub returns-clause-came : goal.returns-clause-came
returns-clause-came g c = λ setup first run is_run p q bar lt. all_came setup first g.T.Task.kind.semantics run is_run p q bar lt

pub returns-clause-in_step : goal.returns-clause-in_step
returns-clause-in_step g c = λ setup first run ask_first is_run p lt bar. in_step setup first g.T.Task.kind.semantics ask_first run is_run p lt bar
