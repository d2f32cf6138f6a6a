use Rattle.dsm_laws_epochs.proofs.Newest.{newest_comes}
use Rattle.dsm_laws_epochs.proofs.arrivals_by_labels.Goals as goal

pub returns : goal.returns
returns g c = λ setup first run ask_first is_run p lt bar. newest_comes setup first g.T.Task.kind.semantics ask_first run is_run p bar
