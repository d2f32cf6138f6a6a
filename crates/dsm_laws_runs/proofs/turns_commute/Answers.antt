use Rattle.dsm_laws_runs.proofs.Commuting.{turns_commute}
use Rattle.dsm_laws_runs.proofs.turns_commute.Goals as goal

pub returns : goal.returns
returns g c = λ setup. turns_commute setup g.T.Task.kind.semantics
