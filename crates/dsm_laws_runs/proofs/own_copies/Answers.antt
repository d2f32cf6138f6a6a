use Rattle.dsm_laws_runs.proofs.Agreements.{agreed_copies, agrees_with}
use Rattle.dsm_laws_runs.proofs.own_copies.Goals as goal

pub returns-clause-worth : goal.returns-clause-worth
returns-clause-worth g c = λ setup first run p turns has. agreed_copies setup first g.T.Task.kind.semantics run p turns has

pub returns-clause-agrees : goal.returns-clause-agrees
returns-clause-agrees g c = λ setup first run p turns has. agrees_with setup first g.T.Task.kind.semantics run p turns has
