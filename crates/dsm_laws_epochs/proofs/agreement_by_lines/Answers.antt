use Rattle.dsm_laws_runs.proofs.Agreements.{agreed_copies}
use Rattle.dsm_laws_epochs.specs.ByLines.{turns_by_lines}
use Rattle.dsm_laws_epochs.proofs.ByLines.{has_copies, agrees_by_lines, loads_by_lines}
use Rattle.dsm_laws_epochs.proofs.agreement_by_lines.Goals as goal

pub returns-clause-adequate : goal.returns-clause-adequate
returns-clause-adequate g c = λ line_at setup first run ask_first is_run p lt. has_copies line_at setup first g.T.Task.kind.semantics ask_first p lt run is_run

pub returns-clause-worth : goal.returns-clause-worth
returns-clause-worth g c = λ line_at setup first run ask_first is_run p lt.
    agreed_copies setup first g.T.Task.kind.semantics run p (turns_by_lines line_at setup first g.T.Task.kind.semantics p run) (has_copies line_at setup first g.T.Task.kind.semantics ask_first p lt run is_run)

pub returns-clause-agrees : goal.returns-clause-agrees
returns-clause-agrees g c = λ line_at setup first run ask_first is_run p lt. agrees_by_lines line_at setup first g.T.Task.kind.semantics ask_first p lt run is_run

pub returns-clause-loads : goal.returns-clause-loads
returns-clause-loads g c = λ line_at setup first run ask_first is_run p lt cell value turn. loads_by_lines line_at setup first g.T.Task.kind.semantics ask_first p lt run is_run cell value turn
