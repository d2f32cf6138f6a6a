use Rattle.dsm_laws_epochs.proofs.EpochLines.{settled, values_settled}
use Rattle.dsm_laws_epochs.proofs.lines_of_epochs.Goals as goal

pub returns-clause-lines : goal.returns-clause-lines
returns-clause-lines g c = λ line_at setup first newer before ask_first is_run bar owner epoch line lt. settled line_at setup first g.T.Task.kind.semantics ask_first bar owner epoch line newer before is_run lt

pub returns-clause-values : goal.returns-clause-values
returns-clause-values g c = λ setup first newer before bar epoch cell le. values_settled setup first g.T.Task.kind.semantics newer before bar epoch cell le
