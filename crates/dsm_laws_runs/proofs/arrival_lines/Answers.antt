use Rattle.dsm_laws_runs.proofs.ArrivalLines.{unstored, arrivals_cross}
use Rattle.dsm_laws_runs.proofs.arrival_lines.Goals as goal

pub returns-clause-unchanged : goal.returns-clause-unchanged
returns-clause-unchanged g c = λ line_at setup first run ask_first is_run bar owner epoch cell is none. unstored line_at setup first g.T.Task.kind.semantics ask_first bar owner epoch cell is run is_run none

pub returns-clause-cross : goal.returns-clause-cross
returns-clause-cross g c = λ line_at setup first run p turns has bar epoch turn now is. arrivals_cross line_at setup first g.T.Task.kind.semantics run p turns has bar epoch turn now is
