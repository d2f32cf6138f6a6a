use Rattle.dsm_laws_runs.proofs.Newer.{unchanged, newer_turn, newer_by_stamp, newer_take}
use Rattle.dsm_laws_runs.proofs.newer_lines.Goals as goal

pub returns-clause-unchanged : goal.returns-clause-unchanged
returns-clause-unchanged g c = λ line_at setup first run lock from to cell is le made none. unchanged line_at setup first g.T.Task.kind.semantics run lock from to cell is le made none

pub returns-clause-later : goal.returns-clause-later
returns-clause-later g c = λ line_at setup first turn before lock from to line le. newer_turn line_at setup first g.T.Task.kind.semantics turn before lock from to line le

pub returns-clause-stamps : goal.returns-clause-stamps
returns-clause-stamps g c = λ line_at setup first run lock from to line. newer_by_stamp line_at setup first g.T.Task.kind.semantics run lock from to line

pub returns-clause-take : goal.returns-clause-take
returns-clause-take g c = λ line_at setup first run p turns has lock mode version turn now is. newer_take line_at setup first g.T.Task.kind.semantics run p turns has lock mode version turn now is
