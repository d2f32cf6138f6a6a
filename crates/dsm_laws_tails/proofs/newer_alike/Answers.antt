use Rattle.dsm_laws_tails.proofs.NewerAlike.{newer_alike}
use Rattle.dsm_laws_tails.proofs.OlderParts.{alone, left}
use Rattle.dsm_laws_tails.proofs.newer_alike.Goals as goal

pub returns-clause-alike : goal.returns-clause-alike
returns-clause-alike g c = λ line_at setup first run other is_run other_run same lock from to line. newer_alike line_at setup first g.T.Task.kind.semantics lock from to line run other is_run other_run same

pub returns-clause-alone : goal.returns-clause-alone
returns-clause-alone g c = λ line_at setup first settled tails free is_run p none lock from to line le.
    (alone line_at setup first g.T.Task.kind.semantics lock settled tails free is_run p none).lines from to line le

pub returns-clause-left : goal.returns-clause-left
returns-clause-left g c = λ line_at setup first settled tails free is_run p k others are lock from to line le.
    (left line_at setup first g.T.Task.kind.semantics lock settled tails free is_run p k others are).lines from to line le
