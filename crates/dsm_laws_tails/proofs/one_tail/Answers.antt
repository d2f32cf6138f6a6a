use Rattle.dsm_laws_tails.proofs.Tails.{tail_last, tail_first, tail_alone}
use Rattle.dsm_laws_tails.proofs.OlderParts.{alone}
use Rattle.dsm_laws_tails.proofs.one_tail.Goals as goal

pub returns-clause-last : goal.returns-clause-last
returns-clause-last g c = λ setup first settled tails is p others are. tail_last setup first g.T.Task.kind.semantics settled tails is p others are

pub returns-clause-first : goal.returns-clause-first
returns-clause-first g c = λ setup first settled tails is p others are. tail_first setup first g.T.Task.kind.semantics settled tails is p others are

pub returns-clause-alone : goal.returns-clause-alone
returns-clause-alone g c = λ setup first settled tails is p. tail_alone setup first g.T.Task.kind.semantics settled tails is p

pub returns-clause-versions : goal.returns-clause-versions
returns-clause-versions g c = λ setup first settled tails free is_run p none lock version le.
    (alone (λ cell. cell) setup first g.T.Task.kind.semantics lock settled tails free is_run p none).made version le
