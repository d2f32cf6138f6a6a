use Rattle.dsm_laws_tails.proofs.Histories.{starts, goes_on, course_is}
use Rattle.dsm_laws_tails.proofs.Tails.{oldest_settle, newest_lost}
use Rattle.dsm_laws_tails.proofs.OlderParts.{left}
use Rattle.dsm_laws_tails.proofs.history_goes_on.Goals as goal

pub returns-clause-starts : goal.returns-clause-starts
returns-clause-starts g c = λ setup first ask_first. starts setup first g.T.Task.kind.semantics ask_first

pub returns-clause-goes_on : goal.returns-clause-goes_on
returns-clause-goes_on g c = λ setup first settled tails is p label others are turn independent. goes_on setup first g.T.Task.kind.semantics settled tails is p label others are turn independent

pub returns-clause-settles : goal.returns-clause-settles
returns-clause-settles g c = λ setup first settled tails is p k others are. oldest_settle setup first g.T.Task.kind.semantics settled tails is p k others are

pub returns-clause-loses : goal.returns-clause-loses
returns-clause-loses g c = λ setup first settled tails is p k others are. newest_lost setup first g.T.Task.kind.semantics settled tails is p k others are

pub returns-clause-versions_left : goal.returns-clause-versions_left
returns-clause-versions_left g c = λ setup first settled tails free is_run p k others are lock version le.
    (left (λ cell. cell) setup first g.T.Task.kind.semantics lock settled tails free is_run p k others are).made version le

pub returns-clause-course : goal.returns-clause-course
returns-clause-course g c = λ setup settled tails p none. course_is setup settled tails p none
