use Rattle.dsm_replay.proofs.Newest.{newest_is, none_is, newest_rise}
use Rattle.dsm_replay.proofs.newest_of_each_line.Goals as goal

pub returns-clause-newest : goal.returns-clause-newest
returns-clause-newest c = λ lines_of over upto number version line lt le there none.
    newest_is lines_of over number upto version line lt le there none

pub returns-clause-none : goal.returns-clause-none
returns-clause-none c = λ lines_of over upto number none. none_is lines_of over number upto none

pub returns-clause-rising : goal.returns-clause-rising
returns-clause-rising c = newest_rise
