use Rattle.dsm_acqlog.proofs.Histories.{answered_first, answered_is, carried_is, known_is, lines_are, records_are}
use Rattle.dsm_acqlog.proofs.tail_by_events.Goals as goal

pub returns-clause-known : goal.returns-clause-known
returns-clause-known c = known_is

pub returns-clause-records : goal.returns-clause-records
returns-clause-records c = records_are

pub returns-clause-lines : goal.returns-clause-lines
returns-clause-lines c = lines_are

pub returns-clause-once : goal.returns-clause-once
returns-clause-once c = answered_first

pub returns-clause-out : goal.returns-clause-out
returns-clause-out c = answered_is

pub returns-clause-carried : goal.returns-clause-carried
returns-clause-carried c = carried_is
