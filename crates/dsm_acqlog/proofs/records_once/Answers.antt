use Rattle.dsm_acqlog.proofs.Once.{brought_first, brought_over, kept_once, left_once, once_rises}
use Rattle.dsm_acqlog.proofs.records_once.Goals as goal

pub returns-clause-kept : goal.returns-clause-kept
returns-clause-kept c = kept_once

pub returns-clause-pruned : goal.returns-clause-pruned
returns-clause-pruned c = left_once

pub returns-clause-rising : goal.returns-clause-rising
returns-clause-rising c = once_rises

pub returns-clause-all : goal.returns-clause-all
returns-clause-all c = brought_first

pub returns-clause-more : goal.returns-clause-more
returns-clause-more c = brought_over
