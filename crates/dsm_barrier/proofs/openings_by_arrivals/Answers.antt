use Rattle.dsm_barrier.proofs.Comings.{since, not_early, not_late}
use Rattle.dsm_barrier.proofs.openings_by_arrivals.Goals as goal

pub returns-clause-no_early : goal.returns-clause-no_early
returns-clause-no_early c = not_early

pub returns-clause-no_late : goal.returns-clause-no_late
returns-clause-no_late c = not_late

pub returns-clause-waiting : goal.returns-clause-waiting
returns-clause-waiting c = since
