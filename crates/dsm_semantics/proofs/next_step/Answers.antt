use Rattle.dsm_semantics.proofs.Next.{there_is_one, only_one}
use Rattle.dsm_semantics.proofs.next_step.Goals as goal

pub returns-clause-there_is_one : goal.returns-clause-there_is_one
returns-clause-there_is_one c = there_is_one

pub returns-clause-only_one : goal.returns-clause-only_one
returns-clause-only_one c = only_one
