use Rattle.dsm_laws_grammar.proofs.Outcomes.{completed, hopeless, stays_unexpected, stays_too_high}
use Rattle.dsm_laws_grammar.proofs.laws.refused_for_good.Goals as goal

pub returns-clause-completed : goal.returns-clause-completed
returns-clause-completed c = completed

pub returns-clause-hopeless : goal.returns-clause-hopeless
returns-clause-hopeless c = hopeless

pub returns-clause-unexpected : goal.returns-clause-unexpected
returns-clause-unexpected c = stays_unexpected

pub returns-clause-too_high : goal.returns-clause-too_high
returns-clause-too_high c = stays_too_high
