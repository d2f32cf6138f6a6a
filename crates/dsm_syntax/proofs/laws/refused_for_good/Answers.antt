use Rattle.dsm_syntax.proofs.Completions.{completed}
use Rattle.dsm_syntax.proofs.Refusals.{refused_on}
use Rattle.dsm_syntax.proofs.laws.refused_for_good.Goals as goal

pub returns-clause-refused : goal.returns-clause-refused
returns-clause-refused c = refused_on

pub returns-clause-completed : goal.returns-clause-completed
returns-clause-completed c = completed
