use Rattle.dsm_syntax.proofs.Outcomes.{outcome, lexed_or_refused, one_refusal}
use Rattle.dsm_syntax.proofs.laws.tokens_or_refusal.Goals as goal

pub returns-clause-each_text : goal.returns-clause-each_text
returns-clause-each_text c = outcome

pub returns-clause-not_both : goal.returns-clause-not_both
returns-clause-not_both c = lexed_or_refused

pub returns-clause-one_refusal : goal.returns-clause-one_refusal
returns-clause-one_refusal c = one_refusal
