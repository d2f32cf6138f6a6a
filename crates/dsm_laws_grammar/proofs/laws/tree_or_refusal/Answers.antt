use Rattle.dsm_laws_grammar.proofs.Outcomes.{outcome, not_both, one_refusal, one_place}
use Rattle.dsm_laws_grammar.proofs.laws.tree_or_refusal.Goals as goal

pub returns-clause-each_list : goal.returns-clause-each_list
returns-clause-each_list c = outcome

pub returns-clause-not_both : goal.returns-clause-not_both
returns-clause-not_both c = not_both

pub returns-clause-one_refusal : goal.returns-clause-one_refusal
returns-clause-one_refusal c = one_refusal

pub returns-clause-one_place : goal.returns-clause-one_place
returns-clause-one_place c = one_place
