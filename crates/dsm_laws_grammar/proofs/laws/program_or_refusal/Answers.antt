use Rattle.dsm_laws_grammar.proofs.TextPrograms.{each_text, not_both, one_program_text, one_reason}
use Rattle.dsm_laws_grammar.proofs.laws.program_or_refusal.Goals as goal

pub returns-clause-each_text : goal.returns-clause-each_text
returns-clause-each_text c = each_text

pub returns-clause-not_both : goal.returns-clause-not_both
returns-clause-not_both c = not_both

pub returns-clause-one_program : goal.returns-clause-one_program
returns-clause-one_program c = one_program_text

pub returns-clause-one_refusal : goal.returns-clause-one_refusal
returns-clause-one_refusal c = one_reason
