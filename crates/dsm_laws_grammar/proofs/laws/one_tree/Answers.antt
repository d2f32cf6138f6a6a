use Rattle.dsm_laws_grammar.proofs.Outcomes.{one_tree}
use Rattle.dsm_laws_grammar.proofs.laws.one_tree.Goals as goal

pub returns : goal.returns
returns c = one_tree
