use Rattle.dsm_laws_code.proofs.Running.{compiled_runs_as_tree}
use Rattle.dsm_laws_code.proofs.laws.compiled_runs_as_tree.Goals as goal

pub returns : goal.returns
returns c = compiled_runs_as_tree
