use Rattle.dsm_semantics.proofs.Asking.{program_asks_first}
use Rattle.dsm_semantics.proofs.program_asks_first.Goals as goal

pub returns : goal.returns
returns c = program_asks_first
