use Rattle.dsm_semantics.proofs.Endings.{program_endings}
use Rattle.dsm_semantics.proofs.endings_by_labels.Goals as goal

pub returns : goal.returns
returns c = λ program procs run p. program_endings program.functions program.main program.private_cells procs run p
