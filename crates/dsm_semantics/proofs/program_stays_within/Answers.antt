use Rattle.dsm_check.specs.CheckedViews.{program_of}
use Rattle.dsm_semantics.proofs.Within.{program_stays_within}
use Rattle.dsm_semantics.proofs.Accepted.{functions_set_up}
use Rattle.dsm_semantics.proofs.program_stays_within.Goals as goal

pub returns : goal.returns
returns c = λ checked procs me setup is.
    let program = program_of checked in
    program_stays_within setup program.functions (functions_set_up checked procs setup is) program.main program.private_cells procs me
