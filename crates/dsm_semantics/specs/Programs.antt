-- The threads of an accepted program.
use Rattle.std.specs.Prelude.{ℕ}
use Rattle.dsm_base.specs.Threads.{Semantics}
use Rattle.dsm_check.specs.Programs.{Program}
use Rattle.dsm_semantics.specs.States.{State}
use Rattle.dsm_semantics.specs.Semantics.{program_semantics, first_state}

-- what they do
abbrev pub threads_of : Program → Semantics State
threads_of program = program_semantics program.functions

-- the threads of so many processors before their first labelled steps
abbrev pub first_states : Program → ℕ → ℕ → State
first_states program procs me = first_state program.functions program.main program.private_cells procs me
