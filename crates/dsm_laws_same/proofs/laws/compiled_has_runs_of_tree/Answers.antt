use Rattle.dsm_semantics.specs.Programs.{threads_of, first_states}
use Rattle.dsm_code.specs.Machine.{code_semantics, first_state}
use Rattle.dsm_laws_code.specs.Programs.{code_of}
use Rattle.dsm_laws_code.proofs.Running.{compiled_runs_as_tree}
use Rattle.dsm_laws_same.proofs.Plain as plain
use Rattle.dsm_laws_same.proofs.Nets as nets
use Rattle.dsm_laws_same.proofs.laws.compiled_has_runs_of_tree.Goals as goal

pub returns-clause-runs : goal.returns-clause-runs
returns-clause-runs c = λ program procs setup run valid.
    plain.runs code_semantics (threads_of program) (first_state (code_of program) procs) (first_states program procs) setup (λ p. compiled_runs_as_tree program procs p valid) run

pub returns-clause-tree_runs : goal.returns-clause-tree_runs
returns-clause-tree_runs c = λ program procs setup run valid.
    plain.runs_back code_semantics (threads_of program) (first_state (code_of program) procs) (first_states program procs) setup (λ p. compiled_runs_as_tree program procs p valid) run

pub returns-clause-agrees : goal.returns-clause-agrees
returns-clause-agrees c = λ program procs. plain.agrees code_semantics (threads_of program) (first_state (code_of program) procs) (first_states program procs)

pub returns-clause-fits : goal.returns-clause-fits
returns-clause-fits c = λ program procs setup acts trace valid.
    nets.fits setup code_semantics (threads_of program) (first_state (code_of program) procs) (first_states program procs) (λ p. compiled_runs_as_tree program procs p valid) acts trace

pub returns-clause-units : goal.returns-clause-units
returns-clause-units c = λ program procs setup done valid.
    nets.same_units setup code_semantics (threads_of program) (first_state (code_of program) procs) (first_states program procs) (λ p. compiled_runs_as_tree program procs p valid) done
