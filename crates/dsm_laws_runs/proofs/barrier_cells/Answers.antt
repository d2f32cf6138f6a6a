use Rattle.dsm_laws_runs.proofs.Barriers.{owned_memory, until_later, quiet_run}
use Rattle.dsm_laws_runs.proofs.barrier_cells.Goals as goal

pub returns-clause-memory : goal.returns-clause-memory
returns-clause-memory g c = λ setup first run is_run bar owner cell is. owned_memory setup first g.T.Task.kind.semantics bar owner cell is run is_run

pub returns-clause-kept : goal.returns-clause-kept
returns-clause-kept g c = λ bar epoch newer labels le. (until_later bar epoch newer labels le).1

pub returns-clause-quiet : goal.returns-clause-quiet
returns-clause-quiet g c = λ setup first run ask_first is_run bar epoch cell owner piece is at_bar quiet le.
    quiet_run setup first g.T.Task.kind.semantics ask_first bar cell piece is at_bar epoch quiet run is_run owner le
