use Rattle.std.proofs.Common.{◌≡◌, ◌++◌}
use Rattle.std.specs.Prelude.{codes, string_bytes}
use Rattle.std.specs.List.{flat_map}
use Rattle.dsm_processor.specs.Node.{processor_of}
use Rattle.dsm_state.specs.States.{cell_text, cells_of}
use Rattle.dsm_state.proofs.locks.cells_text.Given as goal

-- the cells so far are told
abbrev pub invariant-loop-cell : goal.invariant-loop-cell
invariant-loop-cell g l =
    string_bytes l.text
    ≡ codes "cells" ++ flat_map (cell_text (processor_of g.T.Task.kind l.node).lines.values) (cells_of l.table l.cell l.lock.0)
