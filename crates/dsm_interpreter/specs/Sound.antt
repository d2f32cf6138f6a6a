-- Threads whose programs name only cells, locks and barriers that there are, and that tell what they want.
use Rattle.std.specs.Prelude.{◌≡◌, ◌^◌, ◌≤◌, List}
use Rattle.dsm_check.specs.Resolved as r
use Rattle.dsm_semantics.specs.States as m
use Rattle.dsm_semantics.specs.Within.{Extent, AreFunctionsWithin, IsItemWithin, IsStateWithin}
use Rattle.dsm_interpreter.specs.declared.thread.PlainThread.{PlainThread}
use Rattle.dsm_interpreter.specs.Threads.{functions_of, semantics_of, state_of, told_by}

-- numbers of cells and locks have 32 and 16 bits
pub record IsNarrow (extent : Extent) : Type 0 where
  pub cells : extent.cells ≤ 2 ^ 32
  pub locks : extent.locks ≤ 2 ^ 16

-- an item that names only what there is
abbrev pub IsSoundItem : m.Item → Type 0
IsSoundItem item = (extent : Extent) × IsNarrow extent × IsItemWithin extent item

-- a state that names only what there is
abbrev pub IsSoundState : m.State → Type 0
IsSoundState s = (extent : Extent) × IsNarrow extent × IsStateWithin extent s

-- functions that name only what there is
abbrev pub AreSound : List r.Function → Type 0
AreSound functions = (extent : Extent) × IsNarrow extent × AreFunctionsWithin extent functions

-- a thread that tells what its state wants, and whose program and state name only what there is
pub record IsReady (extent : Extent) (thread : PlainThread) : Type 0 where
  pub told : told_by thread ≡ (semantics_of thread).want (state_of thread)
  pub narrow : IsNarrow extent
  pub functions : AreFunctionsWithin extent (functions_of thread)
  pub state : IsStateWithin extent (state_of thread)
