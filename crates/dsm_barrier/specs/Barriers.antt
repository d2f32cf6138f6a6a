-- What a barrier in the code shows.
use Rattle.std.specs.Prelude.{◌≡◌, ℕ, true, List, [], length}
use Rattle.std.specs.List.{All}
use Rattle.dsm_base.specs.Family.{family_of}
use Rattle.dsm_lines.specs.declared.list.Line.{Line}
use Rattle.dsm_lines.specs.LineLists.{are_lines}
use Rattle.dsm_barrier.specs.declared.arrived.Arrived.{Arrived}
use Rattle.dsm_barrier.specs.declared.barrier.Barrier.{Barrier}
use Rattle.dsm_barrier.specs.BarrierStates.{BarrierState, oldest}

-- the lines that an arrival brought are a list of lines
abbrev pub HasLines : Arrived → Type 0
HasLines arrived = are_lines arrived.lines ≡ true

-- what each processor brought with its oldest arrival
abbrev pub brought_by : List (List Arrived) → ℕ → List Line
brought_by waiting p = (oldest (family_of (λ q. []) waiting p)).lines

abbrev pub barrier_of : Barrier → BarrierState
barrier_of barrier = record { opened = barrier.opened; waiting = family_of (λ p. []) barrier.waiting.items }

-- it is a barrier of so many processors, and what they brought are lists of lines
pub record IsBarrierOf (procs : ℕ) (barrier : Barrier) : Type 0 where
  pub count : length barrier.waiting.items ≡ procs
  pub lines : All (All HasLines) barrier.waiting.items

-- a number for each processor, and barriers of so many processors
pub record AreBarriersOf (procs : ℕ) (last : List ℕ) (barriers : List Barrier) : Type 0 where
  pub count : length last ≡ procs
  pub each : All (IsBarrierOf procs) barriers
