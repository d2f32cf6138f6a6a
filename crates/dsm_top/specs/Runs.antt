-- Worlds of programs in code, and what is written of them.
use Rattle.std.specs.Prelude.{◌≡◌, ◌⊎◌, ℕ, List, [], ◌∷◌, ◌++◌, length, take, reverse, Option}
use Rattle.dsm_base.specs.declared.act.Act.{Act}
use Rattle.dsm_base.specs.declared.errors.ReadErr.{ReadErr}
use Rattle.dsm_base.specs.Sink.{TakesPart}
use Rattle.dsm_base.specs.Threads.{Kind}
use Rattle.dsm_check.specs.CheckedViews.{program_of}
use Rattle.dsm_net.specs.Fits.{Done, FitsUnits, acts_of as done_acts}
use Rattle.dsm_sched.specs.ScheduleTexts.{units_of as acts_of}
use Rattle.dsm_code.specs.Machine.{State, code_semantics, first_state}
use Rattle.dsm_thread.specs.declared.maker.CodeMaker.{CodeMaker}
use Rattle.dsm_network.specs.declared.world.World.{World}
use Rattle.dsm_network.specs.World.{setup_of, first_of, groups_of, units_of, net_of, IsRunOf, IsWhole}
use Rattle.dsm_top.specs.declared.shown.Asked.{Asked}
use Rattle.dsm_top.specs.declared.prepare.ScheduledRun.{ScheduledRun}
use Rattle.dsm_top.specs.declared.status.Status.{Status}
use Rattle.dsm_top.specs.Ended.{Left, TakesFront, RanOut, Ran}
use Rattle.dsm_top.specs.Shown.{shown_by}

-- a world of threads of code
abbrev pub CodeWorld : Type 0
CodeWorld = World CodeMaker State State

-- the first state that a maker gives a thread
abbrev pub first_by : CodeMaker → ℕ → ℕ → State
first_by maker procs me = first_state maker.code.value procs me

-- what kind of thread it is
abbrev pub code_kind : Kind State State
code_kind = record { state = λ thread. thread; semantics = code_semantics }

-- the world is whole
abbrev pub IsWholeWorld : CodeWorld → Type 0
IsWholeWorld world = IsWhole code_kind first_by world

-- the first states of its threads
abbrev pub first_in : CodeWorld → ℕ → State
first_in world = first_of first_by world

-- what the world holds was made by the first units of a schedule, as many as were applied
pub record IsMadeBy (schedule : List Act) (world : CodeWorld) : Type 0 where
  pub done : List Done
  pub acts : done_acts done ≡ reverse (take (units_of world) schedule)
  pub run : IsRunOf code_kind first_by done world

-- all units were applied, and made what the world holds
pub record HasAll (schedule : List Act) (world : CodeWorld) : Type 0 where
  pub all : units_of world ≡ length schedule
  pub made : IsMadeBy schedule world

-- what is asked for behind the lines of a world
abbrev pub shown_of : Asked → CodeWorld → List ℕ
shown_of asked world =
    shown_by asked (setup_of world) (net_of code_kind first_by world) (groups_of world)

-- the trace fits the first units of a schedule, as many as were applied
abbrev pub FitsFirst : CodeWorld → List Act → Type 0
FitsFirst world schedule = FitsUnits (setup_of world) (first_in world) code_semantics
    (reverse (take (units_of world) schedule)) (groups_of world)

-- lines one after the other
abbrev pub joined : List (List ℕ) → List ℕ
joined [] = []
joined (line ∷ lines) = line ++ joined lines

-- another state of the same world
pub record IsSameRun (old new : CodeWorld) : Type 0 where
  pub setup : setup_of new ≡ setup_of old
  pub first : first_in new ≡ first_in old

-- where the sink failed it has taken a part of the bytes; where memory ran out a front of them
abbrev pub WroteCut : Option (List ℕ) → Option (List ℕ) → List ℕ → ReadErr → Type 0
WroteCut before after bytes ReadErr.Failed = TakesPart before after bytes
WroteCut before after bytes ReadErr.Memory = TakesFront before after bytes

-- so it is of the lines; or all units were applied, and a part was taken of the lines with what was
-- asked for behind them
abbrev pub WroteCutShowing : Option (List ℕ) → Option (List ℕ) → List ℕ → List ℕ → Type 0 →
    ReadErr → Type 0
WroteCutShowing before after lines shown AllApplied error =
    WroteCut before after lines error ⊎ (AllApplied × TakesPart before after (lines ++ shown))

-- memory ran out before the first unit, with nothing written; or units were applied
abbrev pub IsScheduled : ScheduledRun → Left → Status → Type 0
IsScheduled prepared left status =
    (RanOut left status × (left.trace ≡ []) × (left.units ≡ 0)) ⊎
    Ran (program_of prepared.program) prepared.schedule.procs (acts_of prepared.schedule) prepared.asked
    left status
