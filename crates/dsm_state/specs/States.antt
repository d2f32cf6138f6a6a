-- The text of the state: a line for each processor, then one for each lock.
use Rattle.std.specs.Prelude.{ℕ, ℤ, ◌==◌, Bool, false, List, [], ◌∷◌, ◌++◌, filter, Option, Some, None, codes}
use Rattle.std.specs.List.{range_with_len, flat_map}
use Rattle.std.specs.Fmt.{decimal, signed_decimal}
use Rattle.dsm_base.specs.declared.label.Ending.{Ending}
use Rattle.dsm_base.specs.declared.setup.Object.{Object}
use Rattle.dsm_base.specs.declared.setup.Piece.{Piece}
use Rattle.dsm_base.specs.declared.setup.Setup.{Setup}
use Rattle.dsm_base.specs.Output.{fault_name}
use Rattle.dsm_lines.specs.Places.{object_of}
use Rattle.dsm_net.specs.declared.trace.Group.{Group}
use Rattle.dsm_net.specs.Messages.{home_of}
use Rattle.dsm_net.specs.Net.{Net}
use Rattle.dsm_net.specs.Processor.{Processor, Standing, live, gathering, replaying}
use Rattle.dsm_records.specs.Texts.{spaced, as_line}
use Rattle.dsm_state.specs.declared.stop.Stop.{Stop}
use Rattle.dsm_state.specs.Stops.{last_stop}

-- for what a thread has stopped; a run tells each stop in its trace
abbrev pub stop_text : Option Stop → List ℕ
stop_text None = codes "stop"
stop_text (Some stop) = spaced (codes "stop" ∷ fault_name stop.fault ∷ decimal stop.line ∷ [])

-- how a thread stands
abbrev pub thread_text : Option Ending → Option Stop → List ℕ
thread_text None stop = codes "running"
thread_text (Some Ending.Ended) stop = codes "end"
thread_text (Some Ending.Stopped) stop = stop_text stop

-- whether it gathers or makes its turns again, and else how its thread stands
abbrev pub standing_text : Standing → List ℕ → List ℕ
standing_text live thread = thread
standing_text (gathering reports kept) thread = codes "gathering"
standing_text (replaying bound reports kept) thread = spaced (codes "replaying" ∷ decimal bound ∷ [])

-- a processor by its number
abbrev pub processor_name : ℕ → List ℕ
processor_name p = codes "P" ++ decimal p

-- how a processor stands; what its thread has stopped for is the last stop of it in the trace
abbrev pub processor_text : {S : Type 0} → ℕ → Option (Processor S) → List Group → List ℕ
processor_text p None trace = spaced (processor_name p ∷ codes "down" ∷ [])
processor_text p (Some s) trace = spaced (processor_name p ∷ codes "turn" ∷ decimal s.own.turns
    ∷ standing_text s.standing (thread_text s.own.ending (last_stop p None trace)) ∷ [])

-- whether an object is this lock
abbrev pub is_lock : ℕ → Option Object → Bool
is_lock lock None = false
is_lock lock (Some (Object.Lock other)) = other.0 == lock
is_lock lock (Some (Object.Bar bar)) = false

-- whether a cell is bound to a lock
abbrev pub is_of_lock : List Piece → ℕ → ℕ → Bool
is_of_lock pieces lock cell = is_lock lock (object_of pieces cell)

-- those of so many cells that are bound to a lock, rising
abbrev pub cells_of : List Piece → ℕ → ℕ → List ℕ
cells_of pieces count lock = filter (is_of_lock pieces lock) (range_with_len 0 count)

-- a cell with its value, behind a space
abbrev pub cell_text : (ℕ → ℤ) → ℕ → List ℕ
cell_text values cell = codes " " ++ (decimal cell ++ (codes "=" ++ signed_decimal (values cell)))

-- cells with their values
abbrev pub cells_text : (ℕ → ℤ) → List ℕ → List ℕ
cells_text values cells = codes "cells" ++ flat_map (cell_text values) cells

-- a lock whose home doesn't live
abbrev pub unknown_text : ℕ → List ℕ
unknown_text lock = spaced (codes "lock" ∷ decimal lock ∷ codes "version" ∷ codes "unknown" ∷ [])

-- a lock by its home, where that lives: the version at its desk, and the values of its lines
abbrev pub lock_at : {S : Type 0} → Setup → ℕ → Processor S → Standing → List ℕ
lock_at setup lock s live =
    spaced (codes "lock" ∷ decimal lock ∷ codes "version" ∷ decimal (s.locks lock).version
    ∷ cells_text s.lines.values (cells_of setup.bindings setup.cells lock) ∷ [])
lock_at setup lock s other = unknown_text lock

-- a lock by its home, if that is up
abbrev pub lock_text : {S : Type 0} → Setup → ℕ → Option (Processor S) → List ℕ
lock_text setup lock None = unknown_text lock
lock_text setup lock (Some s) = lock_at setup lock s s.standing

-- the line of a processor
abbrev pub processor_line : {S : Type 0} → Net S → List Group → ℕ → List ℕ
processor_line net trace p = as_line (processor_text p (net.processors p) trace)

-- the lines of processors
abbrev pub processors_text : {S : Type 0} → Net S → List Group → List ℕ → List ℕ
processors_text net trace procs = flat_map (processor_line net trace) procs

-- the line of a lock
abbrev pub lock_line : {S : Type 0} → Setup → Net S → ℕ → List ℕ
lock_line setup net lock = as_line (lock_text setup lock (net.processors (home_of setup lock)))

-- the lines of locks
abbrev pub locks_text : {S : Type 0} → Setup → Net S → List ℕ → List ℕ
locks_text setup net locks = flat_map (lock_line setup net) locks

-- the state of a world, with the trace that led to it, its oldest group first
abbrev pub state_text : {S : Type 0} → Setup → Net S → List Group → List ℕ
state_text setup net trace =
    processors_text net trace (range_with_len 0 setup.procs) ++ locks_text setup net (range_with_len 0 setup.locks)
