-- Which schedules can be run yet: those without crashes and images.
use Rattle.std.specs.Prelude.{ℕ, Bool, true, false, if◌then◌else◌, List, [], ◌∷◌, Option, Some, None, Result, Ok, Err}
use Rattle.dsm_base.specs.declared.act.Act.{Act}
use Rattle.dsm_base.specs.declared.act.SchedErr.{SchedErr}
use Rattle.dsm_sched.specs.Words.{Row, rows_of}
use Rattle.dsm_sched.specs.Entries.{◌>>=◌}
use Rattle.dsm_sched.specs.declared.schedule.Entry.{Entry}
use Rattle.dsm_sched.specs.ScheduleTexts.{schedule_said}

-- a unit that can be run
abbrev pub is_built_act : Act → Bool
is_built_act (Act.Step proc) = true
is_built_act (Act.Deliver from to) = true
is_built_act _ = false

-- an entry that can be run
abbrev pub is_built : Entry → Bool
is_built (Entry.Unit act count) = is_built_act act
is_built (Entry.Finish rounds) = true

-- the line of the first such entry, with one more entry at a line
abbrev pub first_unbuilt : Option ℕ → ℕ → Entry → Option ℕ
first_unbuilt None line entry = if is_built entry then None else Some line
first_unbuilt (Some known) line entry = Some known

-- the line of the first row whose entry can't be run yet
abbrev pub unbuilt_line : List Row → List Entry → Option ℕ
unbuilt_line (row ∷ rows) (entry ∷ entries) = if is_built entry then unbuilt_line rows entries else Some row.line
unbuilt_line _ _ = None

-- the same behind the first row, which says how many processors there are
abbrev pub unbuilt_in : List Row → List Entry → Option ℕ
unbuilt_in [] entries = None
unbuilt_in (first ∷ rows) entries = unbuilt_line rows entries

-- what is said, unless such a line is told
abbrev pub unless : Option ℕ → ℕ × List Entry → Result (ℕ × List Entry) SchedErr
unless None said = Ok said
unless (Some line) said = Err (SchedErr.NotBuilt line)

-- what a text says as a schedule that can be run
abbrev pub built_said : List ℕ → Result (ℕ × List Entry) SchedErr
built_said text = schedule_said text >>= λ said. unless (unbuilt_in (rows_of text) said.1) said
