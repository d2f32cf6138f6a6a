-- How far crashes have come, as the reader of schedules keeps it.
use Rattle.std.specs.Prelude.{ℕ, ◌==◌, if◌then◌else◌, Result, Ok, Err}
use Rattle.dsm_base.specs.declared.act.Act.{Act}
use Rattle.dsm_base.specs.declared.act.SchedErr.{SchedErr}
use Rattle.dsm_base.specs.declared.names.Proc.{Proc}
use Rattle.dsm_sched.specs.declared.schedule.Entry.{Entry}
use Rattle.dsm_sched.specs.declared.schedule.crashes.Crashes.{Crashes}

-- behind a crash of a processor
abbrev pub crash_behind : Crashes → ℕ → Proc → Result Crashes SchedErr
crash_behind Crashes.Before line proc = Ok (Crashes.Down proc)
crash_behind _ line proc = Err (SchedErr.SecondCrash line)

-- behind a restart of a processor
abbrev pub restart_behind : Crashes → ℕ → Proc → Result Crashes SchedErr
restart_behind (Crashes.Down down) line proc = if down.0 == proc.0 then Ok Crashes.After else Err (SchedErr.NoCrash line)
restart_behind _ line proc = Err (SchedErr.NoCrash line)

-- behind any entry
abbrev pub crashes_behind : Crashes → ℕ → Entry → Result Crashes SchedErr
crashes_behind crashes line (Entry.Unit (Act.Crash proc) count) = crash_behind crashes line proc
crashes_behind crashes line (Entry.Unit (Act.Torn proc kept) count) = crash_behind crashes line proc
crashes_behind crashes line (Entry.Unit (Act.Restart proc) count) = restart_behind crashes line proc
crashes_behind crashes line _ = Ok crashes
