-- The statuses that errors and ends of runs have, and their numbers.
use Rattle.std.specs.Prelude.{ℕ}
use Rattle.dsm_base.specs.declared.act.SchedErr.{SchedErr}
use Rattle.dsm_base.specs.declared.errors.ReadErr.{ReadErr}
use Rattle.dsm_syntax.specs.declared.errors.ProgErr.{ProgErr}
use Rattle.dsm_base.specs.declared.finished.Finished.{Finished}
use Rattle.dsm_top.specs.declared.status.Status.{Status}

-- the exit status
abbrev pub number_of_status : Status → ℕ
number_of_status Status.Done = 0
number_of_status Status.Stopped = 1
number_of_status Status.Unfinished = 2
number_of_status (Status.ProgramRefused error) = 3
number_of_status (Status.ScheduleRefused error) = 4
number_of_status Status.WordsRefused = 5
number_of_status (Status.ReadFault file) = 6
number_of_status Status.WriteFault = 7
number_of_status Status.Memory = 10

-- the status of a run that went through its schedule or its picks
abbrev pub status_of_finished : Finished → Status
status_of_finished Finished.Done = Status.Done
status_of_finished Finished.Stopped = Status.Stopped
status_of_finished Finished.Unfinished = Status.Unfinished

-- the status for the error of a reader of programs
abbrev pub status_of_program : ProgErr → Status
status_of_program ProgErr.Memory = Status.Memory
status_of_program error = Status.ProgramRefused error

-- the status for the error of a reader of schedules or of picks
abbrev pub status_of_schedule : SchedErr → Status
status_of_schedule SchedErr.Memory = Status.Memory
status_of_schedule error = Status.ScheduleRefused error

-- the status for what kept a sink from taking all
abbrev pub status_of_write : ReadErr → Status
status_of_write ReadErr.Failed = Status.WriteFault
status_of_write ReadErr.Memory = Status.Memory
