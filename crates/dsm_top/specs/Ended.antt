-- How a call ended, and what it left.
use Rattle.std.specs.Prelude.{◌≡◌, ◌⊎◌, ℕ, ◌≤◌, List, [], ◌∷◌, ◌++◌, length, take, reverse, Option, Some, codes}
use Rattle.dsm_base.specs.Causes.{Rose}
use Rattle.dsm_base.specs.Output.{printed_lines}
use Rattle.dsm_base.specs.Sink.{appended, TakesPart}
use Rattle.dsm_base.specs.declared.act.Act.{Act}
use Rattle.dsm_base.specs.declared.names.Proc.{Proc}
use Rattle.dsm_base.specs.Plain.{Turn}
use Rattle.dsm_check.specs.Programs.{Program}
use Rattle.dsm_check.specs.Setups.{IsSetupOf}
use Rattle.dsm_sched.specs.declared.picks.PickEntry.{PickEntry}
use Rattle.dsm_sched.specs.declared.schedule.Entry.{Entry}
use Rattle.dsm_sched.specs.Picks.{picked_by}
use Rattle.dsm_sched.specs.Schedules.{units_by}
use Rattle.dsm_net.specs.declared.trace.Group.{Group}
use Rattle.dsm_net.specs.Fits.{FitsUnits, run_of}
use Rattle.dsm_net.specs.Story.{history}
use Rattle.dsm_semantics.specs.Programs.{first_states, threads_of}
use Rattle.dsm_base.specs.declared.finished.Finished.{Finished}
use Rattle.dsm_base.specs.Endings.{endings_of, finished_by}
use Rattle.dsm_base.specs.declared.setup.Setup.{Setup}
use Rattle.dsm_top.specs.declared.status.Status.{Status}
use Rattle.dsm_top.specs.declared.status.Report.{Report}
use Rattle.dsm_top.specs.declared.shown.Asked.{Asked}
use Rattle.dsm_command.specs.Commands.{Command, run, check, plain}
use Rattle.dsm_top.specs.Messages.{message_of}
use Rattle.dsm_top.specs.Shown.{shown_by}
use Rattle.dsm_top.specs.Statuses.{status_of_finished}
use Rattle.dsm_top.specs.Lawful.{AreLawful}
use Rattle.dsm_top.specs.Accepted.{IsAccepted, HasFitting, HasPicks}
use Rattle.dsm_top.specs.PickRuns.{IsRunByPicks}
use Rattle.dsm_top.specs.Refusals.{Given, Refuses}

-- What a call left.

-- what the sink held before and after the call, how often it had failed, the trace with its newest
-- group first, and how many units were applied
pub record Left : Type 0 where
  pub before : Option (List ℕ)
  pub after : Option (List ℕ)
  pub faults_before : ℕ
  pub faults_after : ℕ
  pub trace : List Group
  pub units : ℕ

-- the same, of a sink before and after the call and the report that the call answers
abbrev pub left_by : {K : Type 0} → (K → Option (List ℕ)) → (K → ℕ) → K → K → Report → Left
left_by holds faults old new report = record {
  before = holds old;
  after = holds new;
  faults_before = faults old;
  faults_after = faults new;
  trace = reverse report.trace;
  units = report.units;
}

-- How much is written of the bytes that were due.

-- a front of some bytes was taken
pub record TakesFront (before after : Option (List ℕ)) (bytes : List ℕ) : Type 0 where
  pub count : ℕ
  pub taken : after ≡ appended before (take count bytes)

-- all of them
abbrev pub Whole : Left → List ℕ → Type 0
Whole left bytes = left.after ≡ appended left.before bytes

-- a proper part of them
abbrev pub Short : Left → List ℕ → Type 0
Short left bytes = TakesPart left.before left.after bytes

-- a proper part of them, since the sink failed
pub record Cut (left : Left) (bytes : List ℕ) : Type 0 where
  pub part : Short left bytes
  pub rose : Rose left.faults_before left.faults_after

-- a front of them: nothing, a part, or all
abbrev pub Front : Left → List ℕ → Type 0
Front left bytes = TakesFront left.before left.after bytes

-- one line was due, and with it this status: it is written whole, or the call ended for the sink or
-- for memory with a proper part of it
abbrev pub Tells : List ℕ → Status → Left → Status → Type 0
Tells line due left Status.WriteFault = Cut left line
Tells line due left Status.Memory = Short left line
Tells line due left status = (status ≡ due) × Whole left line

-- How far a run came.

-- it went through all its units, so many; all its lines are written, and the status tells how its
-- threads stand
pub record WentThrough (units : ℕ) (threads : Finished) (lines : List ℕ) (left : Left) (status : Status) :
    Type 0 where
  pub all : left.units ≡ units
  pub stands : status ≡ status_of_finished threads
  pub wrote : Whole left lines

-- it went through, or was cut short: by the sink, which has a proper part of the lines so far, or by
-- memory, with a front of them
abbrev pub Went : ℕ → Finished → List ℕ → Left → Status → Type 0
Went units threads lines left Status.WriteFault = Cut left lines
Went units threads lines left Status.Memory = Front left lines
Went units threads lines left status = WentThrough units threads lines left status

-- With what was asked for behind the lines.

-- all units were applied, so many, and so it is of all that was to be written
abbrev pub Behind : ℕ → Left → Type 0 → Type 0
Behind units left Is = (left.units ≡ units) × Is

-- it went through, and what was asked for is written too; or it was cut short, in its lines or behind
-- them
abbrev pub WentShowing : ℕ → Finished → List ℕ → List ℕ → Left → Status → Type 0
WentShowing units threads lines shown left Status.WriteFault =
    Cut left lines ⊎ Behind units left (Cut left (lines ++ shown))
WentShowing units threads lines shown left Status.Memory =
    Front left lines ⊎ Behind units left (Short left (lines ++ shown))
WentShowing units threads lines shown left status =
    WentThrough units threads (lines ++ shown) left status

-- `run`.

-- the trace of so many units of a schedule, which the program's threads have made on processors that are
-- set up so
pub record IsRun (program : Program) (setup : Setup) (schedule : List Act) (units : ℕ)
    (trace : List Group) : Type 0 where
  pub within : units ≤ length schedule
  pub fits : FitsUnits setup (first_states program setup.procs) (threads_of program)
      (reverse (take units schedule)) trace
  pub lawful : AreLawful setup (first_states program setup.procs) (threads_of program) fits.done

-- what is asked for behind the lines of a run: the texts of its trace and of the state after it
abbrev pub shown_after : {program : Program} {setup : Setup} {schedule : List Act} {units : ℕ}
    {trace : List Group} → Asked → IsRun program setup schedule units trace → List ℕ
shown_after {program} {setup} {schedule} {units} {trace} asked is_run =
    shown_by asked setup
    (run_of setup (first_states program setup.procs) (threads_of program) is_run.fits.done).net trace

-- what a run of a program by a schedule for so many processors leaves, with what was asked for
pub record Ran (program : Program) (procs : ℕ) (schedule : List Act) (asked : Asked) (left : Left)
    (status : Status) : Type 0 where
  pub setup : Setup
  pub is_setup : IsSetupOf program procs setup
  pub is_run : IsRun program setup schedule left.units left.trace
  pub went : WentShowing (length schedule) (finished_by procs (endings_of (history left.trace)))
      (printed_lines (history left.trace)) (shown_after asked is_run) left status

-- `run`, with a program and a schedule that are accepted
pub record EndedRun (given : Given) (program schedule : List ℕ) (asked : Asked) (left : Left)
    (status : Status) : Type 0 where
  pub found : Program
  pub procs : ℕ
  pub entries : List Entry
  pub accepted : IsAccepted given.files program schedule found procs entries
  pub ran : Ran found procs (units_by procs entries) asked left status

-- `check`.

-- the line `ok`
abbrev pub ok_line : List ℕ
ok_line = codes "ok" ++ 10 ∷ []

-- `check`, with a program that is accepted and fits so many processors
pub record EndedCheck (given : Given) (program : List ℕ) (procs : ℕ) (left : Left) (status : Status) : Type 0 where
  pub found : Program
  pub accepted : HasFitting given.files program procs found
  pub no_trace : left.trace ≡ []
  pub no_units : left.units ≡ 0
  pub tells : Tells ok_line Status.Done left status

-- `plain`.

-- the first picks, so many, make this run
pub record IsRunByFirst (program : Program) (procs : ℕ) (picks : List Proc) (units : ℕ) (turns : List Turn) : Type 0 where
  pub within : units ≤ length picks
  pub is_run : IsRunByPicks program procs (take units picks) turns

-- what a run of a program by picks leaves
pub record RanPlain (program : Program) (procs : ℕ) (picks : List Proc) (left : Left) (status : Status) : Type 0 where
  pub turns : List Turn
  pub is_run : IsRunByFirst program procs picks left.units turns
  pub went : Went (length picks) (finished_by procs (endings_of turns)) (printed_lines turns)
      left status

-- `plain`, with a program and a list of picks that are accepted
pub record EndedPlain (given : Given) (program picks : List ℕ) (left : Left) (status : Status) : Type 0 where
  pub found : Program
  pub procs : ℕ
  pub entries : List PickEntry
  pub accepted : HasFitting given.files program procs found
  pub has_picks : HasPicks given.files picks procs entries
  pub no_trace : left.trace ≡ []
  pub ran : RanPlain found procs (picked_by procs entries) left status

-- A refusal.

-- there is a cause for a status that refuses, and its message was due
pub record IsRefusal (given : Given) (left : Left) (status : Status) : Type 0 where
  pub due : Status
  pub cause : Refuses given due
  pub tells : Tells (message_of given.command due) due left status

-- memory ran out before anything was written
pub record RanOut (left : Left) (status : Status) : Type 0 where
  pub is_memory : status ≡ Status.Memory
  pub nothing : left.after ≡ left.before

-- nothing ran
pub record Refused (given : Given) (left : Left) (status : Status) : Type 0 where
  pub no_trace : left.trace ≡ []
  pub no_units : left.units ≡ 0
  pub refused : IsRefusal given left status ⊎ RanOut left status

-- Any call.

-- what the command is for was done; `load` isn't built
abbrev pub EndedCommand : Given → Left → Status → Option Command → Type 0
EndedCommand given left status (Some (run program schedule trace state)) =
    EndedRun given program schedule record { trace = trace; state = state } left status
EndedCommand given left status (Some (check program procs)) = EndedCheck given program procs left status
EndedCommand given left status (Some (plain program picks)) = EndedPlain given program picks left status
EndedCommand given left status _ = ⊥

-- a call was refused, or did what its command is for
abbrev pub Ended : Given → Left → Status → Type 0
Ended given left status = Refused given left status ⊎ EndedCommand given left status given.command
