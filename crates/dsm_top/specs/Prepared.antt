-- What stands ready before anything is written.
use Rattle.std.specs.Prelude.{◌≡◌, ◌≤◌, ℕ, List, Option, Some, Result, Ok, Err}
use Rattle.dsm_base.specs.Causes.{Rose}
use Rattle.dsm_syntax.specs.declared.errors.ProgErr.{ProgErr}
use Rattle.dsm_check.specs.declared.checked.Checked.{Checked}
use Rattle.dsm_check.specs.Programs.{Program}
use Rattle.dsm_check.specs.CheckedViews.{program_of}
use Rattle.dsm_check.specs.Setups.{fitting}
use Rattle.dsm_top.specs.declared.status.Status.{Status}
use Rattle.dsm_top.specs.declared.prepare.Prepared.{Prepared}
use Rattle.dsm_top.specs.declared.prepare.PickRun.{PickRun}
use Rattle.dsm_command.specs.Commands.{Command, run, check, plain}
use Rattle.dsm_top.specs.Accepted.{Contents, IsAccepted, IsChecked, HasFitting, HasPicks}
use Rattle.dsm_top.specs.Refusals.{Given, IsUnchecked, OrMemory}

-- what a reader of programs answers; out of memory owes nothing
abbrev pub GivesProgram : List ℕ → Result Checked ProgErr → Type 0
GivesProgram text (Ok program) = IsChecked text (program_of program)
GivesProgram text (Err ProgErr.Memory) = Unit {0}
GivesProgram text (Err error) = IsUnchecked text error

-- a file of this number couldn't be read; out of memory owes nothing
abbrev pub IsUnread : ℕ → ℕ → ℕ → Status → Type 0
IsUnread number before after (Status.ReadFault file) = (file ≡ number) × Rose before after
IsUnread number before after Status.Memory = Unit {0}
IsUnread number before after _ = ⊥

-- files in a part of a call: what they hold, and how often they had failed before it and have after it
pub record Span : Type 0 where
  pub files : Contents
  pub before : ℕ
  pub after : ℕ

-- the same, of files before and after the part
abbrev pub span_of : {F : Type 0} → (F → Contents) → (F → ℕ) → F → F → Span
span_of holds faults old new = record { files = holds old; before = faults old; after = faults new }

-- the files hold what the call was given, and their count is between those of the call
pub record IsPart (given : Given) (span : Span) : Type 0 where
  pub same : given.files ≡ span.files
  pub earlier : given.faults_before ≤ span.before
  pub later : span.after ≤ given.faults_after

-- each call with this part is refused with the status; out of memory owes nothing
abbrev pub RefusesIn : Span → (Given → Status → Type 0) → Status → Type 0
RefusesIn span Refuses status = (given : Given) → IsPart given span → OrMemory (Refuses given) status

-- the files hold the same after a part, and their count never falls
pub record Keeps (span : Span) (files : Contents) : Type 0 where
  pub same : files ≡ span.files
  pub later : span.before ≤ span.after

-- a run over one memory can begin: each owner is a processor
abbrev pub CanPick : PickRun → Type 0
CanPick prepared = fitting (program_of prepared.program) prepared.picks.procs ≡ Ok tt

-- what a command needs stands ready
abbrev pub IsReady : Prepared → Type 0
IsReady (Prepared.Run prepared) = Unit {0}
IsReady Prepared.Check = Unit {0}
IsReady (Prepared.Plain prepared) = CanPick prepared

-- what a command names is accepted, and this stands ready for it
abbrev pub IsPrepared : Contents → Option Command → Prepared → Type 0
IsPrepared files (Some (run program schedule trace state)) (Prepared.Run prepared) =
    (prepared.asked ≡ record { trace = trace; state = state })
    × IsAccepted files program schedule (program_of prepared.program) prepared.schedule.procs
    prepared.schedule.entries
IsPrepared files (Some (check program procs)) Prepared.Check =
    (found : Program) × HasFitting files program procs found
IsPrepared files (Some (plain program picks)) (Prepared.Plain prepared) =
    HasFitting files program prepared.picks.procs (program_of prepared.program) ×
    HasPicks files picks prepared.picks.procs prepared.picks.entries
IsPrepared files _ _ = ⊥
