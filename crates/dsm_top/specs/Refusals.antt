-- Why a call is refused before anything runs.
use Rattle.std.specs.Prelude.{◌≡◌, ◌≢◌, ◌⊎◌, ℕ, List, Option, Some, None, Err, zero, suc}
use Rattle.dsm_base.specs.Causes.{Rose}
use Rattle.dsm_base.specs.declared.act.SchedErr.{SchedErr}
use Rattle.dsm_syntax.specs.declared.errors.ProgErr.{ProgErr}
use Rattle.dsm_syntax.specs.declared.token.Token.{Token}
use Rattle.dsm_syntax.specs.Texts.{IsLexed, IsRefused as IsTextRefused}
use Rattle.dsm_syntax.specs.Tree.{Item}
use Rattle.dsm_syntax.specs.Lexemes.{lexemes}
use Rattle.dsm_parse.specs.Programs.{IsProgramOf}
use Rattle.dsm_parse.specs.Refusals.{IsRefused as AreTokensRefused}
use Rattle.dsm_check.specs.Programs.{Program, checked}
use Rattle.dsm_check.specs.Setups.{fitting}
use Rattle.dsm_sched.specs.declared.picks.PickEntry.{PickEntry}
use Rattle.dsm_sched.specs.declared.schedule.Entry.{Entry}
use Rattle.dsm_sched.specs.PickTexts.{picks_said}
use Rattle.dsm_sched.specs.Built.{built_said}
use Rattle.dsm_top.specs.declared.status.Status.{Status}
use Rattle.dsm_command.specs.Commands.{Command, run, check, plain, load}
use Rattle.dsm_top.specs.Accepted.{Contents, IsProgramText, IsScheduleText, HasChecked, HasPicks, HasSchedule}

-- what a call was given: the command that its words are, what the files hold, and how often they had
-- failed before it and have after it
pub record Given : Type 0 where
  pub command : Option Command
  pub files : Contents
  pub faults_before : ℕ
  pub faults_after : ℕ

-- the same, of files before and after the call
abbrev pub given_by : {F : Type 0} → (F → Contents) → (F → ℕ) → Option Command → F → F → Given
given_by holds faults command old new = record {
  command = command;
  files = holds old;
  faults_before = faults old;
  faults_after = faults new;
}

-- the files failed in this call
abbrev pub FilesRose : Given → Type 0
FilesRose given = Rose given.faults_before given.faults_after

-- Programs that the rules refuse.

-- why a text is no program that the rules accept
pub data IsUnchecked (text : List ℕ) (error : ProgErr) : Type 0 where
  -- it has no tokens
  by_tokens : IsTextRefused text error → IsUnchecked text error
  -- its tokens spell no tree
  by_tree : (tokens : List Token) → IsLexed text tokens → error ≢ ProgErr.Memory →
      AreTokensRefused tokens error → IsUnchecked text error
  -- a rule refuses the tree
  by_rules : (tokens : List Token) (items : List Item) → IsLexed text tokens →
      IsProgramOf (lexemes tokens) items → checked items ≡ Err error → IsUnchecked text error

-- the program was read, and is refused
pub record HasUnchecked (files : Contents) (name : List ℕ) (error : ProgErr) : Type 0 where
  pub text : List ℕ
  pub is_read : IsProgramText files name text
  pub is_unchecked : IsUnchecked text error

-- the program couldn't be read, or is refused
abbrev pub RefusesProgram : Given → List ℕ → Status → Type 0
RefusesProgram given name (Status.ReadFault zero) = FilesRose given
RefusesProgram given name (Status.ProgramRefused error) = HasUnchecked given.files name error
RefusesProgram given name _ = ⊥

-- an owner is no processor; the first such is told
abbrev pub RefusesOwner : Program → ℕ → Status → Type 0
RefusesOwner program procs (Status.ProgramRefused error) = fitting program procs ≡ Err error
RefusesOwner program procs _ = ⊥

-- the program is accepted, but an owner is none of so many processors
pub record RefusesOwners (given : Given) (program : List ℕ) (procs : ℕ) (status : Status) : Type 0 where
  pub found : Program
  pub has_program : HasChecked given.files program found
  pub refused : RefusesOwner found procs status

-- What `check` refuses.

-- first the program, then the owners
abbrev pub RefusesCheck : Given → List ℕ → ℕ → Status → Type 0
RefusesCheck given program procs status =
    RefusesProgram given program status ⊎ RefusesOwners given program procs status

-- What `plain` refuses.

-- the picks were read, and are refused
pub record HasNoPicks (files : Contents) (name : List ℕ) (error : SchedErr) : Type 0 where
  pub text : List ℕ
  pub is_read : IsScheduleText files name text
  pub is_refused : picks_said text ≡ Err error

-- the picks couldn't be read, or are refused
abbrev pub RefusesPicks : Given → List ℕ → Status → Type 0
RefusesPicks given name (Status.ReadFault (suc zero)) = FilesRose given
RefusesPicks given name (Status.ScheduleRefused error) = HasNoPicks given.files name error
RefusesPicks given name _ = ⊥

-- the program is accepted, and the picks behind it are refused
pub record RefusesPicksBehind (given : Given) (program picks : List ℕ) (status : Status) : Type 0 where
  pub found : Program
  pub has_program : HasChecked given.files program found
  pub refused : RefusesPicks given picks status

-- the program and the picks are accepted, but an owner is none of their processors
pub record RefusesOwnersBehind (given : Given) (program picks : List ℕ) (status : Status) : Type 0 where
  pub procs : ℕ
  pub entries : List PickEntry
  pub has_picks : HasPicks given.files picks procs entries
  pub refused : RefusesOwners given program procs status

-- first the program, then the picks, then the owners
abbrev pub RefusesPlain : Given → List ℕ → List ℕ → Status → Type 0
RefusesPlain given program picks status =
    RefusesProgram given program status ⊎
    (RefusesPicksBehind given program picks status ⊎ RefusesOwnersBehind given program picks status)

-- What `run` refuses.

-- the schedule was read, and is refused
pub record HasNoSchedule (files : Contents) (name : List ℕ) (error : SchedErr) : Type 0 where
  pub text : List ℕ
  pub is_read : IsScheduleText files name text
  pub is_refused : built_said text ≡ Err error

-- the schedule couldn't be read, or is refused
abbrev pub RefusesSchedule : Given → List ℕ → Status → Type 0
RefusesSchedule given name (Status.ReadFault (suc zero)) = FilesRose given
RefusesSchedule given name (Status.ScheduleRefused error) = HasNoSchedule given.files name error
RefusesSchedule given name _ = ⊥

-- the program is accepted, and the schedule behind it is refused
pub record RefusesScheduleBehind (given : Given) (program schedule : List ℕ) (status : Status) : Type 0 where
  pub found : Program
  pub has_program : HasChecked given.files program found
  pub refused : RefusesSchedule given schedule status

-- both are accepted, but an owner is none of the schedule's processors
pub record RefusesOwnersOfRun (given : Given) (program schedule : List ℕ) (status : Status) : Type 0 where
  pub procs : ℕ
  pub entries : List Entry
  pub has_schedule : HasSchedule given.files schedule procs entries
  pub refused : RefusesOwners given program procs status

-- first the program, then the schedule, and last the owners
abbrev pub RefusesRun : Given → List ℕ → List ℕ → Status → Type 0
RefusesRun given program schedule status =
    RefusesProgram given program status ⊎
    (RefusesScheduleBehind given program schedule status ⊎
    RefusesOwnersOfRun given program schedule status)

-- Any call.

-- why a call is refused: of words that are no command, of a command, and of one that isn't built yet
abbrev pub RefusesCommand : Given → Status → Option Command → Type 0
RefusesCommand given status None = status ≡ Status.WordsRefused
RefusesCommand given status (Some (run program schedule trace state)) =
    RefusesRun given program schedule status
RefusesCommand given status (Some (check program procs)) = RefusesCheck given program procs status
RefusesCommand given status (Some (plain program picks)) = RefusesPlain given program picks status
RefusesCommand given status (Some (load seed)) = status ≡ Status.WordsRefused

-- why a call is refused with a status; the other statuses refuse none
abbrev pub Refuses : Given → Status → Type 0
Refuses given status = RefusesCommand given status given.command

-- out of memory owes nothing
abbrev pub OrMemory : (Status → Type 0) → Status → Type 0
OrMemory Refused Status.Memory = Unit {0}
OrMemory Refused status = Refused status

-- a refusal, or out of memory
abbrev pub RefusesOrMemory : Given → Status → Type 0
RefusesOrMemory given status = OrMemory (Refuses given) status
