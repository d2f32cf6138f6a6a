-- Which programs, schedules and lists of picks are run.
use Rattle.std.specs.Prelude.{◌≡◌, ℕ, List, [], Option, Ok}
use Rattle.dsm_base.specs.Files.{Reads}
use Rattle.dsm_syntax.specs.declared.token.Token.{Token}
use Rattle.dsm_syntax.specs.Texts.{IsLexed}
use Rattle.dsm_syntax.specs.Tree.{Item}
use Rattle.dsm_syntax.specs.Lexemes.{lexemes}
use Rattle.dsm_parse.specs.Programs.{IsProgramOf}
use Rattle.dsm_check.specs.Programs.{Program, checked}
use Rattle.dsm_check.specs.Setups.{fitting}
use Rattle.dsm_sched.specs.declared.picks.PickEntry.{PickEntry}
use Rattle.dsm_sched.specs.declared.schedule.Entry.{Entry}
use Rattle.dsm_sched.specs.PickTexts.{picks_said}
use Rattle.dsm_sched.specs.Built.{built_said}

-- what files hold, where they tell
abbrev pub Contents : Type 0
Contents = Option (List ℕ → Option (List ℕ))

-- a text that is read from a file; of a longer file than wanted it is one byte too long
abbrev pub IsText : Contents → List ℕ → ℕ → List ℕ → Type 0
IsText files name most text = Reads files name most [] text

-- the text of a program
abbrev pub IsProgramText : Contents → List ℕ → List ℕ → Type 0
IsProgramText files name text = IsText files name 262144 text

-- the text of a schedule or of a list of picks
abbrev pub IsScheduleText : Contents → List ℕ → List ℕ → Type 0
IsScheduleText files name text = IsText files name 4194304 text

-- Programs that the rules accept.

-- the tokens of a text spell a tree, which by the rules is this program
pub record IsChecked (text : List ℕ) (program : Program) : Type 0 where
  pub tokens : List Token
  pub lexed : IsLexed text tokens
  pub items : List Item
  pub spelled : IsProgramOf (lexemes tokens) items
  pub is_checked : checked items ≡ Ok program

-- the file has a program that the rules accept
pub record HasChecked (files : Contents) (name : List ℕ) (program : Program) : Type 0 where
  pub text : List ℕ
  pub is_read : IsProgramText files name text
  pub is_program : IsChecked text program

-- and each owner is one of so many processors
pub record HasFitting (files : Contents) (name : List ℕ) (procs : ℕ) (program : Program) : Type 0 where
  pub has_program : HasChecked files name program
  pub fits : fitting program procs ≡ Ok tt

-- What `plain` takes.

-- the file has a list of picks: for so many processors, these entries
pub record HasPicks (files : Contents) (name : List ℕ) (procs : ℕ) (entries : List PickEntry) : Type 0 where
  pub text : List ℕ
  pub is_read : IsScheduleText files name text
  pub are_picks : picks_said text ≡ Ok (procs, entries)

-- What `run` takes.

-- the file has a schedule for so many processors: these entries, all of which can be run
pub record HasSchedule (files : Contents) (name : List ℕ) (procs : ℕ) (entries : List Entry) : Type 0 where
  pub text : List ℕ
  pub is_read : IsScheduleText files name text
  pub is_schedule : built_said text ≡ Ok (procs, entries)

-- the first file has a program, and the second a schedule for so many processors, which the program fits
pub record IsAccepted (files : Contents) (program_name schedule_name : List ℕ)
    (program : Program) (procs : ℕ) (entries : List Entry) : Type 0 where
  pub has_program : HasFitting files program_name procs program
  pub has_schedule : HasSchedule files schedule_name procs entries
