-- The commands as the parser of words has them.
use Rattle.std.specs.Prelude.{◌≡◌, Bool, true, List, [], ◌∷◌, Option, Some, None, codes, if◌then◌else◌}
use Rattle.clap.specs.Walk.{Row, Rule, all_of, one_of}
use Rattle.clap.specs.Simple.{App, Shape, new_app, new_rule, new_shape, with_rule, with_subcommand}
use Rattle.clap.specs.declared.builder.action.ArgAction.TheVariants.{Append, SetTrue}
use Rattle.dsm_command.specs.Commands.{Text}

-- the arguments of commands: positionals, the two flags, and the option with a value
abbrev pub names_rule : Rule
names_rule = record (new_rule (codes "names")) { action = Some Append }

-- the flag `--trace`
abbrev pub trace_rule : Rule
trace_rule = record (new_rule (codes "trace")) { long = Some (codes "trace"); action = Some SetTrue }

-- the flag `--state`
abbrev pub state_rule : Rule
state_rule = record (new_rule (codes "state")) { long = Some (codes "state"); action = Some SetTrue }

-- the option `--procs`, with a number
abbrev pub procs_rule : Rule
procs_rule = record (new_rule (codes "procs")) { long = Some (codes "procs"); action = Some Append }

-- a command that takes names alone
abbrev pub names_command : Text → App
names_command name = with_rule (new_app name) names_rule

-- `run`, with its two flags
abbrev pub run_command : App
run_command = with_rule (with_rule (names_command (codes "run")) trace_rule) state_rule

-- `check`, with its option
abbrev pub check_command : App
check_command = with_rule (names_command (codes "check")) procs_rule

-- the program has commands, and neither help nor a version
abbrev pub program_shape : Shape
program_shape = record (new_shape (codes "dsm")) { no_binary_name = true; disable_help_flag = true; disable_help_subcommand = true; disable_version_flag = true; subcommand_required = true }

-- all of it: the program with its four commands
abbrev pub program : App
program = with_subcommand (with_subcommand (with_subcommand (with_subcommand (record { top = program_shape; subs = [] }) run_command.top) check_command.top) (names_command (codes "plain")).top) (names_command (codes "load")).top

-- the parts of a command that were found in its words: its positionals, the numbers of processors, and its flags
pub record Parts : Type 0 where
  pub names : List Text
  pub numbers : List Text
  pub trace : Bool
  pub state : Bool

-- the values of an argument, where it was given any
abbrev pub values_of : List Text → Option (List Text)
values_of [] = None
values_of (value ∷ values) = Some (value ∷ values)

-- the text that the parser keeps for a flag
abbrev pub flag_text : Bool → Text
flag_text is = if is then codes "true" else codes "false"

-- the rows that the parser has of a command say these parts; only a command with flags has rows for them
pub record Says (flags : Bool) (rows : List Row) (parts : Parts) : Type 0 where
  pub names : all_of (codes "names") rows ≡ values_of parts.names
  pub numbers : all_of (codes "procs") rows ≡ values_of parts.numbers
  pub trace : flags ≡ true → one_of (codes "trace") rows ≡ Some (flag_text parts.trace)
  pub state : flags ≡ true → one_of (codes "state") rows ≡ Some (flag_text parts.state)
