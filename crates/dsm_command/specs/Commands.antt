-- The commands, and the words that ask for them.
use Rattle.std.specs.Prelude.{ℕ, Bool, true, false, ◌&&◌, ◌||◌, ◌==◌, not, nat_le, if◌then◌else◌, List, [], ◌∷◌, ◌++◌, length, map, filter, Option, Some, None, option_map, option_and_then, codes}
use Rattle.std.specs.List.{before_first, after_first, list_any, filter_map}
use Rattle.std.specs.Str.{all_ascii_digits, bytes_eq}
use Rattle.std.specs.Str.Parse.{digits_value}

-- a text is a list of bytes
abbrev pub Text : Type 0
Text = List ℕ

-- what is asked for; a file is told by its name
pub data Command : Type 0 where
  -- a run of a program by a schedule, and whether `--trace` and `--state` are given
  run : Text → Text → Bool → Bool → Command
  -- a check of a program, for so many processors
  check : Text → ℕ → Command
  -- a run of a program over one memory, by a list of picks
  plain : Text → Text → Command
  -- the large job that is made from a number
  load : ℕ → Command

-- Numbers.

-- decimal digits, and a 0 first only in the number 0
abbrev pub is_numeral : Text → Bool
is_numeral [] = false
is_numeral (first ∷ others) = all_ascii_digits (first ∷ others) && (not (first == 48) || length others == 0)

-- the number that a text stands for, where it is in a range
abbrev pub number_in : ℕ → ℕ → Text → Option ℕ
number_in least most text =
    if is_numeral text && (nat_le least (digits_value 10 text) && nat_le (digits_value 10 text) most)
    then Some (digits_value 10 text) else None

-- The words behind a command's name.

-- which flags and options a command has: `--trace` and `--state`; and `--procs`
pub record Options : Type 0 where
  pub flags : Bool
  pub procs : Bool

-- `run` has the flags, and `check` has `--procs`
abbrev pub options_of : Text → Options
options_of command = record { flags = bytes_eq (codes "run") command; procs = bytes_eq (codes "check") command }

-- what a word is, where it stands before the first word `--`
pub data Word : Type 0 where
  -- `--trace`
  trace : Word
  -- `--state`
  state : Word
  -- `--procs`, whose value is the next word
  procs : Word
  -- `--procs=N`
  procs_is : Text → Word
  -- any other word that begins with `-` and has more bytes
  stray : Word
  -- any other word
  positional : Text → Word

-- a word `--NAME`, or `--NAME=VALUE`
abbrev pub long_word : Options → Text → Option Text → Word
long_word own name None =
    if own.flags && bytes_eq (codes "trace") name then trace
    else (if own.flags && bytes_eq (codes "state") name then state
    else (if own.procs && bytes_eq (codes "procs") name then procs else stray))
long_word own name (Some value) = if own.procs && bytes_eq (codes "procs") name then procs_is value else stray

-- the byte `=`
abbrev pub is_equals : ℕ → Bool
is_equals byte = byte == 61

-- what stands behind the first `=`
abbrev pub value_in : Text → Option Text
value_in text = if list_any is_equals text then Some (after_first is_equals text) else None

-- a word by what stands behind its first byte, which is `-`
abbrev pub dashed_word : Options → Text → Word
dashed_word own [] = positional (45 ∷ [])
dashed_word own (second ∷ others) = if second == 45 then long_word own (before_first is_equals others) (value_in others) else stray

-- what a word is for a command with such options
abbrev pub word_of : Options → Text → Word
word_of own [] = positional []
word_of own (first ∷ others) = if first == 45 then dashed_word own others else positional (first ∷ others)

-- the word behind which every word is a positional
abbrev pub is_end : Text → Bool
is_end word = bytes_eq word (codes "--")

-- The arguments that words give.

-- one thing that words give
pub data Argument : Type 0 where
  with_trace : Argument
  with_state : Argument
  -- a number of processors, as it is written
  for_procs : Text → Argument
  named : Text → Argument

-- the arguments of words, where each word has its place
abbrev pub arguments_of : List Word → Option (List Argument)
arguments_of [] = Some []
arguments_of (trace ∷ words) = option_map (λ more. with_trace ∷ more) (arguments_of words)
arguments_of (state ∷ words) = option_map (λ more. with_state ∷ more) (arguments_of words)
arguments_of (procs ∷ positional value ∷ words) = option_map (λ more. for_procs value ∷ more) (arguments_of words)
arguments_of (procs_is value ∷ words) = option_map (λ more. for_procs value ∷ more) (arguments_of words)
arguments_of (positional word ∷ words) = option_map (λ more. named word ∷ more) (arguments_of words)
arguments_of _ = None

-- the argument is `--trace`
abbrev pub is_trace : Argument → Bool
is_trace with_trace = true
is_trace _ = false

-- the argument is `--state`
abbrev pub is_state : Argument → Bool
is_state with_state = true
is_state _ = false

-- its number of processors, where it is one
abbrev pub procs_in : Argument → Option Text
procs_in (for_procs value) = Some value
procs_in _ = None

-- its name, where it is a positional
abbrev pub name_in : Argument → Option Text
name_in (named word) = Some word
name_in _ = None

-- there is at most one
abbrev pub is_at_most_one : List Argument → Bool
is_at_most_one [] = true
is_at_most_one (argument ∷ []) = true
is_at_most_one _ = false

-- at most one argument passes a test
abbrev pub is_single : (Argument → Bool) → List Argument → Bool
is_single test arguments = is_at_most_one (filter test arguments)

-- The commands, by their positionals and options.

-- `run PROGRAM SCHEDULE [--trace] [--state]`
abbrev pub run_of : Bool → Bool → List Text → Option Command
run_of traced stated (program ∷ schedule ∷ []) = Some (run program schedule traced stated)
run_of traced stated _ = None

-- `check PROGRAM --procs N`, for 2 to 16 processors
abbrev pub check_of : List Text → List Text → Option Command
check_of (program ∷ []) (number ∷ []) = option_map (check program) (number_in 2 16 number)
check_of _ _ = None

-- `plain PROGRAM PICKS`
abbrev pub plain_of : List Text → Option Command
plain_of (program ∷ picks ∷ []) = Some (plain program picks)
plain_of _ = None

-- `load SEED`, with a number of at most 999,999
abbrev pub load_of : List Text → Option Command
load_of (seed ∷ []) = option_map load (number_in 0 999999 seed)
load_of _ = None

-- the commands that have no flags
abbrev pub other_of : Text → List Text → List Text → Option Command
other_of command names numbers =
    if bytes_eq (codes "check") command then check_of names numbers
    else (if bytes_eq (codes "plain") command then plain_of names
    else (if bytes_eq (codes "load") command then load_of names else None))

-- the command of this name, with its flags, its positionals and its numbers of processors
abbrev pub command_with : Text → Bool → Bool → List Text → List Text → Option Command
command_with command traced stated names numbers =
    if bytes_eq (codes "run") command then run_of traced stated names else other_of command names numbers

-- the command of this name with these arguments, and with these positionals behind them
abbrev pub command_by : Text → List Text → List Argument → Option Command
command_by command behind arguments =
    if is_single is_trace arguments && is_single is_state arguments
    then command_with command (list_any is_trace arguments) (list_any is_state arguments) (filter_map name_in arguments ++ behind) (filter_map procs_in arguments)
    else None

-- the arguments that stand before the first word `--`
abbrev pub arguments_in : Text → List Text → Option (List Argument)
arguments_in command words = arguments_of (map (word_of (options_of command)) (before_first is_end words))

-- the command that the words ask for, where they ask for one
abbrev pub command_of : List Text → Option Command
command_of [] = None
command_of (command ∷ words) = option_and_then (command_by command (after_first is_end words)) (arguments_in command words)
