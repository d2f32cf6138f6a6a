-- The messages of refusals.
use Rattle.std.specs.Prelude.{ℕ, Bool, true, false, if◌then◌else◌, List, [], ◌∷◌, ◌++◌, get_or, Option, Some, None, codes}
use Rattle.std.specs.Fmt.{decimal}
use Rattle.dsm_base.specs.declared.act.SchedErr.{SchedErr}
use Rattle.dsm_syntax.specs.declared.errors.Which.{Which}
use Rattle.dsm_syntax.specs.declared.errors.ProgErr.{ProgErr}
use Rattle.dsm_top.specs.declared.status.Status.{Status}
use Rattle.dsm_command.specs.Commands.{Command}
use Rattle.dsm_top.specs.Command.{files_of}

-- the name of a limit
abbrev pub limit_name : Which → List ℕ
limit_name Which.Text = codes "Text"
limit_name Which.Name = codes "Name"
limit_name Which.Tokens = codes "Tokens"
limit_name Which.Nesting = codes "Nesting"
limit_name Which.Functions = codes "Functions"
limit_name Which.Params = codes "Params"
limit_name Which.Slots = codes "Slots"
limit_name Which.PrintParts = codes "PrintParts"
limit_name Which.PrintText = codes "PrintText"
limit_name Which.SharedCells = codes "SharedCells"
limit_name Which.PrivateCells = codes "PrivateCells"
limit_name Which.Locks = codes "Locks"
limit_name Which.Barriers = codes "Barriers"

-- a text with a number behind it
abbrev pub numbered : List ℕ → ℕ → List ℕ
numbered text number = text ++ decimal number

-- a line of the source behind a text
abbrev pub at_line : ℕ → List ℕ
at_line line = numbered (codes ", line ") line

-- a name between two texts, with its line
abbrev pub named : List ℕ → List ℕ → List ℕ → ℕ → List ℕ
named before name after line = before ++ name ++ after ++ at_line line

-- why a program is refused; out of memory refuses none
abbrev pub program_text : ProgErr → List ℕ
program_text (ProgErr.BadByte line) = codes "bad byte" ++ at_line line
program_text (ProgErr.LiteralTooLarge line) = codes "literal too large" ++ at_line line
program_text (ProgErr.Limit which count) = codes "limit " ++ limit_name which ++ codes ", count " ++ decimal count
program_text (ProgErr.Unexpected line) = codes "unexpected token" ++ at_line line
program_text (ProgErr.Unknown name line) = named (codes "unknown name ") name [] line
program_text (ProgErr.Twice name line) = named (codes "name ") name (codes " twice") line
program_text (ProgErr.WrongKind name line) = named (codes "wrong kind ") name [] line
program_text (ProgErr.ArgCount name line given wanted) =
    name ++ codes " takes " ++ decimal wanted ++ codes ", given " ++ decimal given ++ at_line line
program_text ProgErr.NoMain = codes "no main"
program_text (ProgErr.BindRange line) = codes "binding out of range" ++ at_line line
program_text (ProgErr.BindOverlap cell line) =
    codes "cell " ++ decimal cell ++ codes " bound twice" ++ at_line line
program_text (ProgErr.BindOwner owner procs) =
    numbered (codes "owner ") owner ++ (numbered (codes " with ") procs ++ codes " processors")
program_text (ProgErr.OutsideLoop line) = codes "outside a loop" ++ at_line line
program_text (ProgErr.NotBuilt line) = codes "not built" ++ at_line line
program_text ProgErr.Memory = codes "out of memory"

-- why a schedule or a list of picks is refused; out of memory refuses none
abbrev pub schedule_text : SchedErr → List ℕ
schedule_text SchedErr.NoProcs = codes "no procs"
schedule_text (SchedErr.BadEntry line) = codes "bad entry" ++ at_line line
schedule_text (SchedErr.OutOfRange line) = codes "out of range" ++ at_line line
schedule_text (SchedErr.SecondCrash line) = codes "second crash" ++ at_line line
schedule_text (SchedErr.NoCrash line) = codes "no crash" ++ at_line line
schedule_text (SchedErr.TooMany count) = codes "too many units, " ++ decimal count
schedule_text (SchedErr.TooLong bytes) = codes "too long, " ++ decimal bytes
schedule_text (SchedErr.NotBuilt line) = codes "not built" ++ at_line line
schedule_text SchedErr.Memory = codes "out of memory"

-- the name of the file that could not be read, by its number
abbrev pub file_name : Option Command → ℕ → List ℕ
file_name None file = []
file_name (Some command) file = get_or (files_of command) file []

-- why a status refuses, where it does
abbrev pub refusal_text : Option Command → Status → List ℕ
refusal_text command (Status.ProgramRefused error) = codes "program refused: " ++ program_text error
refusal_text command (Status.ScheduleRefused error) = codes "schedule refused: " ++ schedule_text error
refusal_text command Status.WordsRefused = codes "words refused"
refusal_text command (Status.ReadFault file) = codes "cannot read " ++ file_name command file
refusal_text command _ = []

-- the line that a refusal writes
abbrev pub message_line : List ℕ → List ℕ
message_line text = codes "dsm: " ++ text ++ 10 ∷ []

-- whether a status refuses
abbrev pub is_refusal : Status → Bool
is_refusal (Status.ProgramRefused error) = true
is_refusal (Status.ScheduleRefused error) = true
is_refusal Status.WordsRefused = true
is_refusal (Status.ReadFault file) = true
is_refusal _ = false

-- the message of a status: one line where it refuses, and else nothing
abbrev pub message_of : Option Command → Status → List ℕ
message_of command status =
    if is_refusal status then message_line (refusal_text command status) else []
