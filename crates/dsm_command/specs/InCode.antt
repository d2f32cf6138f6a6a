-- What the code has for a command.
use Rattle.std.specs.Prelude.{◌≡◌, ℕ, ◌&&◌, nat_le, if◌then◌else◌, List, [], ◌∷◌, Option, Some, None, Result, Ok, Err, map, string_bytes}
use Rattle.std.specs.Borrow.{Bor}
use Rattle.dsm_command.specs.Commands.{Text, Command, run, check, plain, load}
use Rattle.dsm_command.specs.declared.command.Command as code
use Rattle.dsm_command.specs.declared.command.WordsErr.{WordsErr}
use Rattle.dsm_command.specs.declared.command.Command.TheVariants as code_of

-- what a command in the code asks for
abbrev pub command_in : code.Command → Command
command_in (code_of.Run program schedule trace state) = run (string_bytes program) (string_bytes schedule) trace state
command_in (code_of.Check program procs) = check (string_bytes program) procs
command_in (code_of.Plain program picks) = plain (string_bytes program) (string_bytes picks)
command_in (code_of.Load seed) = load seed

-- the texts that references lead to
abbrev pub texts_in : Option (Bor (List (Bor Text))) → List Text
texts_in None = []
texts_in (Some texts) = map (λ text. text.now) texts.now

-- the text, where there is one
abbrev pub one_of : List Text → Option Text
one_of (text ∷ []) = Some text
one_of _ = None

-- the texts, where there are two
abbrev pub two_of : List Text → Option (Text × Text)
two_of (first ∷ second ∷ []) = Some (first, second)
two_of _ = None

-- a number that was read, where it is in a range
abbrev pub bounded : {E : Type 0} → ℕ → ℕ → Result ℕ E → Option ℕ
bounded least most (Ok number) = if nat_le least number && nat_le number most then Some number else None
bounded least most (Err error) = None

-- a call answers the command that is asked for, and refuses where none is; out of memory owes nothing
abbrev pub Answers : Option Command → Result code.Command WordsErr → Type 0
Answers asked (Ok command) = asked ≡ Some (command_in command)
Answers asked (Err WordsErr.Refused) = asked ≡ None
Answers asked (Err WordsErr.Memory) = Unit {0}
