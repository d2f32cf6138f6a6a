-- A command in the code, behind a reference, where there is one.
use Rattle.std.specs.Prelude.{Option, option_map}
use Rattle.std.specs.Borrow.{Bor}
use Rattle.dsm_command.specs.Commands.{Command}
use Rattle.dsm_command.specs.declared.command.Command as code
use Rattle.dsm_command.specs.InCode.{command_in}

-- what it stands for
abbrev pub told_command : Option (Bor code.Command) → Option Command
told_command command = option_map (λ (one : Bor code.Command). command_in one.now) command
