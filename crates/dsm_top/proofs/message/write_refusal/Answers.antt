use Rattle.std.proofs.Common.{◌∙◌, ◌++◌, ap, append_assoc}
use Rattle.std.specs.Prelude.{codes}
use Rattle.std.proofs.lemmas.Result.{on_ok_weaker}
use Rattle.dsm_top.specs.CommandInCode.{told_command}
use Rattle.dsm_top.specs.Messages.{program_text, file_name}
use Rattle.dsm_top.proofs.message.write_refusal.Goals as goal

pub returns-in_ok-text-in-ProgramRefused : goal.returns-in_ok-text-in-ProgramRefused
returns-in_ok-text-in-ProgramRefused c =
    rw c.in-ProgramRefused.is (on_ok_weaker c.write_program_error.result (λ e.
    e ∙ ap (λ x. x ++ program_text c.in-ProgramRefused.error) c.in_ok-text-in-ProgramRefused.ensures
    ∙ append_assoc c.args.out.now (codes "program refused: ") (program_text c.in-ProgramRefused.error)) c.write_program_error.ensures)

pub returns-in_ok-text-in-ReadFault : goal.returns-in_ok-text-in-ReadFault
returns-in_ok-text-in-ReadFault c =
    rw c.in-ReadFault.is (on_ok_weaker c.write_file_name.result (λ e.
    e ∙ ap (λ x. x ++ file_name (told_command c.args.command) c.in-ReadFault.file) c.in_ok-text-in-ReadFault.ensures
    ∙ append_assoc c.args.out.now (codes "cannot read ") (file_name (told_command c.args.command) c.in-ReadFault.file)) c.write_file_name.ensures)
