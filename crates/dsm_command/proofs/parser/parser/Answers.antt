use Rattle.std.proofs.Common.{◌≡◌, ◌∙◌, ap, true, codes, []}
use Rattle.std.proofs.lemmas.Result.{IfOk-weaker}
use Rattle.clap.specs.Words.{App, app_of, with_subcommand}
use Rattle.dsm_command.specs.Parser.{program_shape, run_command, check_command, names_command}
use Rattle.dsm_command.proofs.parser.parser.Goals as goal

pub returns : goal.returns
returns c =
    let start : app_of c.subcommand_required.result ≡ record { top = program_shape; subs = [] } =
    rw (c.subcommand_required.ensures, c.disable_help_subcommand.ensures, c.disable_version_flag.ensures, c.disable_help_flag.ensures, c.no_binary_name.ensures)
    (ap (λ (a : App). record { top = record a.top { no_binary_name = true; disable_help_flag = true; disable_help_subcommand = true; disable_version_flag = true; subcommand_required = true }; subs = a.subs }) c.new.ensures.app) in
    let one = c.in_ok-run.ensures _ _ c.in_ok-subcommand.ensures ∙ ap (λ a. with_subcommand a run_command.top) start in
    let two = c.in_ok-check.ensures _ _ c.in_ok-subcommand-2.ensures ∙ ap (λ a. with_subcommand a check_command.top) one in
    let three = c.in_ok-plain.ensures _ _ c.in_ok-subcommand-3.ensures ∙ ap (λ a. with_subcommand a (names_command (codes "plain")).top) two in
    IfOk-weaker c.subcommand-4.result _ _ (λ r added. c.in_ok-load.ensures _ r added ∙ ap (λ a. with_subcommand a (names_command (codes "load")).top) three) c.subcommand-4.ensures
