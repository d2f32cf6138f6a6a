use Rattle.std.proofs.Common.{rules, ◌≡◌, ◌∙◌, ap, ap₂, false, ◌||◌}
use Rattle.std.proofs.lemmas.Result.{IfOk-weaker}
use Rattle.clap.specs.Words.{App, app_of, rule_of, with_rule, with_subcommand}
use Rattle.dsm_command.specs.Parser.{names_rule, names_command}
use Rattle.dsm_command.proofs.parser.names_command.Goals as goal

pub returns : goal.returns
returns c =
    let names : rule_of c.action-names.result ≡ names_rule = search rules in
    let names_local : c.action-names.result.global ≡ false = search rules in
    IfOk-weaker c.arg.result _ _ (λ r added old new adds.
    let shape : app_of r ≡ names_command c.args.name.now = added.shape names_local ∙ ap₂ with_rule c.new-2.ensures.app names in
    let local = added.globals ∙ ap₂ (λ a b. a || b) c.new-2.ensures.local names_local in
    adds.shape local ∙ ap (λ (a : App). with_subcommand (app_of old) a.top) shape) c.arg.ensures
