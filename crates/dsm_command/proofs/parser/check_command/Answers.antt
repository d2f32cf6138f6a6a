use Rattle.std.proofs.Common.{rules, ◌≡◌, ◌∙◌, ap, ap₂, false, ◌||◌}
use Rattle.std.proofs.lemmas.Result.{IfOk-weaker}
use Rattle.clap.specs.Words.{App, app_of, rule_of, with_rule, with_subcommand}
use Rattle.dsm_command.specs.Parser.{names_rule, procs_rule, check_command}
use Rattle.dsm_command.proofs.parser.check_command.Goals as goal

pub returns : goal.returns
returns c =
    let names : rule_of c.action-names.result ≡ names_rule = search rules in
    let names_local : c.action-names.result.global ≡ false = search rules in
    let procs : rule_of c.action-procs.result ≡ procs_rule = search rules in
    let procs_local : c.action-procs.result.global ≡ false = search rules in
    let shape1 = c.in_ok-arg.ensures.shape names_local ∙ ap₂ with_rule (c.new-3.ensures.app) names in
    let local1 = c.in_ok-arg.ensures.globals ∙ ap₂ (λ a b. a || b) c.new-3.ensures.local names_local in
    IfOk-weaker c.arg-2.result _ _ (λ r added old new adds.
    let shape : app_of r ≡ check_command = added.shape procs_local ∙ ap₂ with_rule shape1 procs in
    let local = added.globals ∙ ap₂ (λ a b. a || b) local1 procs_local in
    adds.shape local ∙ ap (λ (a : App). with_subcommand (app_of old) a.top) shape) c.arg-2.ensures
