use Rattle.std.proofs.Common.{rules, ◌≡◌, ◌∙◌, ap, ap₂, false, ◌||◌}
use Rattle.std.proofs.lemmas.Result.{IfOk-weaker}
use Rattle.clap.specs.Words.{App, app_of, rule_of, with_rule, with_subcommand}
use Rattle.dsm_command.specs.Parser.{names_rule, trace_rule, state_rule, run_command}
use Rattle.dsm_command.proofs.parser.run_command.Goals as goal

pub returns : goal.returns
returns c =
    let names : rule_of c.action-names.result ≡ names_rule = search rules in
    let names_local : c.action-names.result.global ≡ false = search rules in
    let trace : rule_of c.action-trace.result ≡ trace_rule = search rules in
    let trace_local : c.action-trace.result.global ≡ false = search rules in
    let state : rule_of c.action-state.result ≡ state_rule = search rules in
    let state_local : c.action-state.result.global ≡ false = search rules in
    let shape1 = c.in_ok-arg.ensures.shape names_local ∙ ap₂ with_rule (c.new-4.ensures.app) names in
    let local1 = c.in_ok-arg.ensures.globals ∙ ap₂ (λ a b. a || b) c.new-4.ensures.local names_local in
    let shape2 = c.in_ok-arg-2.ensures.shape trace_local ∙ ap₂ with_rule shape1 trace in
    let local2 = c.in_ok-arg-2.ensures.globals ∙ ap₂ (λ a b. a || b) local1 trace_local in
    IfOk-weaker c.arg-3.result _ _ (λ r added old new adds.
    let shape : app_of r ≡ run_command = added.shape state_local ∙ ap₂ with_rule shape2 state in
    let local = added.globals ∙ ap₂ (λ a b. a || b) local2 state_local in
    adds.shape local ∙ ap (λ (a : App). with_subcommand (app_of old) a.top) shape) c.arg-3.ensures
