use Rattle.std.proofs.Common.{◌≡◌, ◌∙◌, ap, rules}
use Rattle.dsm_check.specs.Views.{view, views}
use Rattle.dsm_check.specs.Resolved as r
use Rattle.dsm_check.proofs.Shown.{view_call}
use Rattle.dsm_interpreter.proofs.execution.Execution.evaluate.Goals as goal

-- a call shows the arguments that lie in its vector
pub returns-in_ok-push-in-Call : goal.returns-in_ok-push-in-Call
returns-in_ok-push-in-Call c =
    let shown : view c.args.e.now ≡ r.call c.in-Call.function (views c.in-Call.arguments.items) c.in-Call.line =
    ap view c.in-Call.is ∙ view_call c.in-Call.function c.in-Call.arguments c.in-Call.line in
    rw shown (search rules)
