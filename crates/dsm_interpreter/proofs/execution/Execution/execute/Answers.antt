use Rattle.std.proofs.Common.{◌≡◌, ◌∙◌, ap, rules}
use Rattle.dsm_check.specs.Views.{view_statement, view_statements}
use Rattle.dsm_check.specs.Resolved as r
use Rattle.dsm_check.proofs.Shown.{view_block}
use Rattle.dsm_interpreter.proofs.execution.Execution.execute.Goals as goal

-- a block shows the statements that lie in its vector
pub returns-in_ok-push-in-Block : goal.returns-in_ok-push-in-Block
returns-in_ok-push-in-Block c =
    let shown : view_statement c.args.statement.now ≡ r.block (view_statements c.in-Block.body.items) =
    ap view_statement c.in-Block.is ∙ view_block c.in-Block.body in
    rw shown (search rules)
