use Rattle.std.proofs.Common.{List, false, sym, ap, ◌∙◌, subst}
use Rattle.dsm_syntax.specs.declared.tree.Expression.{Expression as TreeExpression}
use Rattle.dsm_syntax.specs.Tree as t
use Rattle.dsm_syntax.specs.Views as tree
use Rattle.dsm_syntax.proofs.Shown as shown
use Rattle.dsm_check.specs.Views.{view}
use Rattle.dsm_check.specs.Answers.{Gives}
use Rattle.dsm_check.specs.Bodies.{resolve_call, resolve_effect}
use Rattle.dsm_check.specs.BodyTables.{scope_of}
use Rattle.dsm_check.proofs.scope.Scope.effect.Goals as goal

pub returns-in-Call : goal.returns-in-Call
returns-in-Call c =
    let names = (scope_of c.args.self.now).names in
    let P : t.Expression → Type 0 = λ e. Gives view c.call.result (resolve_effect names e) in
    let Q : List TreeExpression → Type 0 = λ all. Gives view c.call.result (resolve_call false names c.in-Call.name (tree.views all)) in
    subst P (sym (ap tree.view c.in-Call.is ∙ shown.view_call c.in-Call.name c.in-Call.arguments))
    (subst Q c.deref.ensures.value c.call.ensures)
