use Rattle.std.proofs.Common.{true, ◌+◌, List, Ok, drop, sym, ap, ◌∙◌, subst}
use Rattle.std.proofs.lemmas.List.{drop_all}
use Rattle.dsm_syntax.specs.declared.tree.Expression.{Expression as TreeExpression}
use Rattle.dsm_syntax.specs.Tree as t
use Rattle.dsm_syntax.specs.Views as tree
use Rattle.dsm_syntax.proofs.Shown as shown
use Rattle.dsm_check.specs.declared.resolved.Expression.{Expression}
use Rattle.dsm_check.specs.Views.{view, views}
use Rattle.dsm_check.specs.Answers.{Gives}
use Rattle.dsm_check.specs.Bodies.{resolve, resolve_all, resolve_call}
use Rattle.dsm_check.specs.BodyTables.{scope_of}
use Rattle.dsm_check.proofs.Shown.{view_call}
use Rattle.dsm_check.proofs.Collections.{behind, behind-next, behind-end, drop-next, called}
use Rattle.dsm_check.proofs.scope.Scope.+expression.Goals as goal

pub arguments-loop-argument-preserved : goal.arguments-loop-argument-preserved
arguments-loop-argument-preserved t c =
    let names = (scope_of c.args.self.now).names in
    let all = c.args.arguments.now in
    let i = c.loop-argument.argument-index in
    let made = c.loop-argument.made.items in
    c.loop-argument.invariant
    ∙ ap (λ (rest : List TreeExpression). behind made (resolve_all names (tree.views rest))) (drop-next all i c.argument-item.result c.loop-argument-test.true c.argument-item.is)
    ∙ behind-next names made c.argument-item.result (drop (i + 1) all) c.in_ok-expression.field-0 c.in_ok-expression.ensures
    ∙ ap (λ (now : List Expression). behind now (resolve_all names (tree.views (drop (i + 1) all)))) (sym c.in_ok-push.ensures.items)

pub arguments-returns : goal.arguments-returns
arguments-returns t c =
    let names = (scope_of c.args.self.now).names in
    let made = c.loop-argument.made.items in
    c.loop-argument.invariant
    ∙ ap (λ (rest : List TreeExpression). behind made (resolve_all names (tree.views rest))) (drop_all _ _ c.loop-argument-test.false)
    ∙ behind-end made

pub call-returns : goal.call-returns
call-returns t c =
    called c.args.needed (scope_of c.args.self.now).names c.args.name.now c.args.arguments.now c.in_ok-named.named c.in_ok-function.function
    (views c.in_ok-values.values.items) c.in_ok-named.ensures c.in_ok-function.ensures c.in_ok-values.ensures
    ∙ ap (λ e. Ok e) (sym (view_call c.in_ok-function.function c.in_ok-values.values c.args.name.now.line))

pub expression-returns-in-Call : goal.expression-returns-in-Call
expression-returns-in-Call m c =
    let names = (scope_of c.args.self.now).names in
    let P : t.Expression → Type 0 = λ e. Gives view c.call.result (resolve names e) in
    let Q : List TreeExpression → Type 0 = λ all. Gives view c.call.result (resolve_call true names c.in-Call.name (tree.views all)) in
    subst P (sym (ap tree.view c.in-Call.is ∙ shown.view_call c.in-Call.name c.in-Call.arguments))
    (subst Q c.deref-in-Call.ensures.value c.call.ensures)
