use Rattle.std.proofs.Common.{◌+◌, List, Ok, drop, sym, ap, ◌∙◌, subst, arith}
use Rattle.std.proofs.lemmas.List.{drop_all}
use Rattle.dsm_syntax.specs.declared.tree.Statement.{Statement as TreeStatement}
use Rattle.dsm_syntax.specs.Tree as t
use Rattle.dsm_syntax.specs.Views as tree
use Rattle.dsm_syntax.proofs.Shown as shown
use Rattle.dsm_check.specs.declared.resolved.Statement.{Statement}
use Rattle.dsm_check.specs.Resolved as r
use Rattle.dsm_check.specs.Views.{view_statement, view_statements}
use Rattle.dsm_check.specs.Answers.{Gives}
use Rattle.dsm_check.specs.Bodies.{resolve_statement, resolve_statements}
use Rattle.dsm_check.specs.BodyTables.{scope_of, around_of}
use Rattle.dsm_check.proofs.Shown.{view_block}
use Rattle.dsm_check.proofs.Collections.{drop-next}
use Rattle.dsm_check.proofs.Sequences.{trailing, trailing-next, trailing-end, blocked}
use Rattle.dsm_check.proofs.scope.Scope.+statement.Goals as goal

pub block-returns-clause-value : goal.block-returns-clause-value
block-returns-clause-value m c =
    let after = scope_of c.close.new.self in
    blocked (around_of c.args.around) c.args.looped (tree.view_statements c.args.statements.now) (view_statements c.in_ok-made.made.items)
    (scope_of c.args.self.now) (scope_of c.open.new.self) (scope_of c.statements.new.self) after
    c.in_ok-open.ensures.value c.in_ok-made.ensures.value c.close.ensures.value
    ∙ ap (λ (s : r.Statement). Ok (s, after)) (sym (view_block c.in_ok-made.made))

pub statement-returns-in-Block-clause-value : goal.statement-returns-in-Block-clause-value
statement-returns-in-Block-clause-value m c =
    let check = λ (s : t.Statement). resolve_statement (around_of c.args.around) c.args.looped (scope_of c.args.self.now) s in
    let P : t.Statement → Type 0 = λ s. Gives (λ made. (view_statement made, scope_of c.block.new.self)) c.block.result (check s) in
    let Q : List TreeStatement → Type 0 = λ all. P (t.block (tree.view_statements all)) in
    subst P (sym (ap tree.view_statement c.in-Block.is ∙ shown.view_block c.in-Block.statements)) (subst Q c.deref.ensures.value c.block.ensures.value)

pub statements-loop-statement-preserved : goal.statements-loop-statement-preserved
statements-loop-statement-preserved m c =
    let around = around_of c.args.around in
    let looped = c.args.looped in
    let all = c.args.statements.now in
    let i = c.loop-statement.statement-index in
    let made = c.loop-statement.made.items in
    let before = scope_of c.loop-statement.self in
    let next = scope_of c.statement.new.self in
    let invariant = c.loop-statement.invariant in (
      omega (arith, c.in_ok-statement.ensures.blocks, invariant.0),
      c.in_ok-statement.ensures.blocks ∙ invariant.1,
      invariant.2
          ∙ ap (λ (rest : List TreeStatement). trailing made (resolve_statements around looped before (tree.view_statements rest))) (drop-next all i c.statement-item.result c.loop-statement-test.true c.statement-item.is)
          ∙ trailing-next around looped made before c.statement-item.result (drop (i + 1) all) c.in_ok-statement.field-0 next c.in_ok-statement.ensures.value
          ∙ ap (λ (now : List Statement). trailing now (resolve_statements around looped next (tree.view_statements (drop (i + 1) all)))) (sym c.in_ok-push.ensures.items),
    )

pub statements-returns-clause-value : goal.statements-returns-clause-value
statements-returns-clause-value m c =
    let scope = scope_of c.loop-statement.self in
    c.loop-statement.invariant.2
    ∙ ap (λ (rest : List TreeStatement). trailing c.loop-statement.made.items (resolve_statements (around_of c.args.around) c.args.looped scope (tree.view_statements rest))) (drop_all _ _ c.loop-statement-test.false)
    ∙ trailing-end c.loop-statement.made.items scope
