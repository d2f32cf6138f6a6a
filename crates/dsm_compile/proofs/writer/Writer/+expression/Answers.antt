use Rattle.std.proofs.Common.{◌≡◌, ◌+◌, ◌-◌, drop, ◌∙◌, ap, rules, subst, arith}
use Rattle.std.specs.Prelude.{OnOk}
use Rattle.dsm_check.specs.Views.{view, views}
use Rattle.dsm_check.specs.Resolved as r
use Rattle.dsm_check.proofs.Shown.{view_call}
use Rattle.dsm_code.specs.declared.instruction.Instr.{Instr}
use Rattle.dsm_laws_code.specs.Expressions.{expression_code, arguments_code}
use Rattle.dsm_compile.specs.Drafts.{with_code}
use Rattle.dsm_compile.proofs.Writing.{ands_made, firsts_made, calls_made, next_argument}
use Rattle.dsm_compile.proofs.writer.Writer.+expression.Goals as goal

-- a call shows the arguments that lie in its vector
pub expression-returns-in-Call : goal.expression-returns-in-Call
expression-returns-in-Call t c =
    let shown : view c.args.e.now ≡ r.call c.in-Call.function (views c.in-Call.arguments.items) c.in-Call.line =
    ap view c.in-Call.is ∙ view_call c.in-Call.function c.in-Call.arguments c.in-Call.line in
    rw shown (search rules)

pub and_then-returns : goal.and_then-returns
and_then-returns t c =
    subst (λ made. OnOk c.put-4.result (c.put-4.new.self ≡ made))
    (ands_made c.args.depth c.in_ok-tested.tested c.in_ok-count.count c.len-after.result (λ pieces. expression_code pieces c.args.depth (view c.args.e.now))
    c.args.self.now c.put.new.self c.put-2.new.self c.put-3.new.self c.expression.new.self c.in_ok-tested.ensures c.in_ok-put.ensures c.in_ok-put-2.ensures c.in_ok-put-3.ensures c.in_ok-expression.ensures
    c.len-after.ensures (λ part rest h k. c.in_ok-count.ensures part rest h k))
    c.put-4.ensures

pub first-returns : goal.first-returns
first-returns t c second rest shown behind =
    subst (λ made. OnOk c.put-2.result (c.put-2.new.self ≡ made))
    (firsts_made c.args.depth c.in_ok-tested.tested c.in_ok-second.second c.in_ok-first.first c.len-after.result (λ pieces. expression_code pieces c.args.depth (view c.args.e.now)) second rest
    c.args.self.now c.put.new.self c.expression.new.self c.in_ok-tested.ensures shown (c.in_ok-second.ensures second rest shown behind) c.in_ok-put.ensures c.len-after.ensures c.in_ok-expression.ensures
    (λ part more h k. c.in_ok-first.ensures part more h k))
    c.put-2.ensures

pub call-returns : goal.call-returns
call-returns t c =
    subst (λ made. OnOk c.arguments.result (c.arguments.new.self ≡ made))
    (calls_made c.args.depth c.in_ok-sum.field-0 c.in_ok-count.count (Instr.Enter c.args.function c.args.line) (λ pieces. arguments_code pieces c.args.depth (views c.args.arguments.now)) c.args.arguments.now
    c.args.self.now c.put.new.self c.in_ok-sum.ensures c.in_ok-count.ensures c.in_ok-put.ensures)
    c.arguments.ensures

pub arguments-loop-at-preserved : goal.arguments-loop-at-preserved
arguments-loop-at-preserved t c =
    let all = c.args.arguments.now in
    let d = c.args.self.now in
    let at = c.loop-at.at in
    let one = c.index-arguments-at in
    let behind : c.loop-at.self ≡ with_code (arguments_code d.pieces (c.args.depth + at) (views (drop at all))) d = c.loop-at.invariant in
    let depth : c.in_ok-sum.field-0 ≡ c.args.depth + (at - 1) = c.in_ok-sum.ensures ∙ ap (λ n. c.args.depth + n) c.in_ok-small.ensures in
    c.in_ok-expression.ensures
    ∙ (λ i. with_code (expression_code (behind i).pieces (depth i) (view (one.is i))) (behind i))
    ∙ next_argument c.args.depth at one.result all d (omega arith) (omega arith)
