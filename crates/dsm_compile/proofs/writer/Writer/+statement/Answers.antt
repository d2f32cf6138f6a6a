use Rattle.std.proofs.Common.{◌≡◌, length, map, drop, refl, sym, ◌∙◌, ap, rules, subst, arith}
use Rattle.std.specs.Prelude.{OnOk}
use Rattle.dsm_check.specs.Views.{view, view_part, view_statement, view_statements}
use Rattle.dsm_check.specs.Resolved as r
use Rattle.dsm_check.proofs.Shown.{view_block}
use Rattle.dsm_laws_code.specs.Statements.{before, statements_code}
use Rattle.dsm_compile.specs.Drafts.{exits_of, borrowed, with_statement, with_statements}
use Rattle.dsm_compile.proofs.Writing.{statement_before}
use Rattle.dsm_compile.proofs.Made.{whens_made, parts_made, loops_made}
use Rattle.dsm_compile.proofs.writer.Writer.+statement.Goals as goal

-- a block shows the statements that lie in its vector
pub statement-returns-in-Block : goal.statement-returns-in-Block
statement-returns-in-Block t c =
    let shown : view_statement c.args.statement.now ≡ r.block (view_statements c.in-Block.body.items) =
    ap view_statement c.in-Block.is ∙ view_block c.in-Block.body in
    rw shown (search rules)

pub when-returns : goal.when-returns
when-returns t c =
    subst (λ made. OnOk c.expression.result (c.expression.new.self ≡ made))
    (whens_made (exits_of c.args.exits) (view c.args.test.now) (view_statement c.args.body.now) c.in_ok-count.count c.len-after.result c.args.self.now c.statement.new.self c.put.new.self
    c.in_ok-statement.ensures c.len-after.ensures (λ part rest h k. c.in_ok-count.ensures part rest h k) c.in_ok-put.ensures)
    c.expression.ensures

pub first_part-returns : goal.first_part-returns
first_part-returns t c other rest shown behind =
    subst (λ made. OnOk c.put-2.result (c.put-2.new.self ≡ made))
    (parts_made (exits_of c.args.exits) (exits_of c.in_ok-exits.exits) (view_statement c.args.body.now) c.in_ok-other.other c.in_ok-sum.field-0 c.in_ok-one.one c.len-after.result other rest
    c.args.self.now c.put.new.self c.statement.new.self shown (c.in_ok-other.ensures other rest shown behind) c.in_ok-sum.ensures c.in_ok-exits.ensures c.in_ok-put.ensures c.len-after.ensures c.in_ok-statement.ensures
    (λ part more h k. c.in_ok-one.ensures part more h k))
    c.put-2.ensures

pub loop_of-returns : goal.loop_of-returns
loop_of-returns t c =
    loops_made (record { loop = c.in_ok-sum.field-0; body = 0 }) (borrowed c.args.test) (borrowed c.args.step) (view_statement c.args.body.now) c.in_ok-third.third c.in_ok-sum.field-0
    c.in_ok-round.round c.len-after.result c.len-behind.result c.args.self.now c.put.new.self c.optional_effect.new.self c.statement.new.self c.test.new.self c.set_back.new.self
    c.in_ok-put.ensures c.len-after.ensures c.len-behind.ensures c.in_ok-optional_effect.ensures (λ part rest h k. c.in_ok-third.ensures part rest h k)
    c.in_ok-sum.ensures refl c.in_ok-statement.ensures (λ part rest h k. c.in_ok-test.ensures part rest h k) (λ part rest h k. c.in_ok-round.ensures part rest h k)
    (λ part rest long was. c.set_back.ensures part rest long was)

pub statements-loop-at-preserved : goal.statements-loop-at-preserved
statements-loop-at-preserved t c =
    let all = c.args.statements.now in
    let d = c.args.self.now in
    let at = c.loop-at.at in
    let one = c.index-statements-at in
    let exits = exits_of c.args.exits in
    let rest = view_statements (drop at all) in
    let code = statements_code d.pieces exits (length d.prints) rest in
    let behind : c.loop-at.self ≡ with_statements exits rest d = c.loop-at.invariant in
    let count : c.in_ok-behind.behind ≡ length code = c.in_ok-behind.ensures code d.rows (ap (λ x. x.rows) behind) (sym c.len-after.ensures) in
    let within : exits_of c.in_ok-before.field-0 ≡ before (length code) exits = c.in_ok-before.ensures ∙ ap (λ n. before n exits) count in
    c.in_ok-statement.ensures
    ∙ (λ i. with_statement (within i) (view_statement (one.is i)) (behind i))
    ∙ statement_before exits at one.result all d (omega arith) (omega arith)

pub statement-returns-in-Acquire : goal.statement-returns-in-Acquire
statement-returns-in-Acquire t c =
    subst (λ s. OnOk c.acquire.result (c.acquire.new.self ≡ with_statement (exits_of c.args.exits) s c.args.self.now)) (sym (ap view_statement c.in-Acquire.is)) (c.acquire.ensures (exits_of c.args.exits))

pub statement-returns-in-Release : goal.statement-returns-in-Release
statement-returns-in-Release t c =
    subst (λ s. OnOk c.release.result (c.release.new.self ≡ with_statement (exits_of c.args.exits) s c.args.self.now)) (sym (ap view_statement c.in-Release.is)) (c.release.ensures (exits_of c.args.exits))

pub statement-returns-in-Barrier : goal.statement-returns-in-Barrier
statement-returns-in-Barrier t c =
    subst (λ s. OnOk c.barrier.result (c.barrier.new.self ≡ with_statement (exits_of c.args.exits) s c.args.self.now)) (sym (ap view_statement c.in-Barrier.is)) (c.barrier.ensures (exits_of c.args.exits))

pub statement-returns-in-Print : goal.statement-returns-in-Print
statement-returns-in-Print t c =
    let shown : view_statement c.args.statement.now ≡ r.print (map view_part c.as_slice-in-Print.result.now) =
    ap view_statement c.in-Print.is ∙ ap (λ parts. r.print (map view_part parts)) (sym c.as_slice-in-Print.ensures.value) in
    subst (λ s. OnOk c.print.result (c.print.new.self ≡ with_statement (exits_of c.args.exits) s c.args.self.now)) (sym shown) (c.print.ensures (exits_of c.args.exits))
