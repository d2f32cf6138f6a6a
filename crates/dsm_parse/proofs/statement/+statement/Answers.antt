use Rattle.std.proofs.Common.{arith, ◌≡◌, ◌-◌, suc, map, [], ◌∷◌, sym, ap, ◌∙◌, subst}
use Rattle.std.proofs.lemmas.List.{map-append}
use Rattle.dsm_syntax.specs.Views.{view_statement}
use Rattle.dsm_syntax.specs.Gives.{Gives}
use Rattle.dsm_laws_grammar.specs.Statements as reader
use Rattle.dsm_parse.proofs.Rounds.{statements_turn, statement_falls, statements_end, statement_level, block_read}
use Rattle.dsm_parse.proofs.statement.+statement.Goals as goal

pub statement-returns : goal.statement-returns
statement-returns t c =
    let one : c.args.most ≡ suc (c.args.most - 1) = omega arith in
    subst (λ r. Gives view_statement r c.statement_by.result c.statement_by.new.cursor) (ap (λ k. reader.statement_by (c.args.most - 1) (reader.statement (c.args.most - 1)) k c.args.cursor.now) c.next-kind.ensures
    ∙ statement_level c.args.most (c.args.most - 1) c.args.cursor.now one) c.statement_by.ensures

pub statement_by-returns-in_ok-statements-in-Block : goal.statement_by-returns-in_ok-statements-in-Block
statement_by-returns-in_ok-statements-in-Block n c =
    block_read c.args.below c.args.cursor.now c.skip.new.self c.statements.new.cursor c.args.kind c.in_ok-statements-in-Block.field-0 c.in-Block.is c.skip.ensures c.in_ok-statements-in-Block.ensures

pub statements-loop-alloc-smaller : goal.statements-loop-alloc-smaller
statements-loop-alloc-smaller t c = statement_falls c.args.most c.loop-alloc.cursor c.in_ok-statement.ensures

pub statements-loop-alloc-preserved : goal.statements-loop-alloc-preserved
statements-loop-alloc-preserved t c =
    statements_turn c.args.most (map view_statement c.loop-alloc.all.items) c.loop-alloc.cursor c.loop-alloc.invariant (sym c.goes_on.ensures ∙ c.loop-alloc-test.true) c.in_ok-statement.ensures
    (ap (map view_statement) c.in_ok-push.ensures.items ∙ map-append view_statement c.loop-alloc.all.items (c.in_ok-statement.field-0 ∷ []))

pub statements-returns : goal.statements-returns
statements-returns t c =
    statements_end c.args.most c.args.cursor.now c.loop-alloc.all.items c.loop-alloc.cursor c.expect.new.self c.loop-alloc.invariant
    (sym c.goes_on.ensures ∙ c.loop-alloc-test.false) c.in_ok-expect.ensures.taken.0 c.in_ok-expect.ensures.taken.1
