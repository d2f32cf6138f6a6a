use Rattle.std.proofs.Common.{arith, ◌≡◌, ◌≤◌, ◌<◌, ◌+◌, true, Some, Err, map, [], ◌∷◌, sym, ap, ◌∙◌, subst}
use Rattle.std.proofs.lemmas.List.{map-append}
use Rattle.std.proofs.lemmas.Result.{err_from_is_err_and}
use Rattle.dsm_syntax.specs.declared.sign.Sign.{Sign}
use Rattle.dsm_syntax.specs.declared.tree.Expression.{Expression}
use Rattle.dsm_parse.specs.declared.measured.Measured.{Measured}
use Rattle.dsm_syntax.specs.Views.{view, view_place}
use Rattle.dsm_syntax.specs.Gives.{Gives}
use Rattle.dsm_syntax.specs.Heights.{height, height_arguments}
use Rattle.dsm_syntax.specs.Reading.{and_then, look, tail, is_sign, gathered, more_of}
use Rattle.dsm_syntax.specs.Roles.{infix_of, infix_tightness}
use Rattle.dsm_laws_grammar.specs.Expressions.{below, climb, operation, place_behind, expression, expressions}
use Rattle.dsm_laws_grammar.proofs.Lists.{more_gathers, more_falls}
use Rattle.dsm_laws_grammar.proofs.Expressions.{expression_good}
use Rattle.dsm_parse.proofs.Turns.{level_below, place_below, turns_on, turns_none, binds_too_little, binds_nothing, none_of, height_append}
use Rattle.dsm_parse.proofs.expression.+expression.Goals as goal
use Rattle.dsm_parse.proofs.expression.+expression.Goals.{climb-in-Some+then-tightness-least, climb-in_default}

pub arguments-loop-alloc-smaller : goal.arguments-loop-alloc-smaller
arguments-loop-alloc-smaller t c =
    let comma : is_sign Sign.Comma c.loop-alloc.cursor ≡ true = sym c.is_sign.ensures ∙ c.loop-alloc-test.true in
    let one = ap (expression c.args.depth) (sym c.skip.ensures) ∙ c.in_ok-next.ensures.read in
    omega (arith, more_falls c.loop-alloc.cursor (expression_good c.args.depth c.requires.over (tail c.loop-alloc.cursor)) (view c.in_ok-next.next.tree) c.at_least-in-loop-alloc.new.cursor comma one)

pub arguments-loop-alloc-preserved : goal.arguments-loop-alloc-preserved
arguments-loop-alloc-preserved t c =
    let comma : is_sign Sign.Comma c.loop-alloc.cursor ≡ true = sym c.is_sign.ensures ∙ c.loop-alloc-test.true in
    let one = ap (expression c.args.depth) (sym c.skip.ensures) ∙ c.in_ok-next.ensures.read in
    let shown = ap (map view) c.in_ok-push-2.ensures.items ∙ map-append view c.loop-alloc.list.items (c.in_ok-next.next.tree ∷ []) in
    record {
      read = c.loop-alloc.invariant.read
          ∙ more_gathers (expression_good c.args.depth c.requires.over) (map view c.loop-alloc.list.items) (view c.in_ok-next.next.tree) c.loop-alloc.cursor c.at_least-in-loop-alloc.new.cursor comma one
          ∙ ap (λ l. gathered l (more_of (expression c.args.depth)) c.at_least-in-loop-alloc.new.cursor) (sym shown);
      height = omega (arith, c.max-height.ensures, c.loop-alloc.invariant.height, c.in_ok-next.ensures.height, height_append (map view c.loop-alloc.list.items) (view c.in_ok-next.next.tree), ap (λ l. height_arguments (expressions l)) shown);
      low = omega (arith, c.max-height.ensures, c.loop-alloc.invariant.low, c.in_ok-next.ensures.low);
    }

pub at_least-returns-clause-read : goal.at_least-returns-clause-read
at_least-returns-clause-read t c =
    let one : c.in-Some.depth + 1 ≡ c.args.most = omega arith in
    let above = level_below c.args.most c.in-Some.depth c.args.least c.args.cursor.now one in
    let first = ap (λ r. and_then r (climb c.in-Some.depth (below c.in-Some.depth) c.in-Some.depth c.args.least)) c.in_ok-first.ensures.read in
    subst (λ r. Gives (λ e. view e.tree) r c.climb.result c.climb.new.cursor) (sym (above ∙ first)) c.climb.ensures.read

pub place-returns-clause-read : goal.place-returns-clause-read
place-returns-clause-read t c =
    let one : c.in-Some.depth + 1 ≡ c.args.most = omega arith in
    let above = place_below c.args.most c.in-Some.depth c.args.cursor.now one in
    let first = ap (λ r. and_then r (place_behind c.in-Some.depth (below c.in-Some.depth))) c.in_ok-name.ensures in
    subst (λ r. Gives (λ p. view_place p.tree) r c.place_behind.result c.place_behind.new.cursor) (sym (above ∙ first)) c.place_behind.ensures.read

pub climb-returns-in_err-left-clause-read : goal.climb-returns-in_err-left-clause-read
climb-returns-in_err-left-clause-read t c =
    let next : infix_of (look c.loop-operator.cursor) ≡ Some (c.in-Some.operator, c.in-Some.line) = sym c.next.ensures ∙ c.in-Some.is in
    let binds : c.args.least < infix_tightness (view c.loop-operator.left.tree) c.in-Some.operator = omega (arith, c.tightness.ensures, c.if-tightness-least.false) in
    let low : height (view c.loop-operator.left.tree) ≤ c.args.depth = omega (arith, c.loop-operator.invariant.height, c.in_ok-rise.ensures.taken.0) in
    let one = subst (λ l. Gives (λ (e : Measured Expression). view e.tree) (operation c.args.depth (below c.args.depth) (Some (c.in-Some.operator, c.in-Some.line)) (view c.loop-operator.left.tree) l) (Err c.in_err-left.field-0.0) c.operation.new.cursor) c.in_ok-rise.ensures.taken.1 c.in_err-left.ensures.read in
    let p = err_from_is_err_and c.from_residual-in_err-left.result c.from_residual-in_err-left.ensures.1 in
    subst (λ r. Gives (λ (e : Measured Expression). view e.tree) r c.from_residual-in_err-left.result c.operation.new.cursor) (sym c.loop-operator.invariant.read)
    (rw (p.1, p.2) (turns_none c.args.depth c.args.least (view c.loop-operator.left.tree) c.in-Some.operator c.in-Some.line c.loop-operator.cursor next (λ (e : Measured Expression). view e.tree) (λ (e : Measured Expression). view e.tree) c.in_err-left.field-0.0 c.operation.new.cursor binds low one))

pub climb-loop-operator-preserved : goal.climb-loop-operator-preserved
climb-loop-operator-preserved t c =
    let next : infix_of (look c.loop-operator.cursor) ≡ Some (c.in-Some.operator, c.in-Some.line) = sym c.next.ensures ∙ c.in-Some.is in
    let binds : c.args.least < infix_tightness (view c.loop-operator.left.tree) c.in-Some.operator = omega (arith, c.tightness.ensures, c.if-tightness-least.false) in
    let low : height (view c.loop-operator.left.tree) ≤ c.args.depth = omega (arith, c.loop-operator.invariant.height, c.in_ok-rise.ensures.taken.0) in
    let one = ap (operation c.args.depth (below c.args.depth) (Some (c.in-Some.operator, c.in-Some.line)) (view c.loop-operator.left.tree)) (sym c.in_ok-rise.ensures.taken.1) ∙ c.in_ok-left.ensures.read in
    record {
      read = c.loop-operator.invariant.read ∙ turns_on c.args.depth c.args.least (view c.loop-operator.left.tree) c.in-Some.operator c.in-Some.line c.loop-operator.cursor next (view c.in_ok-left.left.tree) c.operation.new.cursor binds low one;
      height = c.in_ok-left.ensures.height;
      low = c.in_ok-left.ensures.low;
    }

pub climb-returns-clause-read : goal.climb-returns-clause-read
climb-returns-clause-read t c =
    c.loop-operator.invariant.read ∙ elim c.match-next.branch [
      | climb-in-Some+then-tightness-least w ↦
          binds_too_little c.args.depth c.args.least (view c.loop-operator.left.tree) w.in-Some.operator w.in-Some.line c.loop-operator.cursor (sym c.next.ensures ∙ w.in-Some.is)
          (omega (arith, w.tightness.ensures, w.if-tightness-least.true))
      | climb-in_default w ↦
          binds_nothing c.args.depth c.args.least (view c.loop-operator.left.tree) c.loop-operator.cursor (sym c.next.ensures ∙ none_of c.next.result w.in_default.not-Some)
    ]
