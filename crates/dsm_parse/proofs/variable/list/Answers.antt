use Rattle.std.proofs.Common.{arith, ◌≡◌, true, map, [], ◌∷◌, sym, ap, ◌∙◌}
use Rattle.std.proofs.lemmas.List.{map-append}
use Rattle.dsm_syntax.specs.declared.sign.Sign.{Sign}
use Rattle.dsm_syntax.specs.Views.{view_variable}
use Rattle.dsm_syntax.specs.Reading.{tail, is_sign}
use Rattle.dsm_laws_grammar.specs.Statements as reader
use Rattle.dsm_laws_grammar.proofs.Lists.{more_turn, more_falls}
use Rattle.dsm_laws_grammar.proofs.Variables.{variable_good}
use Rattle.dsm_parse.proofs.variable.list.Goals as goal

pub loop-alloc-smaller : goal.loop-alloc-smaller
loop-alloc-smaller c =
    let comma : is_sign Sign.Comma c.loop-alloc.cursor ≡ true = sym c.is_sign.ensures ∙ c.loop-alloc-test.true in
    let one = ap (reader.variable c.args.most) (sym c.skip.ensures) ∙ c.in_ok-variable-2.ensures in
    omega (arith, more_falls c.loop-alloc.cursor (variable_good c.args.most c.requires.some (tail c.loop-alloc.cursor)) (view_variable c.in_ok-variable-2.field-0) c.variable-in-loop-alloc.new.cursor comma one)

pub loop-alloc-preserved : goal.loop-alloc-preserved
loop-alloc-preserved c =
    more_turn (variable_good c.args.most c.requires.some) (map view_variable c.loop-alloc.all.items) c.loop-alloc.cursor c.loop-alloc.invariant (sym c.is_sign.ensures ∙ c.loop-alloc-test.true)
    c.skip.ensures c.in_ok-variable-2.ensures (ap (map view_variable) c.in_ok-push-2.ensures.items ∙ map-append view_variable c.loop-alloc.all.items (c.in_ok-variable-2.field-0 ∷ []))
