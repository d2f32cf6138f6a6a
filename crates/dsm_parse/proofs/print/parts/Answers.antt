use Rattle.std.proofs.Common.{arith, ◌≡◌, true, map, [], ◌∷◌, sym, ap, ◌∙◌}
use Rattle.std.proofs.lemmas.List.{map-append}
use Rattle.dsm_syntax.specs.declared.sign.Sign.{Sign}
use Rattle.dsm_syntax.specs.Views.{view_part}
use Rattle.dsm_syntax.specs.Reading.{tail, is_sign}
use Rattle.dsm_laws_grammar.specs.Statements as reader
use Rattle.dsm_laws_grammar.proofs.Lists.{more_turn, more_falls}
use Rattle.dsm_laws_grammar.proofs.Heads.{part_good}
use Rattle.dsm_parse.proofs.print.parts.Goals as goal

pub loop-alloc-smaller : goal.loop-alloc-smaller
loop-alloc-smaller c =
    let comma : is_sign Sign.Comma c.loop-alloc.cursor ≡ true = sym c.is_sign.ensures ∙ c.loop-alloc-test.true in
    let one = ap (reader.part c.args.most) (sym c.skip.ensures) ∙ c.in_ok-part-2.ensures in
    omega (arith, more_falls c.loop-alloc.cursor (part_good c.args.most (tail c.loop-alloc.cursor)) (view_part c.in_ok-part-2.field-0) c.part-in-loop-alloc.new.cursor comma one)

pub loop-alloc-preserved : goal.loop-alloc-preserved
loop-alloc-preserved c =
    more_turn (part_good c.args.most) (map view_part c.loop-alloc.all.items) c.loop-alloc.cursor c.loop-alloc.invariant (sym c.is_sign.ensures ∙ c.loop-alloc-test.true)
    c.skip.ensures c.in_ok-part-2.ensures (ap (map view_part) c.in_ok-push-2.ensures.items ∙ map-append view_part c.loop-alloc.all.items (c.in_ok-part-2.field-0 ∷ []))
