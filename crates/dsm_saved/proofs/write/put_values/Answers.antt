use mir.Val.{SFits}
use Rattle.std.proofs.Common.{rules, ◌≡◌, ◌+◌, ◌++◌, ◌∷◌, [], ℤ, pos, w64, to_z, of_z, take, get_or, subst}
use Rattle.std.proofs.lemmas.Int.{to_z-of_z}
use Rattle.std.proofs.lemmas.List.{take_more}
use Rattle.dsm_fields.specs.Fields.{Appends}
use Rattle.dsm_fields.proofs.Loops.{numbered_more}
use Rattle.dsm_saved.specs.Spelling.{value_fields}
use Rattle.dsm_saved.proofs.write.put_values.Goals as goal

pub loop-value-preserved : goal.loop-value-preserved
loop-value-preserved c = λ row count at last.
    let i = c.loop-value.value-index in
    let values = c.args.values.now in
    let value = get_or values i (pos 0) in
    let fits : SFits w64 value = search rules in
    let same : to_z w64 (of_z w64 value) ≡ value = to_z-of_z w64 value fits in
    let more : take (i + 1) values ≡ take i values ++ value ∷ [] = take_more values i (pos 0) c.loop-value-test.true in
    rw more (numbered_more (value_fields row count) (take i values) value _ _ _ (c.loop-value.invariant row count)
    (λ at last. subst (λ (z : ℤ). Appends (value_fields row count at last z) c.loop-value.out.items c.put_value.new.out.items) same (c.in_ok-put_value.ensures row count at last)) at last)
