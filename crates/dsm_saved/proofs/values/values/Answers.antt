use mir.Val.{SFits}
use Rattle.std.proofs.Common.{rules, ◌≡◌, ◌∙◌, ◌++◌, ◌∷◌, [], ℤ, w64, None, ap}
use Rattle.std.proofs.lemmas.Int.{to_z-of_z}
use Rattle.std.proofs.lemmas.Result.{err_from_is_err_and}
use Rattle.dsm_fields.specs.Reading.{numbered_at}
use Rattle.dsm_fields.proofs.Loops.{last_of, numbered_goes_on, numbered_fails, numbered_done}
use Rattle.dsm_saved.specs.Reading.{value_at}
use Rattle.dsm_saved.proofs.values.values.Goals as goal

pub returns-in_err-item : goal.returns-in_err-item
returns-in_err-item c =
    let p = err_from_is_err_and c.from_residual.result c.from_residual.ensures.1 in
    let last : c.copied.result ≡ last_of c.loop-number.items.items = c.copied.ensures ∙ c.last.ensures.value ∙ ap last_of c.deref.ensures.value in
    rw (p.1, p.2) (numbered_fails c.in_err-item.field-0.0 (value_at c.args.row c.args.count) c.loop-number.items.items c.args.count c.loop-number.number c.loop-number.rest.now (numbered_at (value_at c.args.row c.args.count) 0 None c.args.count c.args.bytes.now) c.loop-number-test.true (rw last at c.in_err-item.ensures) c.loop-number.invariant)

pub loop-number-preserved : goal.loop-number-preserved
loop-number-preserved c =
    let last : c.copied.result ≡ last_of c.loop-number.items.items = c.copied.ensures ∙ c.last.ensures.value ∙ ap last_of c.deref.ensures.value in
    let fits : SFits w64 c.in_ok-item.item = search rules in
    let pushed : c.push.new.self.items ≡ c.loop-number.items.items ++ c.in_ok-item.item ∷ [] = c.in_ok-push.ensures.items ∙ ap (λ (v : ℤ). c.loop-number.items.items ++ v ∷ []) (to_z-of_z w64 c.in_ok-item.item fits) in
    rw pushed (numbered_goes_on (value_at c.args.row c.args.count) c.loop-number.items.items c.args.count c.loop-number.number c.loop-number.rest.now c.in_ok-item.after.now c.in_ok-item.item (numbered_at (value_at c.args.row c.args.count) 0 None c.args.count c.args.bytes.now) c.loop-number-test.true (rw last at c.in_ok-item.ensures) c.loop-number.invariant)

pub returns : goal.returns
returns c =
    numbered_done (value_at c.args.row c.args.count) c.loop-number.items.items (last_of c.loop-number.items.items) c.args.count c.loop-number.number c.loop-number.rest.now (numbered_at (value_at c.args.row c.args.count) 0 None c.args.count c.args.bytes.now) c.loop-number-test.false c.loop-number.invariant
