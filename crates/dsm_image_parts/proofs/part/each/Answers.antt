use Rattle.std.proofs.Common.{◌≡◌, ◌∙◌, None, ap}
use Rattle.std.specs.Option.{option_copied}
use Rattle.std.proofs.lemmas.Result.{err_from_is_err_and}
use Rattle.dsm_fields.proofs.Loops.{last_of}
use Rattle.dsm_image_parts.specs.Keys.{each_at}
use Rattle.dsm_image_parts.proofs.Keyed.{each_goes_on, each_fails, each_done}
use Rattle.dsm_image_parts.proofs.part.each.Goals as goal

pub returns-in_err-item : goal.returns-in_err-item
returns-in_err-item g c =
    let p = err_from_is_err_and c.from_residual.result c.from_residual.ensures.1 in
    let last : option_copied c.last.result ≡ last_of c.loop-key.items.items = c.last.ensures.value ∙ ap last_of c.deref.ensures.value in
    rw (p.1, p.2) (each_fails c.in_err-item.field-0.0 (λ (key : g.row.Of.Denot). g.T.Part.part_at c.args.scope.now key 0) c.loop-key.items.items c.args.keys.now c.loop-key.key-index c.key-item.result c.loop-key.rest.now (each_at (λ (key : g.row.Of.Denot). g.T.Part.part_at c.args.scope.now key 0) None c.args.keys.now c.args.bytes.now) c.loop-key-test.true c.key-item.is (rw last at c.in_err-item.ensures) c.loop-key.invariant)

pub loop-key-preserved : goal.loop-key-preserved
loop-key-preserved g c =
    let last : option_copied c.last.result ≡ last_of c.loop-key.items.items = c.last.ensures.value ∙ ap last_of c.deref.ensures.value in
    rw c.in_ok-push.ensures.items (each_goes_on (λ (key : g.row.Of.Denot). g.T.Part.part_at c.args.scope.now key 0) c.loop-key.items.items c.args.keys.now c.loop-key.key-index c.key-item.result c.loop-key.rest.now c.in_ok-item.after.now c.in_ok-item.item (each_at (λ (key : g.row.Of.Denot). g.T.Part.part_at c.args.scope.now key 0) None c.args.keys.now c.args.bytes.now) c.loop-key-test.true c.key-item.is (rw last at c.in_ok-item.ensures) c.loop-key.invariant)

pub returns : goal.returns
returns g c =
    each_done (λ (key : g.row.Of.Denot). g.T.Part.part_at c.args.scope.now key 0) c.loop-key.items.items (last_of c.loop-key.items.items) c.args.keys.now c.loop-key.key-index c.loop-key.rest.now (each_at (λ (key : g.row.Of.Denot). g.T.Part.part_at c.args.scope.now key 0) None c.args.keys.now c.args.bytes.now) c.loop-key-test.false c.loop-key.invariant
