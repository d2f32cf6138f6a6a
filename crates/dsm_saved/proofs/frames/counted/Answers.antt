use Rattle.std.proofs.Common.{◌≡◌, ◌∙◌, ◌+◌, ◌∷◌, [], ℕ, None, length, sym, ap, subst, arith}
use Rattle.std.specs.Option.{option_copied}
use Rattle.std.proofs.lemmas.List.{length-append}
use Rattle.std.proofs.lemmas.Result.{err_from_is_err_and}
use Rattle.dsm_fields.specs.Reading.{numbered_at, Fails}
use Rattle.dsm_fields.proofs.Loops.{last_of, numbered_goes_on, numbered_fails, numbered_done}
use Rattle.dsm_saved.specs.Spelling.{due}
use Rattle.dsm_saved.specs.Reading.{frame_at}
use Rattle.dsm_saved.proofs.Reading.{frame_said, frame_failed}
use Rattle.dsm_saved.proofs.frames.counted.Goals as goal

pub returns-in_err-item-clause-read : goal.returns-in_err-item-clause-read
returns-in_err-item-clause-read c =
    let p = err_from_is_err_and c.from_residual.result c.from_residual.ensures.1 in
    let code = c.args.code.now in
    let last : option_copied c.last.result ≡ last_of c.loop-number.items.items = c.last.ensures.value ∙ ap last_of c.deref.ensures.value in
    let next : c.due-next.result ≡ due code (last_of c.loop-number.items.items) = c.due-next.ensures ∙ ap (due code) last in
    let said = frame_failed code c.args.waiting c.from.result c.loop-number.number (last_of c.loop-number.items.items) c.due-next.result c.loop-number.rest.now c.in_err-item.field-0.0 c.from.ensures next c.in_err-item.ensures in
    let total = numbered_at (frame_at code c.args.waiting) 0 None (c.from-count.result + 1) c.args.bytes.now in
    let failed : Fails c.in_err-item.field-0.0 total = numbered_fails c.in_err-item.field-0.0 (frame_at code c.args.waiting) c.loop-number.items.items (c.from-count.result + 1) c.loop-number.number c.loop-number.rest.now total c.loop-number-test.true said c.loop-number.invariant.read in
    rw (p.1, p.2) (subst (λ (n : ℕ). Fails c.in_err-item.field-0.0 (numbered_at (frame_at code c.args.waiting) 0 None (n + 1) c.args.bytes.now)) c.from-count.ensures failed)

pub loop-number-preserved : goal.loop-number-preserved
loop-number-preserved c =
    let code = c.args.code.now in
    let last : option_copied c.last.result ≡ last_of c.loop-number.items.items = c.last.ensures.value ∙ ap last_of c.deref.ensures.value in
    let next : c.due-next.result ≡ due code (last_of c.loop-number.items.items) = c.due-next.ensures ∙ ap (due code) last in
    let said = frame_said code c.args.waiting c.from.result c.loop-number.number (last_of c.loop-number.items.items) c.due-next.result c.loop-number.rest.now c.in_ok-item.item c.in_ok-item.after.now c.from.ensures next c.in_ok-item.ensures in
    let total = numbered_at (frame_at code c.args.waiting) 0 None (c.from-count.result + 1) c.args.bytes.now in
    record {
      read = rw c.in_ok-push.ensures.items (numbered_goes_on (frame_at code c.args.waiting) c.loop-number.items.items (c.from-count.result + 1) c.loop-number.number c.loop-number.rest.now c.in_ok-item.after.now c.in_ok-item.item total c.loop-number-test.true said c.loop-number.invariant.read);
      count = omega (arith, ap length c.in_ok-push.ensures.items, length-append c.loop-number.items.items (c.in_ok-item.item ∷ []), c.loop-number.invariant.count);
    }

pub returns-clause-read : goal.returns-clause-read
returns-clause-read c =
    let code = c.args.code.now in
    let total = numbered_at (frame_at code c.args.waiting) 0 None (c.from-count.result + 1) c.args.bytes.now in
    ap (λ (n : ℕ). numbered_at (frame_at code c.args.waiting) 0 None (n + 1) c.args.bytes.now) (sym c.from-count.ensures)
    ∙ numbered_done (frame_at code c.args.waiting) c.loop-number.items.items (last_of c.loop-number.items.items) (c.from-count.result + 1) c.loop-number.number c.loop-number.rest.now total c.loop-number-test.false c.loop-number.invariant.read
