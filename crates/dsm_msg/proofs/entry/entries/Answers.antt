use Rattle.std.proofs.Common.{◌≡◌, ◌∙◌, None, ap}
use Rattle.std.specs.Option.{option_copied}
use Rattle.std.proofs.lemmas.Result.{err_from_is_err_and}
use Rattle.dsm_fields.specs.Reading.{entries_at}
use Rattle.dsm_fields.proofs.Loops.{last_of, goes_on, fails, is_done}
use Rattle.dsm_msg.proofs.entry.entries.Goals as goal

pub returns-in_err-item : goal.returns-in_err-item
returns-in_err-item g c =
    let p = err_from_is_err_and c.from_residual.result c.from_residual.ensures.1 in
    let last : option_copied c.last.result ≡ last_of c.loop.items.items = c.last.ensures.value ∙ ap last_of c.deref.ensures.value in
    rw (p.1, p.2) (fails c.in_err-item.field-0.0 g.T.Entry.entry_at c.loop.items.items c.args.count c.loop.counter c.loop.rest.now (entries_at g.T.Entry.entry_at None c.args.count c.args.bytes.now) c.loop-test.true (rw last at c.in_err-item.ensures) c.loop.invariant)

pub loop-preserved : goal.loop-preserved
loop-preserved g c =
    let last : option_copied c.last.result ≡ last_of c.loop.items.items = c.last.ensures.value ∙ ap last_of c.deref.ensures.value in
    rw c.in_ok-push.ensures.items (goes_on g.T.Entry.entry_at c.loop.items.items c.args.count c.loop.counter c.loop.rest.now c.in_ok-item.after.now c.in_ok-item.item (entries_at g.T.Entry.entry_at None c.args.count c.args.bytes.now) c.loop-test.true (rw last at c.in_ok-item.ensures) c.loop.invariant)

pub returns : goal.returns
returns g c =
    (is_done g.T.Entry.entry_at c.loop.items.items (last_of c.loop.items.items) c.args.count c.loop.counter c.loop.rest.now (entries_at g.T.Entry.entry_at None c.args.count c.args.bytes.now) c.loop-test.false c.loop.invariant)
