use Rattle.std.proofs.Common.{◌≡◌, ◌+◌, ◌-◌, ◌^◌, length, get_or, min, take, ap, arith, length-append}
use Rattle.slab.specs.Slab.{get}
use Rattle.dsm_segments.specs.Chains.{entries_at, entries_of}
use Rattle.dsm_segments.proofs.Reading.{entries_more}
use Rattle.dsm_segments.proofs.chain.count.Goals as goal

pub loop-key-preserved : goal.loop-key-preserved
loop-key-preserved g c =
    let more = ap length (entries_more c.args.slab.now c.args.keys.now c.loop-key.key-index c.loop-key-test.true) in
    let size = length-append (entries_of c.args.slab.now (take c.loop-key.key-index c.args.keys.now)) (entries_at (get c.args.slab.now (get_or c.args.keys.now c.loop-key.key-index 0))) in
    let here = ap length c.entries_at.ensures in
    let total : c.saturating_add-total.result ≡ min (length (entries_of c.args.slab.now (take (c.loop-key.key-index + 1) c.args.keys.now))) (2 ^ 64 - 1) =
    omega (arith, more, size, here, c.loop-key.invariant, c.saturating_add-total.ensures) in
    total
