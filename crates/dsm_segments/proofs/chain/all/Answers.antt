use Rattle.std.proofs.Common.{◌≡◌, ◌∙◌, ◌++◌, take, ap, sym}
use Rattle.dsm_segments.specs.Chains.{entries_of}
use Rattle.dsm_segments.proofs.Reading.{entries_more}
use Rattle.dsm_segments.proofs.chain.all.Goals as goal

pub loop-key-preserved : goal.loop-key-preserved
loop-key-preserved g c =
    c.in_ok-copy_all.ensures
    ∙ ap (λ l. l ++ c.entries_at.result.now) c.loop-key.invariant
    ∙ ap (λ l. entries_of c.args.slab.now (take c.loop-key.key-index c.args.keys.now) ++ l) c.entries_at.ensures
    ∙ sym (entries_more c.args.slab.now c.args.keys.now c.loop-key.key-index c.loop-key-test.true)
