use Rattle.std.proofs.Common.{◌≡◌, ◌∙◌, ap, subst, sym}
use Rattle.dsm_segments.specs.Entries.{newest}
use Rattle.dsm_segments.specs.Chains.{AreThere}
use Rattle.dsm_segments.proofs.Reading.{newest_last}
use Rattle.dsm_segments.proofs.chain.last.Goals as goal

pub returns-in-Some : goal.returns-in-Some
returns-in-Some g c =
    c.last.ensures.value ∙ ap newest c.entries_at.ensures
    ∙ sym (newest_last c.args.slab.now c.in-Some.key c.in-Some.ensures.0 c.args.keys.now c.in-Some.ensures.1 (subst (λ ks. AreThere c.args.slab.now ks) c.in-Some.ensures.1 c.requires))
