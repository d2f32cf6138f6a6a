use Rattle.std.proofs.Common.{◌≡◌, ◌∙◌, [], ap, get_or}
use Rattle.dsm_segments.specs.Entries.{newest}
use Rattle.dsm_segments.proofs.Owners.{at_keys, there_at}
use Rattle.dsm_segments.proofs.segments.Segments.last.Goals as goal

pub last-requires : goal.last-requires
last-requires g c =
    there_at c.self.inside.slab c.self.inside.chains.items c.args.owner c.keys_of.result.now
    (c.keys_of.ensures ∙ ap (λ cs. get_or cs c.args.owner []) c.as_slice.ensures.value) c.self.invariant

pub returns : goal.returns
returns g c =
    c.last.ensures
    ∙ ap newest (at_keys c.self.inside.slab c.self.inside.chains.items c.args.owner c.args.self.now c.keys_of.result.now
    (c.keys_of.ensures ∙ ap (λ cs. get_or cs c.args.owner []) c.as_slice.ensures.value) c.self.view_is)
