use Rattle.std.proofs.Common.{◌≡◌, ◌∙◌, [], ap, get_or}
use Rattle.dsm_segments.proofs.Owners.{few_at, segments_count}
use Rattle.dsm_segments.proofs.segments.Segments.segments.Goals as goal

pub returns-clause-value : goal.returns-clause-value
returns-clause-value g c =
    segments_count c.self.inside.slab c.self.inside.chains.items c.args.owner c.args.self.now c.keys_of.result.now
    (c.keys_of.ensures ∙ ap (λ cs. get_or cs c.args.owner []) c.as_slice.ensures.value) c.self.view_is

pub returns-clause-few : goal.returns-clause-few
returns-clause-few g c =
    few_at c.self.inside.slab c.self.inside.chains.items c.args.owner c.args.self.now c.keys_of.result.now
    (c.keys_of.ensures ∙ ap (λ cs. get_or cs c.args.owner []) c.as_slice.ensures.value) c.self.view_is c.self.invariant
