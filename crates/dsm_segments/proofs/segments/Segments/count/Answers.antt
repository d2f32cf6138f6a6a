use Rattle.std.proofs.Common.{◌≡◌, ◌∙◌, ◌-◌, ◌^◌, [], ap, get_or, length, min}
use Rattle.dsm_segments.proofs.Owners.{at_keys}
use Rattle.dsm_segments.proofs.segments.Segments.count.Goals as goal

pub returns : goal.returns
returns g c =
    c.count.ensures
    ∙ ap (λ l. min (length l) (2 ^ 64 - 1)) (at_keys c.self.inside.slab c.self.inside.chains.items c.args.owner c.args.self.now c.keys_of.result.now
    (c.keys_of.ensures ∙ ap (λ cs. get_or cs c.args.owner []) c.as_slice.ensures.value) c.self.view_is)
