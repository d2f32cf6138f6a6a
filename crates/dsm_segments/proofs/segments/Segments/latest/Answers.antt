use Rattle.std.proofs.Common.{◌≡◌, ◌∙◌, [], ap, get_or}
use Rattle.dsm_segments.specs.Entries.{latest}
use Rattle.dsm_segments.proofs.Owners.{at_keys}
use Rattle.dsm_segments.proofs.segments.Segments.latest.Goals as goal

pub returns : goal.returns
returns g c =
    c.latest.ensures
    ∙ ap (latest g.T.Numbered.log_number c.args.number) (at_keys c.self.inside.slab c.self.inside.chains.items c.args.owner c.args.self.now c.keys_of.result.now
    (c.keys_of.ensures ∙ ap (λ cs. get_or cs c.args.owner []) c.as_slice.ensures.value) c.self.view_is)
