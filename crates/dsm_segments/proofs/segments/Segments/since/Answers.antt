use Rattle.std.proofs.Common.{◌≡◌, ◌∙◌, [], ap, subst, get_or, IfOk}
use Rattle.dsm_segments.specs.Entries.{over}
use Rattle.dsm_segments.proofs.Owners.{at_keys}
use Rattle.dsm_segments.proofs.segments.Segments.since.Goals as goal

pub returns : goal.returns
returns g c =
    subst (λ l. IfOk c.since.result (λ found. found ≡ over g.T.Numbered.log_number c.args.least l))
    (at_keys c.self.inside.slab c.self.inside.chains.items c.args.owner c.args.self.now c.keys_of.result.now
    (c.keys_of.ensures ∙ ap (λ cs. get_or cs c.args.owner []) c.as_slice.ensures.value) c.self.view_is)
    c.since.ensures
