use Rattle.std.proofs.Common.{◌≡◌, ◌∙◌, ◌<◌, ◌++◌, ◌∷◌, [], ap, length, refl, subst}
use Rattle.std.proofs.lemmas.Result.{on_ok_weaker}
use Rattle.std.proofs.lemmas.List.{get_or_default}
use Rattle.dsm_base.specs.Family.{update}
use Rattle.dsm_segments.specs.Entries.{entries}
use Rattle.dsm_segments.specs.Chains.{chains_of}
use Rattle.dsm_segments.proofs.Owners.{at_keys, changed, still_sound}
use Rattle.dsm_segments.proofs.segments.Segments.push.Goals as goal

pub invariant_of-self-2 : goal.invariant_of-self-2
invariant_of-self-2 g c =
    let within : c.args.owner < length c.reach.new.chains.items = subst (λ n. c.args.owner < n) c.reach.new.chains.ok.0 c.in_ok-reach.ensures.reached in
    still_sound c.self.inside.slab c.append.new.slab c.self.inside.chains.items c.reach.new.chains.items c.args.owner c.append.new.keys within c.in_ok-reach.ensures.same c.append.ensures.changes c.self.invariant

pub returns : goal.returns
returns g c =
    let within : c.args.owner < length c.reach.new.chains.items = subst (λ n. c.args.owner < n) c.reach.new.chains.ok.0 c.in_ok-reach.ensures.reached in
    on_ok_weaker c.append.result
    (λ grown.
    changed c.self.inside.slab c.append.new.slab c.self.inside.chains.items c.reach.new.chains.items c.args.owner c.append.new.keys within c.in_ok-reach.ensures.same c.append.ensures.changes c.self.invariant
    (entries (chains_of c.self.inside.slab c.self.inside.chains.items) c.args.owner ++ c.args.entry ∷ [])
    (grown ∙ ap (λ l. l ++ c.args.entry ∷ []) (at_keys c.self.inside.slab c.self.inside.chains.items c.args.owner (chains_of c.self.inside.slab c.self.inside.chains.items) c.index_mut-keys.result.now
    (c.index_mut-keys.ensures.value ∙ get_or_default c.reach.new.chains.items c.args.owner _ [] within ∙ c.in_ok-reach.ensures.same c.args.owner) refl))
    ∙ ap (λ v. update (entries v) c.args.owner (entries v c.args.owner ++ c.args.entry ∷ [])) c.self.view_is)
    c.append.ensures.entries
