use Rattle.std.proofs.Common.{◌≡◌, ◌∙◌, ◌++◌, ◌∷◌, [], ap, sym, refl}
use Rattle.slab.specs.Slab.{get}
use Rattle.dsm_segments.proofs.Growing.{started_after, unchanged}
use Rattle.dsm_segments.proofs.chain.start_segment.Goals as goal

pub returns-in_err-reserve-clause-changes : goal.returns-in_err-reserve-clause-changes
returns-in_err-reserve-clause-changes g c = unchanged _ _ _ _ _ (λ key. ap (λ s. get s key) c.reserve.ensures.rest_kept) refl c.requires.sound

pub returns-in_err-push-2-clause-changes : goal.returns-in_err-push-2-clause-changes
returns-in_err-push-2-clause-changes g c = unchanged _ _ _ _ _ (λ key. ap (λ s. get s key) c.reserve.ensures.rest_kept) c.in_err-push-2.ensures.err c.requires.sound

pub returns-clause-changes : goal.returns-clause-changes
returns-clause-changes g c =
    (started_after c.args.slab.now c.reserve.new.self c.insert_reserved.new.self c.args.owner c.insert_reserved.result _ c.args.entry c.args.keys.now c.push-2.new.self
    (λ key. ap (λ s. get s key) c.reserve.ensures.rest_kept) c.insert_reserved.ensures.was_vacant c.insert_reserved.ensures.updates refl
    (c.in_ok-push.ensures.ok ∙ ap (λ es. es ++ c.args.entry ∷ []) c.new-entries.ensures)
    (c.in_ok-push-2.ensures.ok ∙ ap (λ k. c.args.keys.now ++ k ∷ []) (c.vacant_key.ensures.value ∙ sym c.insert_reserved.ensures.key))
    c.requires.sound c.requires.closed).0

pub returns-clause-entries : goal.returns-clause-entries
returns-clause-entries g c =
    (started_after c.args.slab.now c.reserve.new.self c.insert_reserved.new.self c.args.owner c.insert_reserved.result _ c.args.entry c.args.keys.now c.push-2.new.self
    (λ key. ap (λ s. get s key) c.reserve.ensures.rest_kept) c.insert_reserved.ensures.was_vacant c.insert_reserved.ensures.updates refl
    (c.in_ok-push.ensures.ok ∙ ap (λ es. es ++ c.args.entry ∷ []) c.new-entries.ensures)
    (c.in_ok-push-2.ensures.ok ∙ ap (λ k. c.args.keys.now ++ k ∷ []) (c.vacant_key.ensures.value ∙ sym c.insert_reserved.ensures.key))
    c.requires.sound c.requires.closed).1
