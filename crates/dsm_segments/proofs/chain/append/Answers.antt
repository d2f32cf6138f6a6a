use Rattle.std.proofs.Common.{refl, subst}
use Rattle.dsm_segments.specs.Steps.{HasRoomAt}
use Rattle.dsm_segments.proofs.Growing.{filled, filled_entries, last_own, unchanged}
use Rattle.dsm_segments.proofs.chain.append.Goals as goal

pub fill-requires : goal.fill-requires
fill-requires g c =
    last_own c.args.slab.now c.args.owner c.in-Some.last c.args.keys.now (subst (λ ks. HasRoomAt c.args.slab.now ks c.in-Some.last) c.as_slice.ensures c.in-Some.ensures) c.requires.sound.chain

pub returns-in_err-fill-clause-changes : goal.returns-in_err-fill-clause-changes
returns-in_err-fill-clause-changes g c = unchanged c.args.slab.now c.fill.new.slab c.args.owner c.args.keys.now c.args.keys.now c.in_err-fill.ensures.err refl c.requires.sound

pub returns-in-Some-clause-changes : goal.returns-in-Some-clause-changes
returns-in-Some-clause-changes g c =
    filled c.args.slab.now c.fill.new.slab c.args.owner c.in-Some.last c.args.entry c.args.keys.now (subst (λ ks. HasRoomAt c.args.slab.now ks c.in-Some.last) c.as_slice.ensures c.in-Some.ensures) c.in_ok-fill.ensures.ok c.requires.sound

pub returns-in-Some-clause-entries : goal.returns-in-Some-clause-entries
returns-in-Some-clause-entries g c =
    filled_entries c.args.slab.now c.fill.new.slab c.args.owner c.in-Some.last c.args.entry c.args.keys.now (subst (λ ks. HasRoomAt c.args.slab.now ks c.in-Some.last) c.as_slice.ensures c.in-Some.ensures) c.in_ok-fill.ensures.ok c.requires.sound
