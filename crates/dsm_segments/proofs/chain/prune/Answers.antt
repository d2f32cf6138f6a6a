use Rattle.std.proofs.Common.{◌≡◌, ◌∙◌, subst, sym, ap, refl, slice_index}
use Rattle.std.proofs.lemmas.Bool.{false≢true}
use Rattle.dsm_segments.specs.Entries.{behind}
use Rattle.dsm_segments.specs.Chains.{entries_of}
use Rattle.dsm_segments.specs.Sound.{IsSound}
use Rattle.dsm_segments.specs.Steps.{Empties, Trims}
use Rattle.dsm_segments.proofs.Chains.{first_present, keeps_then}
use Rattle.dsm_segments.proofs.Growing.{unchanged}
use Rattle.dsm_segments.proofs.Pruning.{emptied, trimmed}
use Rattle.dsm_segments.proofs.chain.prune.Goals as goal

pub loop-keys-init : goal.loop-keys-init
loop-keys-init g c = record {
  changes = unchanged c.args.slab.now c.args.slab.now c.args.owner c.args.keys.now c.args.keys.now (λ key. refl) refl c.requires.sound;
  entries = refl;
}

pub loop-keys-preserved : goal.loop-keys-preserved
loop-keys-preserved g c =
    let gone = emptied g.T.Numbered.log_number c.loop-keys.slab c.trim.new.slab c.args.owner c.args.upto c.loop-keys.keys (λ e. false≢true (c.loop-keys-test.ensures.1 e))
    (subst (λ ks. Empties g.T.Numbered.log_number c.args.upto c.loop-keys.slab c.trim.new.slab (slice_index ks 0)) c.as_slice.ensures c.if-not-trim.ensures) c.loop-keys.invariant.changes.sound in
    record {
      changes = record {
        sound = subst (λ ks. IsSound c.trim.new.slab c.args.owner ks) (sym c.remove.ensures.rest) gone.0.sound;
        others = keeps_then c.args.slab.now c.loop-keys.slab c.trim.new.slab c.args.owner c.loop-keys.invariant.changes.others gone.0.others;
      };
      entries = ap (λ ks. behind g.T.Numbered.log_number c.args.upto (entries_of c.trim.new.slab ks)) c.remove.ensures.rest ∙ gone.1 ∙ c.loop-keys.invariant.entries;
    }

pub returns-then-not-trim-clause-changes : goal.returns-then-not-trim-clause-changes
returns-then-not-trim-clause-changes g c =
    let left = trimmed g.T.Numbered.log_number c.loop-keys.slab c.trim.new.slab c.args.owner c.args.upto c.loop-keys.keys (λ e. false≢true (c.loop-keys-test.ensures.1 e))
    (subst (λ ks. Trims g.T.Numbered.log_number c.args.upto c.loop-keys.slab c.trim.new.slab (slice_index ks 0)) c.as_slice.ensures c.if-not-trim.ensures) c.loop-keys.invariant.changes.sound in
    record {
      sound = left.0.sound;
      others = keeps_then c.args.slab.now c.loop-keys.slab c.trim.new.slab c.args.owner c.loop-keys.invariant.changes.others left.0.others;
    }

pub returns-then-not-trim-clause-entries : goal.returns-then-not-trim-clause-entries
returns-then-not-trim-clause-entries g c =
    let left = trimmed g.T.Numbered.log_number c.loop-keys.slab c.trim.new.slab c.args.owner c.args.upto c.loop-keys.keys (λ e. false≢true (c.loop-keys-test.ensures.1 e))
    (subst (λ ks. Trims g.T.Numbered.log_number c.args.upto c.loop-keys.slab c.trim.new.slab (slice_index ks 0)) c.as_slice.ensures c.if-not-trim.ensures) c.loop-keys.invariant.changes.sound in
    left.1 ∙ c.loop-keys.invariant.entries
