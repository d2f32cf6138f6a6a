use Rattle.std.proofs.Common.{◌≡◌, ◌∙◌, ◌<◌, ◌≤◌, [], ap, length, get_or, refl, sym, arith}
use Rattle.std.proofs.lemmas.List.{get_or_default, get_or_past}
use Rattle.dsm_base.specs.Family.{update}
use Rattle.dsm_base.proofs.Families.{update_back, update_same}
use Rattle.dsm_segments.specs.Entries.{behind, entries, over}
use Rattle.dsm_segments.specs.Chains.{chains_of, entries_of}
use Rattle.dsm_segments.proofs.Lists.{behind_over}
use Rattle.dsm_segments.proofs.Owners.{at_keys, changed, entries_under, still_sound}
use Rattle.dsm_segments.proofs.segments.Segments.prune.Goals as goal

pub invariant_of-self : goal.invariant_of-self
invariant_of-self g c =
    let within : c.args.owner < length c.self.inside.chains.items = omega (arith, c.len.ensures, c.if-owner-len.true) in
    still_sound c.self.inside.slab c.prune.new.slab c.self.inside.chains.items c.self.inside.chains.items c.args.owner c.prune.new.keys within (λ other. refl) c.prune.ensures.changes c.self.invariant

pub returns-then-owner-len-clause-front : goal.returns-then-owner-len-clause-front
returns-then-owner-len-clause-front g c =
    let within : c.args.owner < length c.self.inside.chains.items = omega (arith, c.len.ensures, c.if-owner-len.true) in
    changed c.self.inside.slab c.prune.new.slab c.self.inside.chains.items c.self.inside.chains.items c.args.owner c.prune.new.keys within (λ other. refl) c.prune.ensures.changes c.self.invariant
    (behind g.T.Numbered.log_number c.args.upto (entries (chains_of c.self.inside.slab c.self.inside.chains.items) c.args.owner))
    (c.prune.ensures.entries
    ∙ ap (behind g.T.Numbered.log_number c.args.upto) (at_keys c.self.inside.slab c.self.inside.chains.items c.args.owner (chains_of c.self.inside.slab c.self.inside.chains.items) c.index_mut.result.now
    (c.index_mut.ensures.value ∙ get_or_default c.self.inside.chains.items c.args.owner _ [] within) refl))
    ∙ ap (λ v. update (entries v) c.args.owner (behind g.T.Numbered.log_number c.args.upto (entries v c.args.owner))) c.self.view_is

pub returns-then-owner-len-clause-pruned : goal.returns-then-owner-len-clause-pruned
returns-then-owner-len-clause-pruned g c = λ rising.
    ap (λ f. f c.args.owner) (returns-then-owner-len-clause-front g c)
    ∙ update_same (entries c.args.self.now) c.args.owner (behind g.T.Numbered.log_number c.args.upto (entries c.args.self.now c.args.owner))
    ∙ behind_over g.T.Numbered.log_number c.args.upto (entries c.args.self.now c.args.owner) rising

pub returns-else-owner-len-clause-front : goal.returns-else-owner-len-clause-front
returns-else-owner-len-clause-front g c =
    let past : length c.self.inside.chains.items ≤ c.args.owner = omega (arith, c.len.ensures, c.if-owner-len.false) in
    let none : entries c.args.self.now c.args.owner ≡ [] =
    ap (λ v. entries v c.args.owner) (sym c.self.view_is) ∙ entries_under c.self.inside.slab c.self.inside.chains.items c.args.owner ∙ ap (entries_of c.self.inside.slab) (get_or_past c.self.inside.chains.items c.args.owner [] past) in
    sym (ap (λ l. update (entries c.args.self.now) c.args.owner l) (ap (behind g.T.Numbered.log_number c.args.upto) none ∙ sym none) ∙ update_back (entries c.args.self.now) c.args.owner)

pub returns-else-owner-len-clause-pruned : goal.returns-else-owner-len-clause-pruned
returns-else-owner-len-clause-pruned g c = λ rising.
    let past : length c.self.inside.chains.items ≤ c.args.owner = omega (arith, c.len.ensures, c.if-owner-len.false) in
    let none : entries c.args.self.now c.args.owner ≡ [] =
    ap (λ v. entries v c.args.owner) (sym c.self.view_is) ∙ entries_under c.self.inside.slab c.self.inside.chains.items c.args.owner ∙ ap (entries_of c.self.inside.slab) (get_or_past c.self.inside.chains.items c.args.owner [] past) in
    none ∙ ap (over g.T.Numbered.log_number c.args.upto) (sym none)
