use Rattle.std.proofs.Common.{◌≡◌, ◌<◌, ◌∙◌, true, if◌then◌else◌, [], set, IfOk, OnOk, length, refl, sym, ap, subst, arith}
use Rattle.dsm_base.specs.Family.{update, family_of}
use Rattle.dsm_base.proofs.Families.{family_of_set}
use Rattle.dsm_barrier.specs.BarrierStates.{counts, arrived_in, with_arrival, opened_where_due, openings_due}
use Rattle.dsm_barrier.specs.Managers.{barriers_of, last_of}
use Rattle.dsm_barrier.proofs.Arriving.{on_ok, barrier_put, arrival_put, it_counts, chosen}
use Rattle.dsm_barrier.proofs.manager.Manager.arrive.Goals as goal

pub returns-clause-openings : goal.returns-clause-openings
returns-clause-openings c =
    let it : counts (barriers_of c.args.self.now c.args.bar.0) (last_of c.args.self.now c.args.from.0) c.args.from.0 c.args.turn c.args.epoch ≡ true =
    it_counts c.args.self.now.barriers.items c.args.self.now.last c.index-else-turn-last.result c.args.bar.0 c.args.from.0 c.args.turn c.args.epoch _ c.index-else-turn-last-2.result.now c.awaits.result
    c.index-else-turn-last-2.ensures c.index-else-turn-last.ensures c.requires.barrier c.awaits.ensures (grind (arith, c.if-not-awaits.false)) (rw (c.as_slice.ensures, c.index.ensures) refl) c.if-turn-last.false in
    subst
    (λ b. IfOk c.arrive.result (λ openings. openings ≡ (if b
    then openings_due c.args.self.now.procs c.args.bar (with_arrival (barriers_of c.args.self.now c.args.bar.0) c.args.from.0 (arrived_in c.args.turn c.args.lines.now))
    else [])))
    (sym it)
    (subst (λ state. IfOk c.arrive.result (λ openings. openings ≡ openings_due c.args.self.now.procs c.args.bar state))
    (arrival_put c.args.self.now.barriers.items c.index-3.result c.args.bar.0 c.args.from.0 c.args.turn c.index_mut.result.now c.in_ok-copy.field-0 c.args.lines.now c.index_mut.ensures.value c.index-3.ensures c.requires.barrier c.in_ok-copy.ensures)
    c.arrive.ensures.openings)

pub returns-clause-barriers : goal.returns-clause-barriers
returns-clause-barriers c =
    let it : counts (barriers_of c.args.self.now c.args.bar.0) (last_of c.args.self.now c.args.from.0) c.args.from.0 c.args.turn c.args.epoch ≡ true =
    it_counts c.args.self.now.barriers.items c.args.self.now.last c.index-else-turn-last.result c.args.bar.0 c.args.from.0 c.args.turn c.args.epoch _ c.index-else-turn-last-2.result.now c.awaits.result
    c.index-else-turn-last-2.ensures c.index-else-turn-last.ensures c.requires.barrier c.awaits.ensures (grind (arith, c.if-not-awaits.false)) (rw (c.as_slice.ensures, c.index.ensures) refl) c.if-turn-last.false in
    on_ok c.arrive.result c.arrive.ensures.state
    (λ state. barrier_put c.args.self.now.barriers.items c.index-3.result c.args.bar.0 c.arrive.new.self c.index-3.ensures c.requires.barrier
    ∙ ap (update (barriers_of c.args.self.now) c.args.bar.0)
    (state ∙ ap (opened_where_due c.args.self.now.procs) (arrival_put c.args.self.now.barriers.items c.index-3.result c.args.bar.0 c.args.from.0 c.args.turn c.index_mut.result.now c.in_ok-copy.field-0 c.args.lines.now c.index_mut.ensures.value c.index-3.ensures c.requires.barrier c.in_ok-copy.ensures))
    ∙ chosen _ _ (barriers_of c.args.self.now) it)

pub returns-clause-last : goal.returns-clause-last
returns-clause-last c =
    let it : counts (barriers_of c.args.self.now c.args.bar.0) (last_of c.args.self.now c.args.from.0) c.args.from.0 c.args.turn c.args.epoch ≡ true =
    it_counts c.args.self.now.barriers.items c.args.self.now.last c.index-else-turn-last.result c.args.bar.0 c.args.from.0 c.args.turn c.args.epoch _ c.index-else-turn-last-2.result.now c.awaits.result
    c.index-else-turn-last-2.ensures c.index-else-turn-last.ensures c.requires.barrier c.awaits.ensures (grind (arith, c.if-not-awaits.false)) (rw (c.as_slice.ensures, c.index.ensures) refl) c.if-turn-last.false in
    let within : c.args.from.0 < length c.args.self.now.last = omega (arith, c.requires.processor, c.args.self.now.kept.count) in
    on_ok c.arrive.result c.arrive.ensures.state
    (λ state. ap (family_of (λ p. 0)) (c.set.ensures ∙ ap (λ n. set c.args.self.now.last n c.args.turn) c.index-2.ensures)
    ∙ family_of_set (λ p. 0) c.args.self.now.last c.args.from.0 c.args.turn within
    ∙ chosen _ _ (last_of c.args.self.now) it)
