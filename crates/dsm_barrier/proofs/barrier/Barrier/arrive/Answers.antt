use Rattle.std.proofs.Common.{◌≡◌, ◌<◌, IfOk, OnOk, length, subst, arith}
use Rattle.dsm_barrier.specs.BarrierStates.{opened_where_due, openings_due}
use Rattle.dsm_barrier.specs.Barriers.{barrier_of}
use Rattle.dsm_barrier.proofs.Arriving.{came}
use Rattle.dsm_barrier.proofs.barrier.Barrier.arrive.Goals as goal

pub returns-clause-openings : goal.returns-clause-openings
returns-clause-openings c =
    let within : c.args.from.0 < length c.args.self.now.waiting.items = omega (arith, c.requires.processor, c.requires.whole.count) in
    subst (λ state. IfOk c.open_where_due.result (λ openings. openings ≡ openings_due c.args.procs c.args.bar state))
    (came c.args.self.now.opened c.args.self.now.waiting.items c.index.result c.args.from.0 c.index_mut.result.now c.push.new.self c.args.arrived c.index_mut.ensures.value c.index.ensures within
    c.in_ok-push.ensures.ok)
    c.open_where_due.ensures.openings

pub returns-clause-state : goal.returns-clause-state
returns-clause-state c =
    let within : c.args.from.0 < length c.args.self.now.waiting.items = omega (arith, c.requires.processor, c.requires.whole.count) in
    subst (λ state. OnOk c.open_where_due.result (barrier_of c.open_where_due.new.self ≡ opened_where_due c.args.procs state))
    (came c.args.self.now.opened c.args.self.now.waiting.items c.index.result c.args.from.0 c.index_mut.result.now c.push.new.self c.args.arrived c.index_mut.ensures.value c.index.ensures within
    c.in_ok-push.ensures.ok)
    c.open_where_due.ensures.state
