use Rattle.std.proofs.Common.{◌==◌, ◌∙◌, sym, ap}
use Rattle.dsm_barrier.specs.BarrierStates.{arrivals_of}
use Rattle.dsm_barrier.proofs.Arriving.{barrier_found}
use Rattle.dsm_barrier.proofs.manager.Manager.awaits.Goals as goal

pub returns : goal.returns
returns c =
    c.awaits.ensures
    ∙ ap (λ state. c.args.epoch == arrivals_of state c.args.from.0)
    (sym (barrier_found c.args.self.now.barriers.items c.index.result c.args.bar.0 c.index-2.result.now c.index-2.ensures c.index.ensures c.requires.barrier))
