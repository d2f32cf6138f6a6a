use Rattle.std.proofs.Common.{◌++◌, [], ◌∷◌, ◌∙◌, sym, ap, map}
use Rattle.std.specs.List.{range_with_len}
use Rattle.dsm_barrier.specs.BarrierStates.{opening_for}
use Rattle.dsm_barrier.specs.Barriers.{barrier_of}
use Rattle.dsm_barrier.proofs.Arriving.{map_more}
use Rattle.dsm_barrier.proofs.barrier.Barrier.openings.Goals as goal

pub loop-to-preserved : goal.loop-to-preserved
loop-to-preserved c =
    let opening = opening_for c.args.procs c.args.bar (barrier_of c.args.self.now) in
    c.in_ok-push.ensures.ok
    ∙ ap (λ all. all ++ c.in_ok-opening_for.field-0 ∷ []) c.loop-to.invariant
    ∙ ap (λ one. map opening (range_with_len 0 c.loop-to.to) ++ one ∷ [])
    (c.in_ok-opening_for.ensures ∙ ap (λ n. opening_for n c.args.bar (barrier_of c.args.self.now) c.loop-to.to) c.requires.whole.count)
    ∙ sym (map_more opening c.loop-to.to)
