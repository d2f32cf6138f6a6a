use Rattle.std.proofs.Common.{◌≡◌, ◌+◌, ◌∙◌, List, [], ◌∷◌, ◌++◌, sym, ap, subst, map, length}
use Rattle.std.specs.List.{All}
use Rattle.std.proofs.lemmas.List.{length-append}
use Rattle.std.proofs.lemmas.List.Elements.{All-push}
use Rattle.dsm_base.specs.Family.{family_of}
use Rattle.dsm_barrier.specs.BarrierStates.{start_barrier}
use Rattle.dsm_barrier.specs.Barriers.{barrier_of, IsBarrierOf}
use Rattle.dsm_barrier.proofs.Arriving.{one_started}
use Rattle.dsm_barrier.proofs.manager.start_barriers.Goals as goal

pub loop-bar-preserved : goal.loop-bar-preserved
loop-bar-preserved c =
    let all = c.loop-bar.barriers.items in
    let barrier = c.in_ok-new.field-0 in
    let before = c.loop-bar.invariant in
    let pushed : c.push.new.self.items ≡ all ++ barrier ∷ [] = c.in_ok-push.ensures.items in
    record {
      count = ap length pushed ∙ length-append all (barrier ∷ []) ∙ ap (λ n. n + 1) before.count;
      states = λ bar. ap (λ items. family_of (λ b. start_barrier) (map barrier_of items) bar) pushed ∙ one_started all barrier c.in_ok-new.ensures.state before.states bar;
      each = subst (All (IsBarrierOf c.args.procs)) (sym pushed) (All-push (IsBarrierOf c.args.procs) all barrier before.each c.in_ok-new.ensures.whole);
    }
