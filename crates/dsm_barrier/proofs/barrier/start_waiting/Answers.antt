use Rattle.std.proofs.Common.{◌≡◌, ◌+◌, ◌∙◌, List, [], ◌∷◌, ◌++◌, sym, ap, subst, length}
use Rattle.std.specs.List.{All}
use Rattle.std.proofs.lemmas.List.{length-append}
use Rattle.std.proofs.lemmas.List.Elements.{All-nil, All-push}
use Rattle.dsm_base.specs.Family.{family_of}
use Rattle.dsm_base.proofs.Families.{family_of_push}
use Rattle.dsm_barrier.specs.Barriers.{HasLines}
use Rattle.dsm_barrier.proofs.barrier.start_waiting.Goals as goal

pub loop-proc-preserved : goal.loop-proc-preserved
loop-proc-preserved c =
    let all = c.loop-proc.waiting.items in
    let before = c.loop-proc.invariant in
    let pushed : c.push.new.self.items ≡ all ++ c.new-none.result ∷ [] = c.in_ok-push.ensures.items in
    record {
      count = ap length pushed ∙ length-append all (c.new-none.result ∷ []) ∙ ap (λ n. n + 1) before.count;
      none = λ p. ap (λ items. family_of (λ q. []) items p) pushed ∙ family_of_push (λ q. []) all c.new-none.result c.new-none.ensures before.none p;
      lines = subst (All (All HasLines)) (sym pushed) (All-push (All HasLines) all c.new-none.result before.lines (subst (All HasLines) (sym c.new-none.ensures) (All-nil HasLines)));
    }
