use Rattle.std.proofs.Common.{◌∙◌, ap, sym, ℕ, ◌∷◌, ◌++◌, [], append_assoc, arith}
use Rattle.std.proofs.lemmas.List.FromFn.{map-range_with_len_more}
use Rattle.dsm_base.specs.declared.names.Proc.{Proc}
use Rattle.dsm_sched.specs.Picks.{round_of}
use Rattle.dsm_sched.proofs.picks.unrolled.push_round.Goals as goal

proc_of : ℕ → Proc
proc_of p = record { 0 = p }

pub loop-p-preserved : goal.loop-p-preserved
unfolding proc_of
loop-p-preserved c =
    let p = c.loop-p.p in
    c.in_ok-push.ensures.ok ∙ ap (λ all. all ++ proc_of p ∷ []) c.loop-p.invariant ∙ append_assoc c.args.all.now (round_of p) (proc_of p ∷ [])
    ∙ ap (λ round. c.args.all.now ++ round) (sym (map-range_with_len_more proc_of 0 p p (omega arith)))
