use Rattle.std.proofs.Common.{◌∙◌, ap, sym, ◌++◌, append_assoc}
use Rattle.dsm_sched.specs.Picks.{round_of, rounds_of}
use Rattle.dsm_sched.proofs.Rounds.{one_round_more}
use Rattle.dsm_sched.proofs.picks.PickEntry.unroll.Goals as goal

pub rounds-preserved : goal.rounds-preserved
rounds-preserved c =
    let procs = c.args.procs in
    c.in_ok-push_round-in-All.ensures ∙ ap (λ all. all ++ round_of procs) c.rounds.invariant ∙ append_assoc c.args.all.now (rounds_of procs c.rounds.counter) (round_of procs)
    ∙ ap (λ rounds. c.args.all.now ++ rounds) (sym (one_round_more procs c.rounds.counter))
