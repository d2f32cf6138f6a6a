use Rattle.dsm_sched.proofs.schedule.form.entry_in.Goals as goal

pub returns-in-Finish : goal.returns-in-Finish
returns-in-Finish c = rw c.in-Finish.is (c.finish_in.ensures c.args.procs)
