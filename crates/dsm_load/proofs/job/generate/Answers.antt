use Rattle.std.proofs.Common.{◌≡◌, sym, subst, ◌∙◌}
use Rattle.std.specs.Prelude.{IsTrue}
use Rattle.std.proofs.lemmas.Result.{IfOk-weaker}
use Rattle.dsm_sched.specs.Schedules.{is_schedule}
use Rattle.dsm_load.specs.Jobs.{job_of}
use Rattle.dsm_load.proofs.Drawing.{state-none, job-made}
use Rattle.dsm_load.proofs.Scheduling.{job-schedule, units-of-job}
use Rattle.dsm_load.proofs.job.generate.Goals as goal
use Rattle.dsm_load.proofs.job.generate.Goals.{In_ok-push-3}

all_entries : (c : In_ok-push-3) → c.push-3.new.self ≡ job_of c.args.seed
all_entries c =
    let seed = c.args.seed in
    let one = c.in_ok-push_drawn.ensures seed 0 (sym (state-none seed)) in
    let two = c.in_ok-push_drawn-2.ensures seed 20000 one.state in
    let three = c.in_ok-push_drawn-3.ensures seed 20050 two.state in
    job-made seed _ _ _ _ _ _ _ _ _ _ c.new-entries.ensures one c.in_ok-push.ensures.ok two c.in_ok-push-2.ensures.ok three c.in_ok-push-3.ensures.ok

-- src/job.rt:57:5
pub new-requires : goal.new-requires
new-requires c =
    let made = all_entries (goal.at.new-requires c).In_ok-push-3 in
    subst (λ entries. IsTrue (is_schedule 4 entries)) (sym made) (job-schedule c.args.seed)

-- src/job.rt:43:1
pub returns-clause-entries : goal.returns-clause-entries
returns-clause-entries c =
    let made = all_entries (goal.at.returns-clause-entries c).In_ok-push-3 in
    IfOk-weaker c.new.result _ _ (λ schedule is. is ∙ made) c.new.ensures.entries

-- src/job.rt:43:1
pub returns-clause-units : goal.returns-clause-units
returns-clause-units c =
    let made = all_entries (goal.at.returns-clause-units c).In_ok-push-3 in
    units-of-job c.new.result c.args.seed c.new.ensures.procs (IfOk-weaker c.new.result _ _ (λ schedule is. is ∙ made) c.new.ensures.entries)
