use Rattle.std.proofs.Common.{ℕ, rules, arith, ◌≡◌, ◌≤◌, ◌∙◌, ap, length, sum_by, true, nat_le}
use Rattle.std.specs.Cmp.{second_so}
use Rattle.std.proofs.lemmas.Bool.Decides.{nat_tests}
use Rattle.dsm_sched.specs.Places.{start_of}
use Rattle.dsm_sched.specs.Schedules.{unit_count, ends_of}
use Rattle.dsm_sched.proofs.Ends.{last_end, length-units_by}
use Rattle.dsm_sched.proofs.schedule.Schedule.units.Goals as goal

at_most : (total : ℕ) → nat_le total 500000 ≡ true → total ≤ 500000
at_most total is = grind (arith, nat_tests)

pub returns-clause-count : goal.returns-clause-count
returns-clause-count c =
    let schedule = c.args.self.now in
    let is : c.as_slice-ends.result.now ≡ ends_of schedule.procs schedule.entries = c.as_slice-ends.ensures ∙ schedule.are_ends in
    let count : c.start_of.result ≡ start_of c.as_slice-ends.result.now (length c.as_slice-ends.result.now) = search rules in
    count ∙ ap (λ ends. start_of ends (length ends)) is ∙ last_end schedule.procs schedule.entries

pub returns-clause-few : goal.returns-clause-few
returns-clause-few c =
    let schedule = c.args.self.now in
    let is : c.as_slice-ends.result.now ≡ ends_of schedule.procs schedule.entries = c.as_slice-ends.ensures ∙ schedule.are_ends in
    let count : c.start_of.result ≡ start_of c.as_slice-ends.result.now (length c.as_slice-ends.result.now) = search rules in
    let all = count ∙ ap (λ ends. start_of ends (length ends)) is ∙ last_end schedule.procs schedule.entries ∙ length-units_by schedule.procs schedule.entries in
    let few : sum_by (unit_count schedule.procs) schedule.entries ≤ 500000 = at_most _ (second_so _ _ schedule.kept) in
    rw all few
