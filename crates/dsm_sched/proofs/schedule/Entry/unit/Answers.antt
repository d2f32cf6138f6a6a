use Rattle.std.proofs.Common.{rules, arith, ◌≡◌, ◌<◌, ◌*◌, ◌%◌, ◌∙◌, ℕ, zero, suc, ap, ap₂, sym, slice_get}
use Rattle.dsm_sched.specs.Schedules.{round_of}
use Rattle.dsm_sched.proofs.Turns.{finish_at}
use Rattle.dsm_sched.proofs.schedule.Entry.unit.Goals as goal

some_units : (size rounds number : ℕ) → number < rounds * size → 0 < size
some_units zero rounds number h = absurd (omega arith)
some_units (suc size) rounds number h = omega arith

pub returns-in-Finish : goal.returns-in-Finish
returns-in-Finish c =
    let procs = c.args.procs in
    let number = c.args.number in
    let rounds = c.in-Finish.field-0 in
    let few : number < rounds * (procs * procs) = rw c.in-Finish.is at c.requires in
    let one : c.from.result ≡ c.args.procs = search rules in
    let other : c.from-in-Finish.result ≡ c.args.procs = search rules in
    let square : c.from.result * c.from-in-Finish.result ≡ procs * procs = ap₂ (λ a b. a * b) one other in
    rw c.in-Finish.is (finish_at procs rounds number c.round_unit.result (some_units (procs * procs) rounds number few) few
    (ap (λ n. slice_get (round_of procs) (number % n)) (sym square) ∙ c.round_unit.ensures))
