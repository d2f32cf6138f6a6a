-- The entries of a job are a schedule.
use Rattle.std.proofs.Common.{◌≡◌, ℕ, zero, suc, ◌+◌, ◌/◌, ◌%◌, ◌≢◌, List, ◌∙◌, ap₂, refl, inl, inr, arith}
use Rattle.std.specs.Prelude.{Bool, true, false, ◌==◌, nat_lt, if◌then◌else◌, IsTrue, length, map, sum_by, Result, Ok, Err, IfOk}
use Rattle.std.specs.List.{list_all, range_with_len}
use Rattle.std.proofs.lemmas.Bool.{lt-ltb}
use Rattle.std.proofs.lemmas.Bool.Decides.{eqb_tells}
use Rattle.std.proofs.lemmas.List.Folds.{list_all-append}
use Rattle.std.proofs.lemmas.List.Sums.{sum_by-append, sum_by-cons}
use Rattle.dsm_base.specs.declared.act.Act.{Act}
use Rattle.dsm_base.specs.declared.names.Proc.{Proc}
use Rattle.dsm_sched.specs.declared.schedule.Entry.{Entry}
use Rattle.dsm_sched.specs.declared.schedule.Schedule.{Schedule}
use Rattle.dsm_sched.specs.ScheduleTexts.{units_of}
use Rattle.dsm_sched.proofs.Ends.{length-units_by}
use Rattle.dsm_sched.specs.Schedules.{is_act, is_entry, is_schedule, unit_count}
use Rattle.dsm_load.specs.Draws.{drawn}
use Rattle.dsm_load.specs.Jobs.{act_of, once, first_of, second_of, drawn_entries, job_of}

-- different numbers don't pass the test
unequal : (a b : ℕ) → a ≢ b → (a == b) ≡ false
unequal a b differ = elim (eqb_tells a b) [ inl same ↦ absurd (differ same.1) | inr apart ↦ apart.0 ]

-- whichever unit is chosen, its processors are of four, and those of a delivery two different ones
any_act : (step deliver image : Bool) (first second : Proc) → nat_lt first.0 4 ≡ true → nat_lt second.0 4 ≡ true → (first.0 == second.0) ≡ false
    → is_act 4 (if step then Act.Step first else if deliver then Act.Deliver first second else if image then Act.Ckpt first else Act.Block first) ≡ true
any_act true deliver image first second is_first is_second apart = is_first
any_act false true image first second is_first is_second apart = rw (is_first, is_second, apart) refl
any_act false false true first second is_first is_second apart = is_first
any_act false false false first second is_first is_second apart = is_first

pub act-of-four : (number : ℕ) → is_act 4 (act_of number) ≡ true
act-of-four number =
    any_act (nat_lt (number % 16) 8) (nat_lt (number % 16) 14) (number % 16 == 14) (first_of number) (second_of number)
    (lt-ltb (number / 16 % 4) 4 (omega arith)) (lt-ltb ((number / 16 % 4 + 1 + number / 64 % 3) % 4) 4 (omega arith))
    (unequal (number / 16 % 4) ((number / 16 % 4 + 1 + number / 64 % 3) % 4) (λ same. omega (arith, same)))

-- drawn entries are in their ranges
pub drawn-are-entries : (seed from count : ℕ) → list_all (is_entry 4) (map (λ k. once (act_of (drawn seed k))) (range_with_len from count)) ≡ true
drawn-are-entries seed from zero = refl
drawn-are-entries seed from (suc count) =
    let first = act-of-four (drawn seed from) in
    let rest = drawn-are-entries seed (from + 1) count in
    rw (first, rest) refl

pub drawn_entries-are : (seed from count : ℕ) → list_all (is_entry 4) (drawn_entries seed from count) ≡ true
unfolding drawn_entries
drawn_entries-are seed from count = drawn-are-entries seed from count

-- each is one unit
pub drawn-units : (seed from count : ℕ) → sum_by (unit_count 4) (map (λ k. once (act_of (drawn seed k))) (range_with_len from count)) ≡ count
drawn-units seed from zero = refl
drawn-units seed from (suc count) =
    let rest : List Entry = map (λ k. once (act_of (drawn seed k))) (range_with_len (from + 1) count) in
    omega (arith, sum_by-cons (unit_count 4) (once (act_of (drawn seed from))) rest, drawn-units seed (from + 1) count)

pub drawn_entries-units : (seed from count : ℕ) → sum_by (unit_count 4) (drawn_entries seed from count) ≡ count
unfolding drawn_entries
drawn_entries-units seed from count = drawn-units seed from count

-- so all entries are in their ranges
pub job-entries : (seed : ℕ) → list_all (is_entry 4) (job_of seed) ≡ true
job-entries seed =
    let four : nat_lt (seed % 4) 4 ≡ true = lt-ltb (seed % 4) 4 (omega arith) in
    let first = drawn_entries-are seed 0 20000 in
    let second = drawn_entries-are seed 20000 50 in
    let third = drawn_entries-are seed 20050 19950 in
    simp (list_all-append, first, second, third, four)

-- and there are 200,002 units
pub job-units : (seed : ℕ) → sum_by (unit_count 4) (job_of seed) ≡ 200002
job-units seed =
    let first = drawn_entries-units seed 0 20000 in
    let second = drawn_entries-units seed 20000 50 in
    let third = drawn_entries-units seed 20050 19950 in
    simp (sum_by-append, sum_by-cons, first, second, third)

-- so they are a schedule of four processors
pub job-schedule : (seed : ℕ) → IsTrue (is_schedule 4 (job_of seed))
job-schedule seed =
    let entries = job-entries seed in
    let units = job-units seed in
    rw (entries, units) refl

-- whatever has these entries has so many units
pub units-of-job : {E : Type 0} (made : Result Schedule E) (seed : ℕ) → IfOk made (λ schedule. schedule.procs ≡ 4)
    → IfOk made (λ schedule. schedule.entries ≡ job_of seed) → IfOk made (λ schedule. length (units_of schedule) ≡ 200002)
units-of-job (Ok schedule) seed procs entries =
    length-units_by schedule.procs schedule.entries ∙ ap₂ (λ n all. sum_by (unit_count n) all) procs entries ∙ job-units seed
units-of-job (Err fault) seed procs entries = tt
