-- Bounds on the number of picks.
use Rattle.std.specs.Prelude.{◌≡◌, ◌<◌, ◌≤◌, ℕ, ◌+◌, ◌*◌, ◌^◌, true, nat_lt, List, [], ◌∷◌, length, sum_by}
use Rattle.std.specs.List.{list_all}
use Rattle.std.specs.Cmp.{first_so, second_so}
use Rattle.std.proofs.Common.{arith}
use Rattle.std.proofs.Math.Nat.{mul-le-mul}
use Rattle.std.proofs.lemmas.Grind.{common_steps}
use Rattle.std.proofs.lemmas.List.Sums.{sum_by-cons}
use Rattle.dsm_base.specs.Setups.{is_proc_count}
use Rattle.dsm_sched.specs.declared.picks.PickEntry.{PickEntry}
use Rattle.dsm_sched.specs.declared.schedule.Entry.{Entry}
use Rattle.dsm_sched.specs.Schedules.{is_act, is_entry as is_schedule_entry, unit_count}
use Rattle.dsm_sched.specs.Entries.{is_count}
use Rattle.dsm_sched.specs.Picks.{is_entry, entry_units}

most : (count : ℕ) → is_count count ≡ true → count ≤ 500000
most count is = grind (arith, common_steps)

few_units : (procs : ℕ) (entry : PickEntry) → procs ≤ 16 → is_entry procs entry ≡ true → entry_units procs entry ≤ 8000000
few_units procs (PickEntry.Pick proc count) few is = omega (arith, most count (second_so (nat_lt proc.0 procs) (is_count count) is))
few_units procs (PickEntry.All rounds) few is = mul-le-mul (most rounds is) few

-- an entry has at most 8,000,000 picks
few_picks : (procs : ℕ) (entries : List PickEntry) → procs ≤ 16 → list_all (is_entry procs) entries ≡ true → sum_by (entry_units procs) entries ≤ 8000000 * length entries
few_picks procs [] few are = omega arith
few_picks procs (entry ∷ entries) few are =
    omega (arith, sum_by-cons (entry_units procs) entry entries, few_units procs entry few (first_so _ _ are), few_picks procs entries few (second_so (is_entry procs entry) _ are))

at_most_16 : (procs : ℕ) → is_proc_count procs ≡ true → procs ≤ 16
at_most_16 procs is = grind (arith, common_steps)

few_schedule_units : (procs : ℕ) (entry : Entry) → procs ≤ 16 → is_schedule_entry procs entry ≡ true → unit_count procs entry ≤ 128000000
few_schedule_units procs (Entry.Unit act count) few is = omega (arith, most count (second_so (is_act procs act) (is_count count) is))
few_schedule_units procs (Entry.Finish rounds) few is =
    let square : procs * procs ≤ 16 * 16 = mul-le-mul few few in
    let all : rounds * (procs * procs) ≤ 500000 * (16 * 16) = mul-le-mul (most rounds is) square in
    omega (arith, all)

-- an entry of a schedule has at most 128,000,000 units
few_in_schedule : (procs : ℕ) (entries : List Entry) → procs ≤ 16 → list_all (is_schedule_entry procs) entries ≡ true → sum_by (unit_count procs) entries ≤ 128000000 * length entries
few_in_schedule procs [] few are = omega arith
few_in_schedule procs (entry ∷ entries) few are =
    omega (arith, sum_by-cons (unit_count procs) entry entries, few_schedule_units procs entry few (first_so _ _ are), few_in_schedule procs entries few (second_so (is_schedule_entry procs entry) _ are))

-- the units of so many entries can be counted
pub units_fit : (procs bytes : ℕ) (entries : List Entry) → is_proc_count procs ≡ true → length entries ≤ bytes + 1 → bytes ≤ 4194304 → list_all (is_schedule_entry procs) entries ≡ true →
    sum_by (unit_count procs) entries < 2 ^ 64
units_fit procs bytes entries few shorter short are = omega (arith, few_in_schedule procs entries (at_most_16 procs few) are)

-- the picks of so many entries can be counted
pub fits : (procs bytes : ℕ) (entries : List PickEntry) → is_proc_count procs ≡ true → length entries ≤ bytes + 1 → bytes ≤ 4194304 → list_all (is_entry procs) entries ≡ true →
    sum_by (entry_units procs) entries < 2 ^ 64
fits procs bytes entries few shorter short are = omega (arith, few_picks procs entries (at_most_16 procs few) are)
