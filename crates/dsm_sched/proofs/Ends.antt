-- The ends of entries, and the units that stand before them.
use Rattle.std.specs.Prelude.{◌≡◌, ◌<◌, ◌≤◌, ℕ, zero, suc, ◌+◌, ◌-◌, List, length, take, sum_by, Some, None, slice_get}
use Rattle.std.specs.List.{flat_map}
use Rattle.std.specs.List.Sorted.{IsNonDecreasing}
use Rattle.std.proofs.Common.{◌∙◌, ap, sym, refl, arith, get_or}
use Rattle.std.proofs.lemmas.Grind.{common_steps}
use Rattle.std.proofs.lemmas.List.FromFn.{get_or-map-range_with_len, length-map-range_with_len}
use Rattle.std.proofs.lemmas.List.Concat.{length-flat_map, get_or-flat_map}
use Rattle.std.proofs.lemmas.List.Sums.{sum_by_more}
use Rattle.std.proofs.lemmas.List.Sorted.{IsNonDecreasingBy-from_default}
use Rattle.std.proofs.lemmas.Option.{slice_get-get_or, slice_get_past}
use Rattle.dsm_base.specs.declared.act.Act.{Act}
use Rattle.dsm_sched.specs.declared.schedule.Entry.{Entry}
use Rattle.dsm_sched.specs.Schedules.{units_of_entry, unit_count, units_by, units_before, ends_of}
use Rattle.dsm_sched.specs.Places.{IsPlace, start_of}
use Rattle.dsm_sched.proofs.Turns.{length-units}

abbrev pub no_entry : Entry
no_entry = Entry.Finish 0

take_all : (entries : List Entry) → take (length entries) entries ≡ entries
take_all entries = grind (arith, common_steps)

pub same_entry : (a b : Entry) → Some a ≡ Some b → a ≡ b
same_entry a b e = cc

same_unit : (a b : Act) → Some a ≡ Some b → a ≡ b
same_unit a b e = cc

module _ (procs : ℕ) (entries : List Entry) where
  pub length-ends : length (ends_of procs entries) ≡ length entries
  length-ends = length-map-range_with_len (λ k. units_before procs entries (k + 1)) 0 (length entries)

  pub get_or-ends : (k : ℕ) → k < length entries → get_or (ends_of procs entries) k 0 ≡ units_before procs entries (k + 1)
  get_or-ends k h = get_or-map-range_with_len (λ k. units_before procs entries (k + 1)) 0 (length entries) k k 0 h (omega arith)

  -- one entry more has its units more
  pub units_before_more : (k : ℕ) → k < length entries → units_before procs entries (k + 1) ≡ units_before procs entries k + unit_count procs (get_or entries k no_entry)
  units_before_more k h = sum_by_more (unit_count procs) entries k no_entry h

  grows_by : (d k : ℕ) → k + d ≤ length entries → units_before procs entries k ≤ units_before procs entries (k + d)
  grows_by zero k h = let same : k + zero ≡ k = omega arith in rw same (omega arith)
  grows_by (suc d) k h =
      let next : k + suc d ≡ k + d + 1 = omega arith in
      let less : units_before procs entries k ≤ units_before procs entries (k + d) = grows_by d k (omega arith) in
      rw next (omega (arith, less, units_before_more (k + d) (omega arith)))

  grows : (i j : ℕ) → i ≤ j → j ≤ length entries → units_before procs entries i ≤ units_before procs entries j
  grows i j h k =
      let to : i + (j - i) ≡ j = omega arith in
      let by : units_before procs entries i ≤ units_before procs entries (i + (j - i)) = grows_by (j - i) i (omega arith) in
      rw to at by

  pub ends_grow : IsNonDecreasing (ends_of procs entries)
  ends_grow = IsNonDecreasingBy-from_default (λ x. x) (ends_of procs entries) 0 (λ i j h k.
      let few : j < length entries = omega (arith, length-ends, k) in
      let low : get_or (ends_of procs entries) i 0 ≡ units_before procs entries (i + 1) = get_or-ends i (omega (arith, few, h)) in
      let high : get_or (ends_of procs entries) j 0 ≡ units_before procs entries (j + 1) = get_or-ends j few in
      omega (arith, low, high, grows (i + 1) (j + 1) (omega arith) (omega arith)))

  -- how many units come before an entry
  pub start_of-ends : (place : ℕ) → place ≤ length entries → start_of (ends_of procs entries) place ≡ units_before procs entries place
  start_of-ends zero h = refl
  start_of-ends (suc place) h =
      let next : place + 1 ≡ suc place = omega arith in
      get_or-ends place (omega arith) ∙ ap (units_before procs entries) next

  length-front : (k : ℕ) → length (flat_map (units_of_entry procs) (take k entries)) ≡ units_before procs entries k
  length-front k =
      let same : (λ (entry : Entry). length (units_of_entry procs entry)) ≡ unit_count procs = λ i entry. length-units procs entry i in
      length-flat_map (units_of_entry procs) (take k entries) ∙ ap (λ f. sum_by f (take k entries)) same

  -- all units, by their number
  pub length-all : length (units_by procs entries) ≡ units_before procs entries (length entries)
  length-all = ap (λ es. length (flat_map (units_of_entry procs) es)) (sym (take_all entries)) ∙ length-front (length entries)

  -- the end of the last entry is how many units there are
  pub last_end : start_of (ends_of procs entries) (length (ends_of procs entries)) ≡ length (units_by procs entries)
  last_end = ap (start_of (ends_of procs entries)) length-ends ∙ start_of-ends (length entries) (omega arith) ∙ sym length-all

  -- and they are those of all entries
  pub length-units_by : length (units_by procs entries) ≡ sum_by (unit_count procs) entries
  length-units_by = length-all ∙ ap (sum_by (unit_count procs)) (take_all entries)

  module _ (index place : ℕ) (found : IsPlace (ends_of procs entries) index place) where
    -- the unit is in this entry
    pub record IsIn : Type 0 where
      pub starts : start_of (ends_of procs entries) place ≤ index
      pub within : index - start_of (ends_of procs entries) place < unit_count procs (get_or entries place no_entry)

    start_before : (k : ℕ) → place ≡ k → start_of (ends_of procs entries) k ≤ index
    start_before zero is = omega arith
    start_before (suc k) is = found.passed k (omega (arith, is))

    pub is_in : place < length entries → IsIn
    is_in h =
        let starts : start_of (ends_of procs entries) place ≤ index = start_before place refl in
        let start : start_of (ends_of procs entries) place ≡ units_before procs entries place = start_of-ends place (omega arith) in
        let ahead : index < get_or (ends_of procs entries) place 0 = found.ahead place (omega arith) (omega (arith, length-ends, h)) in
        record {
          starts = starts;
          within = omega (arith, starts, start, ahead, get_or-ends place h, units_before_more place h);
        }

    -- the unit of a schedule is one of this entry
    pub unit_in : (act : Act) → place < length entries
        → slice_get (units_of_entry procs (get_or entries place no_entry)) (index - start_of (ends_of procs entries) place) ≡ Some act → slice_get (units_by procs entries) index ≡ Some act
    unit_in act h is =
        let entry = get_or entries place no_entry in
        let j = index - start_of (ends_of procs entries) place in
        let all = units_by procs entries in
        let here = is_in h in
        let start : start_of (ends_of procs entries) place ≡ units_before procs entries place = start_of-ends place (omega arith) in
        let front : length (flat_map (units_of_entry procs) (take place entries)) ≡ units_before procs entries place = length-front place in
        let at : index ≡ length (flat_map (units_of_entry procs) (take place entries)) + j = omega (arith, here.starts, start, front) in
        let some : j < length (units_of_entry procs entry) = rw length-units here.within in
        let total : length all ≡ units_before procs entries (length entries) = length-all in
        let more : units_before procs entries (place + 1) ≤ units_before procs entries (length entries) = grows (place + 1) (length entries) (omega arith) (omega arith) in
        let few : index < length all = omega (arith, total, more, units_before_more place h, here.starts, start, here.within) in
        let there : get_or (units_of_entry procs entry) j act ≡ act = same_unit _ _ (sym (slice_get-get_or (units_of_entry procs entry) j act some) ∙ is) in
        slice_get-get_or all index act few ∙ ap Some (ap (λ n. get_or all n act) at ∙ get_or-flat_map (units_of_entry procs) entries place j no_entry act h some ∙ there)

    -- behind the last entry there is no unit
    pub no_unit : place ≡ length entries → slice_get (units_by procs entries) index ≡ None
    no_unit is =
        let total : length (units_by procs entries) ≡ units_before procs entries (length entries) = length-all in
        let start : start_of (ends_of procs entries) place ≡ units_before procs entries place = start_of-ends place (omega arith) in
        let starts : start_of (ends_of procs entries) place ≤ index = start_before place refl in
        let at : units_before procs entries place ≡ units_before procs entries (length entries) = ap (units_before procs entries) is in
        slice_get_past (units_by procs entries) index (omega (arith, total, start, starts, at))
