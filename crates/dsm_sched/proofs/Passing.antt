-- What is so of every unit of a schedule.
use Rattle.std.specs.Prelude.{◌≡◌, ◌<◌, ◌≤◌, ◌==◌, ℕ, zero, suc, ◌+◌, Bool, true, false, nat_lt, List, [], ◌∷◌, ◌++◌, map, replicate, slice_get, IfSome}
use Rattle.std.specs.List.{flat_map, range_with_len, list_all, AllByRecursion}
use Rattle.std.specs.Cmp.{first_so, second_so}
use Rattle.std.proofs.Common.{refl, arith}
use Rattle.std.proofs.lemmas.Bool.Decides.{nat_tests}
use Rattle.dsm_base.specs.declared.act.Act.{Act}
use Rattle.dsm_sched.specs.declared.schedule.Entry.{Entry}
use Rattle.dsm_sched.specs.Entries.{is_count}
use Rattle.dsm_sched.specs.Schedules.{is_act, is_entry, others_of, deliver_to, turn_of, round_of, units_of_entry, units_by}
use Rattle.dsm_sched.specs.Built.{is_built, is_built_act}
use Rattle.dsm_sched.proofs.Others.{IsOther, are_others}

module _ (test : Act → Bool) where
  abbrev pub Pass : List Act → Type 0
  Pass acts = AllByRecursion (λ act. test act ≡ true) acts

  pass_append : (front back : List Act) → Pass front → Pass back → Pass (front ++ back)
  pass_append [] back all others = others
  pass_append (act ∷ front) back all others = (all.0, pass_append front back all.1 others)

  pass_replicate : (act : Act) (count : ℕ) → test act ≡ true → Pass (replicate count act)
  pass_replicate act zero is = tt
  pass_replicate act (suc count) is = (is, pass_replicate act count is)

  member : (acts : List Act) (index : ℕ) → Pass acts → IfSome (slice_get acts index) (λ act. test act ≡ true)
  member [] index all = tt
  member (act ∷ acts) zero all = all.0
  member (act ∷ acts) (suc index) all = member acts index all.1

  -- the units of a round pass
  pub record RoundPasses (procs : ℕ) : Type 0 where
    pub step : (proc : ℕ) → proc < procs → test (Act.Step record { 0 = proc }) ≡ true
    pub deliver : (from to : ℕ) → from < procs → to < procs → (from == to) ≡ false → test (deliver_to from to) ≡ true

  pass_deliveries : (procs proc : ℕ) → proc < procs → RoundPasses procs → (others : List ℕ) → AllByRecursion (IsOther proc 0 procs) others → Pass (map (deliver_to proc) others)
  pass_deliveries procs proc h passes [] all = tt
  pass_deliveries procs proc h passes (other ∷ others) all =
      (passes.deliver proc other h (omega (arith, all.0.high)) all.0.differs, pass_deliveries procs proc h passes others all.1)

  pass_turns : (procs from count : ℕ) → from + count ≤ procs → RoundPasses procs → Pass (flat_map (turn_of procs) (range_with_len from count))
  pass_turns procs from zero h passes = tt
  pass_turns procs from (suc count) h passes =
      pass_append (turn_of procs from) (flat_map (turn_of procs) (range_with_len (from + 1) count))
      (passes.step from (omega arith), pass_deliveries procs from (omega arith) passes (others_of procs from) (are_others from 0 procs))
      (pass_turns procs (from + 1) count (omega arith) passes)

  pass_rounds : (procs from count : ℕ) → RoundPasses procs → Pass (flat_map (λ _. round_of procs) (range_with_len from count))
  pass_rounds procs from zero passes = tt
  pass_rounds procs from (suc count) passes =
      pass_append (round_of procs) (flat_map (λ _. round_of procs) (range_with_len (from + 1) count)) (pass_turns procs 0 procs (omega arith) passes) (pass_rounds procs (from + 1) count passes)

  -- the units of an entry pass where its unit does
  abbrev pub entry_passes : Entry → Bool
  entry_passes (Entry.Unit act count) = test act
  entry_passes (Entry.Finish rounds) = true

  pass_entry : (procs : ℕ) (entry : Entry) → RoundPasses procs → entry_passes entry ≡ true → Pass (units_of_entry procs entry)
  pass_entry procs (Entry.Unit act count) passes is = pass_replicate act count is
  pass_entry procs (Entry.Finish rounds) passes is = pass_rounds procs 0 rounds passes

  pass_all : (procs : ℕ) (entries : List Entry) → RoundPasses procs → list_all entry_passes entries ≡ true → Pass (units_by procs entries)
  pass_all procs [] passes are = tt
  pass_all procs (entry ∷ entries) passes are =
      pass_append (units_of_entry procs entry) (units_by procs entries) (pass_entry procs entry passes (first_so _ _ are)) (pass_all procs entries passes (second_so (entry_passes entry) _ are))

  pub unit_passes : (procs : ℕ) (entries : List Entry) (index : ℕ) → RoundPasses procs → list_all entry_passes entries ≡ true → IfSome (slice_get (units_by procs entries) index) (λ act. test act ≡ true)
  unit_passes procs entries index passes are = member (units_by procs entries) index (pass_all procs entries passes are)

below : (a b : ℕ) → a < b → nat_lt a b ≡ true
below a b h = grind (arith, nat_tests)

round_within : (procs : ℕ) → RoundPasses (is_act procs) procs
round_within procs = record {
  step = λ proc h. below proc procs h;
  deliver = λ from to h k differs. rw (below from procs h, below to procs k, differs) refl;
}

entries_within : (procs : ℕ) (entries : List Entry) → list_all (is_entry procs) entries ≡ true → list_all (entry_passes (is_act procs)) entries ≡ true
entries_within procs [] are = refl
entries_within procs (Entry.Unit act count ∷ entries) are =
    let one : is_act procs act ≡ true = first_so (is_act procs act) (is_count count) (first_so _ _ are) in
    rw one (entries_within procs entries (second_so (is_entry procs (Entry.Unit act count)) _ are))
entries_within procs (Entry.Finish rounds ∷ entries) are = entries_within procs entries (second_so (is_entry procs (Entry.Finish rounds)) _ are)

-- every unit names processors of the schedule
pub unit_within : (procs : ℕ) (entries : List Entry) (index : ℕ) → list_all (is_entry procs) entries ≡ true → IfSome (slice_get (units_by procs entries) index) (λ act. is_act procs act ≡ true)
unit_within procs entries index are = unit_passes (is_act procs) procs entries index (round_within procs) (entries_within procs entries are)

round_built : (procs : ℕ) → RoundPasses is_built_act procs
round_built procs = record { step = λ proc h. refl; deliver = λ from to h k differs. refl }

entries_built : (entries : List Entry) → list_all is_built entries ≡ true → list_all (entry_passes is_built_act) entries ≡ true
entries_built [] are = refl
entries_built (Entry.Unit act count ∷ entries) are =
    let one : is_built_act act ≡ true = first_so (is_built_act act) _ are in
    rw one (entries_built entries (second_so (is_built_act act) _ are))
entries_built (Entry.Finish rounds ∷ entries) are = entries_built entries are

-- every unit can be run where every entry can
pub unit_built : (procs : ℕ) (entries : List Entry) (index : ℕ) → list_all is_built entries ≡ true → IfSome (slice_get (units_by procs entries) index) (λ act. is_built_act act ≡ true)
unit_built procs entries index are = unit_passes is_built_act procs entries index (round_built procs) (entries_built entries are)
