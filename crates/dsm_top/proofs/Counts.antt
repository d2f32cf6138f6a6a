-- How many picks there are.
use Rattle.std.specs.Prelude.{◌≡◌, ◌≤◌, ◌*◌, ◌&&◌, ℕ, zero, suc, true, List, [], ◌∷◌, length, sum_by, nat_le, IsTrue}
use Rattle.std.specs.List.{list_all}
use Rattle.std.specs.Cmp.{second_so}
use Rattle.std.proofs.Common.{refl, ◌∙◌, arith}
use Rattle.std.proofs.lemmas.List.{length-append, length-replicate}
use Rattle.std.proofs.lemmas.List.FromFn.{length-map-range_with_len}
use Rattle.std.proofs.lemmas.List.Sums.{sum_by-cons}
use Rattle.std.proofs.lemmas.Grind.{common_steps}
use Rattle.dsm_base.specs.Setups.{is_proc_count}
use Rattle.dsm_sched.specs.declared.picks.PickEntry.{PickEntry}
use Rattle.dsm_sched.specs.Picks.{is_entry, entry_units, round_of, rounds_of, picks_of, picked_by, is_picks}

round_length : (procs : ℕ) → length (round_of procs) ≡ procs
round_length procs = length-map-range_with_len (λ p. record { 0 = p }) 0 procs

rounds_length : (procs rounds : ℕ) → length (rounds_of procs rounds) ≡ rounds * procs
rounds_length procs zero = omega arith
rounds_length procs (suc rounds) =
    length-append (round_of procs) (rounds_of procs rounds) ∙ (let one = round_length procs in let more = rounds_length procs rounds in omega (arith, one, more))

entry_length : (procs : ℕ) (entry : PickEntry) → length (picks_of procs entry) ≡ entry_units procs entry
entry_length procs (PickEntry.Pick proc count) = length-replicate count proc
entry_length procs (PickEntry.All rounds) = rounds_length procs rounds

picked_length : (procs : ℕ) (entries : List PickEntry) → length (picked_by procs entries) ≡ sum_by (entry_units procs) entries
picked_length procs [] = refl
picked_length procs (entry ∷ entries) =
    length-append (picks_of procs entry) (picked_by procs entries)
    ∙ (let first = entry_length procs entry in let others = picked_length procs entries in omega (arith, first, others, sum_by-cons (entry_units procs) entry entries))

at_most : (n m : ℕ) → nat_le n m ≡ true → n ≤ m
at_most n m is = grind (arith, common_steps)

-- a list of picks has at most 500,000 of them
pub few_picks : (procs : ℕ) (entries : List PickEntry) → IsTrue (is_picks procs entries) → length (picked_by procs entries) ≤ 500000
few_picks procs entries kept =
    let few : sum_by (entry_units procs) entries ≤ 500000 = at_most _ _ (second_so (is_proc_count procs && list_all (is_entry procs) entries) _ kept) in
    omega (arith, few, picked_length procs entries)
