-- Picks one by one, as they are put down.
use Rattle.std.specs.Prelude.{◌≡◌, ◌<◌, ◌≤◌, ℕ, zero, suc, ◌+◌, Bool, true, ◌&&◌, nat_lt, List, [], ◌∷◌, ◌++◌, map, replicate, IfSome, slice_get}
use Rattle.std.specs.List.{list_all, range_with_len, AllByRecursion}
use Rattle.std.specs.Cmp.{first_so, second_so}
use Rattle.std.proofs.Common.{sym, ap, ◌∙◌, append_assoc, append-nil, arith}
use Rattle.std.proofs.lemmas.Grind.{common_steps}
use Rattle.dsm_base.specs.declared.names.Proc.{Proc}
use Rattle.dsm_sched.specs.declared.picks.PickEntry.{PickEntry}
use Rattle.dsm_sched.specs.Entries.{is_count}
use Rattle.dsm_sched.specs.Picks.{is_entry, round_of, rounds_of, picks_of, picked_by}

round_behind : (procs rounds : ℕ) → rounds_of procs (suc rounds) ≡ rounds_of procs rounds ++ round_of procs
round_behind procs zero = append-nil (round_of procs)
round_behind procs (suc rounds) = ap (λ more. round_of procs ++ more) (round_behind procs rounds) ∙ sym (append_assoc (round_of procs) (rounds_of procs rounds) (round_of procs))

-- one more round at the end
pub one_round_more : (procs rounds : ℕ) → rounds_of procs (rounds + 1) ≡ rounds_of procs rounds ++ round_of procs
one_round_more procs rounds = let next : rounds + 1 ≡ suc rounds = omega arith in ap (rounds_of procs) next ∙ round_behind procs rounds

-- each processor that is picked is one of them
abbrev AreBelow : ℕ → List Proc → Type 0
AreBelow procs picks = AllByRecursion (λ proc. proc.0 < procs) picks

below_append : (procs : ℕ) (front back : List Proc) → AreBelow procs front → AreBelow procs back → AreBelow procs (front ++ back)
below_append procs [] back all others = others
below_append procs (proc ∷ front) back all others = (all.0, below_append procs front back all.1 others)

below_replicate : (procs count : ℕ) (proc : Proc) → proc.0 < procs → AreBelow procs (replicate count proc)
below_replicate procs zero proc below = tt
below_replicate procs (suc count) proc below = (below, below_replicate procs count proc below)

below_range : (procs from count : ℕ) → from + count ≤ procs → AreBelow procs (map (λ p. record { 0 = p }) (range_with_len from count))
below_range procs from zero within = tt
below_range procs from (suc count) within = (omega (arith), below_range procs (from + 1) count (omega arith))

below_rounds : (procs rounds : ℕ) → AreBelow procs (rounds_of procs rounds)
below_rounds procs zero = tt
below_rounds procs (suc rounds) = below_append procs (round_of procs) (rounds_of procs rounds) (below_range procs 0 procs (omega arith)) (below_rounds procs rounds)

below_by : (p procs : ℕ) (count : Bool) → (nat_lt p procs && count) ≡ true → p < procs
below_by p procs count is = grind (arith, common_steps)

below_entry : (procs : ℕ) (entry : PickEntry) → is_entry procs entry ≡ true → AreBelow procs (picks_of procs entry)
below_entry procs (PickEntry.Pick proc count) is = below_replicate procs count proc (below_by proc.0 procs (is_count count) is)
below_entry procs (PickEntry.All rounds) is = below_rounds procs rounds

below_all : (procs : ℕ) (entries : List PickEntry) → list_all (is_entry procs) entries ≡ true → AreBelow procs (picked_by procs entries)
below_all procs [] are = tt
below_all procs (entry ∷ entries) are =
    below_append procs (picks_of procs entry) (picked_by procs entries) (below_entry procs entry (first_so _ _ are))
    (below_all procs entries (second_so (is_entry procs entry) _ are))

member : (procs : ℕ) (picks : List Proc) (index : ℕ) → AreBelow procs picks → IfSome (slice_get picks index) (λ proc. proc.0 < procs)
member procs [] index all = tt
member procs (proc ∷ picks) zero all = all.0
member procs (proc ∷ picks) (suc index) all = member procs picks index all.1

pub below : (procs : ℕ) (entries : List PickEntry) (index : ℕ) → list_all (is_entry procs) entries ≡ true → IfSome (slice_get (picked_by procs entries) index) (λ proc. proc.0 < procs)
below procs entries index are = member procs (picked_by procs entries) index (below_all procs entries are)
