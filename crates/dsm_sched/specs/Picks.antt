-- Lists of picks, and the picks that they stand for.
use Rattle.std.specs.Prelude.{ℕ, zero, suc, ◌*◌, Bool, ◌&&◌, nat_lt, nat_le, List, [], ◌++◌, map, replicate, sum_by}
use Rattle.std.specs.List.{list_all, flat_map, range_with_len}
use Rattle.dsm_base.specs.declared.names.Proc.{Proc}
use Rattle.dsm_base.specs.Setups.{is_proc_count}
use Rattle.dsm_sched.specs.declared.picks.PickEntry.{PickEntry}
use Rattle.dsm_sched.specs.Entries.{is_count}

-- whether the numbers of an entry are in their ranges, for so many processors
abbrev pub is_entry : ℕ → PickEntry → Bool
is_entry procs (PickEntry.Pick proc count) = nat_lt proc.0 procs && is_count count
is_entry procs (PickEntry.All rounds) = is_count rounds

-- the units of an entry are its picks
abbrev pub entry_units : ℕ → PickEntry → ℕ
entry_units procs (PickEntry.Pick proc count) = count
entry_units procs (PickEntry.All rounds) = rounds * procs

-- what every list of picks keeps
abbrev pub is_picks : ℕ → List PickEntry → Bool
is_picks procs entries = is_proc_count procs && list_all (is_entry procs) entries && nat_le (sum_by (entry_units procs) entries) 500000

-- every processor once, in order
abbrev pub round_of : ℕ → List Proc
round_of procs = map (λ p. record { 0 = p }) (range_with_len 0 procs)

-- so many rounds, one after another
abbrev pub rounds_of : ℕ → ℕ → List Proc
rounds_of procs zero = []
rounds_of procs (suc rounds) = round_of procs ++ rounds_of procs rounds

-- the picks of an entry
abbrev pub picks_of : ℕ → PickEntry → List Proc
picks_of procs (PickEntry.Pick proc count) = replicate count proc
picks_of procs (PickEntry.All rounds) = rounds_of procs rounds

-- the picks of all entries, one by one
abbrev pub picked_by : ℕ → List PickEntry → List Proc
picked_by procs entries = flat_map (picks_of procs) entries
