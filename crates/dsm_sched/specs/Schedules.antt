-- Schedules, and the units that they stand for.
use Rattle.std.specs.Prelude.{ℕ, ◌+◌, ◌*◌, Bool, ◌&&◌, ◌==◌, not, nat_lt, nat_le, List, ◌∷◌, length, map, filter, take, replicate, sum_by}
use Rattle.std.specs.List.{list_all, flat_map, range_with_len}
use Rattle.dsm_base.specs.declared.act.Act.{Act}
use Rattle.dsm_base.specs.Setups.{is_proc_count}
use Rattle.dsm_sched.specs.declared.schedule.Entry.{Entry}
use Rattle.dsm_sched.specs.Entries.{is_count}

-- whether a unit names processors below a number, and a delivery two different ones; of a torn block at most all 512 bytes are kept
abbrev pub is_act : ℕ → Act → Bool
is_act procs (Act.Step proc) = nat_lt proc.0 procs
is_act procs (Act.Deliver from to) = nat_lt from.0 procs && nat_lt to.0 procs && not (from.0 == to.0)
is_act procs (Act.Ckpt proc) = nat_lt proc.0 procs
is_act procs (Act.Block proc) = nat_lt proc.0 procs
is_act procs (Act.Crash proc) = nat_lt proc.0 procs
is_act procs (Act.Torn proc kept) = nat_lt proc.0 procs && nat_le kept 512
is_act procs (Act.Restart proc) = nat_lt proc.0 procs

-- whether the numbers of an entry are in their ranges, for so many processors
abbrev pub is_entry : ℕ → Entry → Bool
is_entry procs (Entry.Unit act count) = is_act procs act && is_count count
is_entry procs (Entry.Finish rounds) = is_count rounds

-- The units of `finish`.

-- the numbers of all processors but one, in order
abbrev pub others_of : ℕ → ℕ → List ℕ
others_of procs proc = filter (λ other. not (other == proc)) (range_with_len 0 procs)

-- the delivery from one processor to another, by their numbers
abbrev pub deliver_to : ℕ → ℕ → Act
deliver_to from to = Act.Deliver record { 0 = from } record { 0 = to }

-- a processor makes a turn, and then its oldest message to each other is delivered, in order
abbrev pub turn_of : ℕ → ℕ → List Act
turn_of procs proc = Act.Step record { 0 = proc } ∷ map (deliver_to proc) (others_of procs proc)

-- every processor does so once, in order
abbrev pub round_of : ℕ → List Act
round_of procs = flat_map (turn_of procs) (range_with_len 0 procs)

-- The units of all entries.

-- the units of an entry, one by one
abbrev pub units_of_entry : ℕ → Entry → List Act
units_of_entry procs (Entry.Unit act count) = replicate count act
units_of_entry procs (Entry.Finish rounds) = flat_map (λ _. round_of procs) (range_with_len 0 rounds)

-- how many they are
abbrev pub unit_count : ℕ → Entry → ℕ
unit_count procs (Entry.Unit act count) = count
unit_count procs (Entry.Finish rounds) = rounds * (procs * procs)

-- the units of all entries, one by one
abbrev pub units_by : ℕ → List Entry → List Act
units_by procs entries = flat_map (units_of_entry procs) entries

-- what every schedule keeps
abbrev pub is_schedule : ℕ → List Entry → Bool
is_schedule procs entries = is_proc_count procs && list_all (is_entry procs) entries && nat_le (sum_by (unit_count procs) entries) 500000

-- how many units the first so many entries have
abbrev pub units_before : ℕ → List Entry → ℕ → ℕ
units_before procs entries count = sum_by (unit_count procs) (take count entries)

-- for each entry how many units there are up to its end
abbrev pub ends_of : ℕ → List Entry → List ℕ
ends_of procs entries = map (λ k. units_before procs entries (k + 1)) (range_with_len 0 (length entries))
