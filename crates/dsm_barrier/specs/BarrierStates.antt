-- The state of a barrier at its manager, and what an arrival makes of it.
use Rattle.std.specs.Prelude.{ℕ, ◌+◌, Bool, ◌&&◌, ◌==◌, not, nat_lt, if◌then◌else◌, List, [], ◌∷◌, ◌++◌, length, map, filter, drop}
use Rattle.std.specs.List.{flat_map, range_with_len}
use Rattle.dsm_base.specs.declared.names.Bar.{Bar}
use Rattle.dsm_base.specs.Family.{update, all_below}
use Rattle.dsm_lines.specs.declared.list.Line.{Line}
use Rattle.dsm_lines.specs.declared.of_objects.Opening.{Opening}
use Rattle.dsm_barrier.specs.declared.arrived.Arrived.{Arrived}
use Rattle.dsm_barrier.specs.Joined.{in_order}

-- how often a barrier has opened, and by processor the arrivals that wait since then, the oldest first
pub record BarrierState : Type 0 where
  pub opened : ℕ
  pub waiting : ℕ → List Arrived

abbrev pub start_barrier : BarrierState
start_barrier = record { opened = 0; waiting = λ p. [] }

-- how often a processor has come
abbrev pub arrivals_of : BarrierState → ℕ → ℕ
arrivals_of barrier p = barrier.opened + length (barrier.waiting p)

-- whether an arrival counts: its turn is over that of the last one of its processor that counted, and it is for the epoch that the processor ends next
abbrev pub counts : BarrierState → ℕ → ℕ → ℕ → ℕ → Bool
counts barrier last from turn epoch = nat_lt last turn && (epoch == arrivals_of barrier from)

-- one who comes in a turn would cross in the next
abbrev pub arrived_in : ℕ → List Line → Arrived
arrived_in turn lines = record { turn = turn + 1; lines = lines }

-- the barrier with one more arrival
abbrev pub with_arrival : BarrierState → ℕ → Arrived → BarrierState
with_arrival barrier from arrived =
    record barrier { waiting = update barrier.waiting from (barrier.waiting from ++ arrived ∷ []) }

-- whether each processor has come since the barrier opened last
abbrev pub have_all_come : ℕ → BarrierState → Bool
have_all_come procs barrier = all_below procs (λ p. nat_lt 0 (length (barrier.waiting p)))

abbrev pub oldest : List Arrived → Arrived
oldest [] = record { turn = 0; lines = [] }
oldest (first ∷ others) = first

-- the processors but p
abbrev pub others_than : ℕ → ℕ → List ℕ
others_than procs p = filter (λ q. not (q == p)) (range_with_len 0 procs)

-- the lines that the processors but p brought, in order
abbrev pub lines_of_others : (ℕ → List Line) → ℕ → ℕ → List Line
lines_of_others brought procs p = in_order (flat_map brought (others_than procs p))

-- what each processor brought for the epoch that ends
abbrev pub brought_to : BarrierState → ℕ → List Line
brought_to barrier p = (oldest (barrier.waiting p)).lines

-- what tells p that the next epoch begins
abbrev pub opening_for : ℕ → Bar → BarrierState → ℕ → Opening
opening_for procs bar barrier p = record {
  to = record { 0 = p };
  turn = (oldest (barrier.waiting p)).turn;
  bar = bar;
  epoch = barrier.opened + 1;
  lines = lines_of_others (brought_to barrier) procs p;
}

-- one opening for each processor, in order
abbrev pub openings_of : ℕ → Bar → BarrierState → List Opening
openings_of procs bar barrier = map (opening_for procs bar barrier) (range_with_len 0 procs)

-- the barrier in its next epoch
abbrev pub once_opened : BarrierState → BarrierState
once_opened barrier = record { opened = barrier.opened + 1; waiting = λ p. drop 1 (barrier.waiting p) }

-- a barrier opens where all have come
abbrev pub opened_where_due : ℕ → BarrierState → BarrierState
opened_where_due procs barrier = if have_all_come procs barrier then once_opened barrier else barrier

abbrev pub openings_due : ℕ → Bar → BarrierState → List Opening
openings_due procs bar barrier = if have_all_come procs barrier then openings_of procs bar barrier else []
