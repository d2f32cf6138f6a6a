-- Cases in which a law of runs would fail without one of its premises. Each computes the other premises, and what is
-- otherwise than the law says.
use Rattle.std.specs.Prelude.{◌≡◌, ◌≢◌, ℕ, ℤ, zero, suc, pos, true, false, ◌==◌, nat_le, if◌then◌else◌, List, [], ◌∷◌, Some}
use Rattle.std.proofs.Common.{arith, refl, sym}
use Rattle.dsm_base.specs.declared.names.Lock.{Lock}
use Rattle.dsm_base.specs.declared.names.Bar.{Bar}
use Rattle.dsm_base.specs.declared.names.Mode.{Mode}
use Rattle.dsm_base.specs.declared.label.Label.{Label}
use Rattle.dsm_base.specs.declared.label.Want.{Want}
use Rattle.dsm_base.specs.declared.setup.Object.{Object}
use Rattle.dsm_base.specs.declared.setup.Piece.{Piece}
use Rattle.dsm_base.specs.declared.setup.Setup.{Setup}
use Rattle.dsm_base.specs.Access.{may_load, piece_of, is_phase}
use Rattle.dsm_base.specs.Agrees.{is_between}
use Rattle.dsm_base.specs.Family.{update}
use Rattle.dsm_base.specs.Threads.{Semantics, AsksFirst, state_after}
use Rattle.dsm_base.specs.Plain.{PlainState, Turn, IsPlainRun, plain_after, after_run, labels_of, plain_turn, seen_by}
use Rattle.dsm_laws_runs.specs.Barriers.{is_owned, stored_by, until_arrival}
use Rattle.dsm_laws_runs.specs.Copies.{OwnTurn, HasCopies, AreAdequate, own_labels, newest_copy, memories_of}
use Rattle.dsm_laws_runs.specs.Epochs.{wants_cross}
use Rattle.dsm_laws_runs.specs.OwnPart.{arrived_of, crossed_of}
use Rattle.dsm_laws_runs.specs.Pieces.{is_bar, is_of_lock}
use Rattle.dsm_base.proofs.Families.{update_back}
use Rattle.dsm_laws_runs.specs.Swap.{rests_on, clashes, IsFree}
use Rattle.dsm_laws_runs.specs.Versions.{SameAt, memory_at}
use Rattle.dsm_laws_tails.proofs.Worked.{threads, the_lock, the_bar, the_cell, of_lock, in_even_epochs, in_odd_epochs, of_two, by, IsMade, IsNoRun, AllAsk}
use Rattle.dsm_laws_tails.proofs.Checks.{others_are, copies}

abbrev pub takes : Mode → List Want
takes mode = Want.Ask the_lock mode 1 ∷ Want.Take the_lock mode ∷ []

abbrev pub come_and_cross : List Want
come_and_cross = Want.Arrive the_bar ∷ Want.Cross the_bar ∷ []

abbrev store_five : List Want
store_five = Want.Store the_cell (pos 5) 1 ∷ []

abbrev both_came : List Turn
both_came = by 1 (Label.Arrive the_bar) ∷ by 0 (Label.Arrive the_bar) ∷ []

abbrev pub nothing : ℕ → List Want
nothing p = []

-- The law `change_places`.

-- (`free`) of one processor: its take doesn't rest on its ask, and it can't take first
one_processor : let first = of_two (takes Mode.Excl) [] in
    AllAsk of_lock first
    × IsMade of_lock first (by 0 (Label.Take the_lock Mode.Excl 0) ∷ by 0 (Label.Ask the_lock Mode.Excl) ∷ [])
    × IsFree first threads [] (by 0 (Label.Ask the_lock Mode.Excl)) (by 0 (Label.Take the_lock Mode.Excl 0))
    × IsNoRun of_lock first (by 0 (Label.Ask the_lock Mode.Excl) ∷ by 0 (Label.Take the_lock Mode.Excl 0) ∷ [])
one_processor = (refl, refl, refl, refl)

-- (`free`) of threads that don't ask first: 0 holds the lock exclusively and takes it shared; then 1 can take it shared, and not before
abbrev pub takes_twice : ℕ → List Want
takes_twice = of_two (Want.Ask the_lock Mode.Excl 1 ∷ Want.Take the_lock Mode.Excl ∷ Want.Take the_lock Mode.Shared ∷ []) (takes Mode.Shared)

abbrev pub held_exclusively : List Turn
held_exclusively = by 0 (Label.Take the_lock Mode.Excl 0) ∷ by 1 (Label.Ask the_lock Mode.Shared) ∷ by 0 (Label.Ask the_lock Mode.Excl) ∷ []

take_without_ask :
    IsMade of_lock takes_twice (by 1 (Label.Take the_lock Mode.Shared 0) ∷ by 0 (Label.Take the_lock Mode.Shared 0) ∷ held_exclusively)
    × IsFree takes_twice threads held_exclusively (by 0 (Label.Take the_lock Mode.Shared 0)) (by 1 (Label.Take the_lock Mode.Shared 0))
    × IsNoRun of_lock takes_twice (by 0 (Label.Take the_lock Mode.Shared 0) ∷ by 1 (Label.Take the_lock Mode.Shared 0) ∷ held_exclusively)
take_without_ask = (refl, refl, refl)

-- (`free`) of turns that nobody makes: neither order is a run
turns_of_nobody :
    AllAsk of_lock nothing
    × IsFree nothing threads [] (by 0 Label.Quiet) (by 1 Label.Quiet)
    × IsNoRun of_lock nothing (by 1 Label.Quiet ∷ by 0 Label.Quiet ∷ [])
    × IsNoRun of_lock nothing (by 0 Label.Quiet ∷ by 1 Label.Quiet ∷ [])
turns_of_nobody = (refl, refl, refl, refl)

-- (`bound`) of one processor: it takes a lock once more that it holds, and gives it back
take_and_give : let first = of_two (Want.Ask the_lock Mode.Excl 1 ∷ Want.Take the_lock Mode.Excl ∷ Want.Take the_lock Mode.Excl ∷ Want.Give the_lock 1 ∷ []) [] in
    let before = by 0 (Label.Take the_lock Mode.Excl 0) ∷ by 0 (Label.Ask the_lock Mode.Excl) ∷ [] in
    IsMade of_lock first (by 0 (Label.Give the_lock) ∷ by 0 (Label.Take the_lock Mode.Excl 0) ∷ before)
    × (rests_on ((after_run first threads before).held 0) ((after_run first threads before).arrived 0) (Label.Give the_lock) (Label.Take the_lock Mode.Excl 0) ≡ true)
take_and_give = (refl, refl)

-- (`bound`) of turns that are no run: 0's give of an exclusive hold and 1's take
abbrev gives_and_takes : ℕ → List Want
gives_and_takes = of_two (Want.Ask the_lock Mode.Excl 1 ∷ Want.Take the_lock Mode.Excl ∷ Want.Give the_lock 1 ∷ []) (takes Mode.Excl)

abbrev pub held_by_zero : List Turn
held_by_zero = by 0 (Label.Take the_lock Mode.Excl 0) ∷ by 1 (Label.Ask the_lock Mode.Excl) ∷ by 0 (Label.Ask the_lock Mode.Excl) ∷ []

take_before_the_give : let s = after_run gives_and_takes threads held_by_zero in
    IsNoRun of_lock gives_and_takes (by 0 (Label.Give the_lock) ∷ by 1 (Label.Take the_lock Mode.Excl 1) ∷ held_by_zero)
    × (rests_on (s.held 0) (s.arrived 0) (Label.Give the_lock) (Label.Take the_lock Mode.Excl 1) ≡ true)
take_before_the_give = (refl, refl)

-- The law `no_clashes`.

-- (`at_once`) both can make these turns, and they clash
abbrev ClashAtOnce : Setup → (ℕ → List Want) → List Turn → ℕ → ℕ → Label → Label → Type 0
ClashAtOnce setup first run p q one other =
    (plain_turn setup threads (after_run first threads run) p ≡ Some one)
    × (plain_turn setup threads (after_run first threads run) q ≡ Some other)
    × (clashes one other ≡ true)

-- of a thread that doesn't cross right after it came: it stores in its epoch, while the other, who has crossed, loads the same cell
abbrev stores_before_it_crosses : ℕ → List Want
stores_before_it_crosses = of_two (Want.Arrive the_bar ∷ store_five) (Want.Arrive the_bar ∷ Want.Cross the_bar ∷ Want.Load the_cell 1 ∷ [])

abbrev one_crossed : List Turn
one_crossed = by 1 (Label.Cross the_bar 1) ∷ both_came

store_before_the_crossing :
    IsMade in_even_epochs stores_before_it_crosses one_crossed
    × ClashAtOnce in_even_epochs stores_before_it_crosses one_crossed 0 1 (Label.Store the_cell (pos 5)) (Label.Load the_cell (pos 0))
    × IsMade in_even_epochs stores_before_it_crosses (by 1 (Label.Load the_cell (pos 5)) ∷ by 0 (Label.Store the_cell (pos 5)) ∷ one_crossed)
    × (clashes (Label.Store the_cell (pos 5)) (Label.Load the_cell (pos 5)) ≡ true)
store_before_the_crossing = (refl, (refl, refl, refl), refl, refl)

-- of turns that are no run: both take the lock exclusively
both_take : let first = of_two (Want.Quiet ∷ store_five) (Want.Quiet ∷ store_five) in
    let run = by 1 (Label.Take the_lock Mode.Excl 0) ∷ by 0 (Label.Take the_lock Mode.Excl 0) ∷ [] in
    AllAsk of_lock first
    × IsNoRun of_lock first run
    × ClashAtOnce of_lock first run 0 1 (Label.Store the_cell (pos 5)) (Label.Store the_cell (pos 5))
    × IsNoRun of_lock first (by 1 (Label.Store the_cell (pos 5)) ∷ by 0 (Label.Store the_cell (pos 5)) ∷ run)
both_take = (refl, refl, (refl, refl, refl), refl)

-- of a processor past the setup: 17 crosses nothing, and may load in epoch 0 what the owner stores in epoch 1
abbrev seventeen_loads : ℕ → List Want
seventeen_loads p = if p == 17 then Want.Load the_cell 1 ∷ [] else of_two (Want.Arrive the_bar ∷ Want.Cross the_bar ∷ store_five) come_and_cross p

abbrev zero_crossed : List Turn
zero_crossed = by 0 (Label.Cross the_bar 1) ∷ both_came

load_past_the_setup :
    AllAsk in_odd_epochs seventeen_loads
    × IsMade in_odd_epochs seventeen_loads zero_crossed
    × ClashAtOnce in_odd_epochs seventeen_loads zero_crossed 0 17 (Label.Store the_cell (pos 5)) (Label.Load the_cell (pos 0))
    × ClashAtOnce in_odd_epochs seventeen_loads zero_crossed 17 0 (Label.Load the_cell (pos 0)) (Label.Store the_cell (pos 5))
load_past_the_setup = (refl, refl, (refl, refl, refl), (refl, refl, refl))

-- of one processor: it stores twice
abbrev stores_twice : ℕ → List Want
stores_twice = of_two (Want.Store the_cell (pos 5) 1 ∷ store_five) []

two_stores_of_one :
    AllAsk in_even_epochs stores_twice
    × ClashAtOnce in_even_epochs stores_twice [] 0 0 (Label.Store the_cell (pos 5)) (Label.Store the_cell (pos 5))
    × IsMade in_even_epochs stores_twice (by 0 (Label.Store the_cell (pos 5)) ∷ by 0 (Label.Store the_cell (pos 5)) ∷ [])
two_stores_of_one = (refl, (refl, refl, refl), refl)

-- of a turn that one of both can't make: 0 stores, and 1's store isn't what it would do
store_of_nobody : let s = after_run stores_twice threads [] in
    AllAsk in_even_epochs stores_twice
    × (plain_turn in_even_epochs threads s 0 ≡ Some (Label.Store the_cell (pos 5)))
    × (plain_turn in_even_epochs threads s 1 ≢ Some (Label.Store the_cell (pos 5)))
    × (clashes (Label.Store the_cell (pos 5)) (Label.Store the_cell (pos 5)) ≡ true)
store_of_nobody = (refl, refl, λ e. cc e, refl)

-- The law `crossings`.

-- (`came`) of turns that are no run: a crossing alone; (`in_step`): an arrival alone
crossing_alone :
    IsNoRun in_even_epochs nothing (by 0 (Label.Cross the_bar 1) ∷ [])
    × ((after_run nothing threads (by 0 (Label.Cross the_bar 1) ∷ [])).crossed 0 0 ≡ 1)
    × ((after_run nothing threads (by 0 (Label.Cross the_bar 1) ∷ [])).arrived 0 0 ≡ 0)
crossing_alone = (refl, refl, refl)

arrival_alone : let s = after_run nothing threads (by 0 (Label.Arrive the_bar) ∷ []) in
    AllAsk in_even_epochs nothing
    × IsNoRun in_even_epochs nothing (by 0 (Label.Arrive the_bar) ∷ [])
    × (s.arrived 0 0 ≡ 1)
    × (s.crossed 0 0 ≡ 0)
    × (wants_cross 0 (threads.want (s.threads 0)) ≡ false)
arrival_alone = (refl, refl, refl, refl, refl)

-- (`came`) of arrivals past the setup: 0 has crossed, and 17 never comes; (`in_step`): 17 wants to cross at once
seventeen_never_comes : let first = of_two come_and_cross come_and_cross in
    IsMade in_even_epochs first zero_crossed
    × ((after_run first threads zero_crossed).crossed 0 0 ≡ 1)
    × ((after_run first threads zero_crossed).arrived 17 0 ≡ 0)
seventeen_never_comes = (refl, refl, refl)

abbrev seventeen_crosses : ℕ → List Want
seventeen_crosses p = if p == 17 then Want.Cross the_bar ∷ [] else []

crossing_past_the_setup : let s = after_run seventeen_crosses threads [] in
    AllAsk in_even_epochs seventeen_crosses
    × (s.arrived 17 0 ≡ 0)
    × (s.crossed 17 0 ≡ 0)
    × (wants_cross 0 (threads.want (s.threads 17)) ≡ true)
crossing_past_the_setup = (refl, refl, refl, refl)

-- (`in_step`) of a thread that comes twice: it has come twice more than it crossed
two_arrivals : let first = of_two (Want.Arrive the_bar ∷ Want.Arrive the_bar ∷ []) [] in
    let run = by 0 (Label.Arrive the_bar) ∷ by 0 (Label.Arrive the_bar) ∷ [] in
    IsMade in_even_epochs first run
    × ((after_run first threads run).arrived 0 0 ≡ 2)
    × ((after_run first threads run).crossed 0 0 ≡ 0)
two_arrivals = (refl, refl, refl)

-- The law `barrier_cells`.

-- (`memory`) of turns that are no run: 1 stores to 0's cell
store_by_another :
    IsNoRun in_even_epochs nothing (by 1 (Label.Store the_cell (pos 5)) ∷ [])
    × (is_owned 0 0 (piece_of in_even_epochs.bindings 0) ≡ true)
    × ((after_run nothing threads (by 1 (Label.Store the_cell (pos 5)) ∷ [])).memory 0 ≡ pos 5)
    × (stored_by (labels_of 0 (by 1 (Label.Store the_cell (pos 5)) ∷ [])) 0 ≡ pos 0)
store_by_another = (refl, refl, refl, refl)

-- (`memory`) of one who doesn't own the cell: 0 stores to its own, and 1 has stored nothing
abbrev zero_stored : List Turn
zero_stored = by 0 (Label.Store the_cell (pos 5)) ∷ []

not_the_owner : let first = of_two store_five [] in
    IsMade in_even_epochs first zero_stored
    × (is_owned 0 1 (piece_of in_even_epochs.bindings 0) ≡ false)
    × ((after_run first threads zero_stored).memory 0 ≡ pos 5)
    × (stored_by (labels_of 1 zero_stored) 0 ≡ pos 0)
not_the_owner = (refl, refl, refl, refl)

-- (`kept`) of an epoch for which the owner hasn't come: what it then stores counts
not_yet_come : let newer = Label.Arrive the_bar ∷ Label.Store the_cell (pos 5) ∷ [] in
    (arrived_of [] 0 ≡ 0) × (until_arrival 0 1 newer ≡ newer) × (until_arrival 0 1 [] ≡ [])
not_yet_come = (refl, refl, refl)

-- (`quiet`) what a processor has stored isn't what it had stored when it came for the epoch
abbrev StoredLater : List Turn → ℕ → ℕ → Type 0
StoredLater run bar epoch = (stored_by (labels_of 0 run) 0 ≡ pos 5) × (stored_by (until_arrival bar epoch (labels_of 0 run)) 0 ≡ pos 0)

-- whether its other premises hold of a piece and epoch: the cell's piece, the barrier, none of the phases, no later crossing
abbrev AreQuiet : Setup → List Turn → ℕ → ℕ → Piece → Type 0
AreQuiet setup run bar epoch piece =
    (piece_of setup.bindings 0 ≡ Some piece) × (is_bar bar piece.object ≡ true) × (is_phase piece epoch ≡ false) × (nat_le (crossed_of (labels_of 0 run) bar) epoch ≡ true)

abbrev in_even : Piece
in_even = record { object = Object.Bar the_bar; first = the_cell; count = 1; owner = 0; phase = 0; period = 2 }

abbrev in_odd : Piece
in_odd = record { object = Object.Bar the_bar; first = the_cell; count = 1; owner = 0; phase = 1; period = 2 }

abbrev stored_and_came : List Turn
stored_and_came = by 0 (Label.Store the_cell (pos 5)) ∷ by 0 (Label.Arrive the_bar) ∷ []

-- of a thread that doesn't cross right after it came: it stores after its arrival for epoch 1
stored_after_its_arrival :
    IsMade in_even_epochs stores_before_it_crosses stored_and_came
    × AreQuiet in_even_epochs stored_and_came 0 1 in_even
    × StoredLater stored_and_came 0 1
stored_after_its_arrival = (refl, (refl, refl, refl, refl), (refl, refl))

-- of turns that are no run
stored_by_nobody :
    AllAsk in_even_epochs nothing
    × IsNoRun in_even_epochs nothing stored_and_came
    × AreQuiet in_even_epochs stored_and_came 0 1 in_even
    × StoredLater stored_and_came 0 1
stored_by_nobody = (refl, refl, (refl, refl, refl, refl), (refl, refl))

-- of a piece that isn't the cell's: the cell is the lock's
abbrev stored_under_the_lock : List Turn
stored_under_the_lock = by 0 (Label.Store the_cell (pos 5)) ∷ by 0 (Label.Take the_lock Mode.Excl 0) ∷ by 0 (Label.Ask the_lock Mode.Excl) ∷ []

another_piece : let first = of_two (Want.Ask the_lock Mode.Excl 1 ∷ Want.Take the_lock Mode.Excl ∷ store_five) [] in
    AllAsk of_lock first
    × IsMade of_lock first stored_under_the_lock
    × (is_bar 0 in_odd.object ≡ true)
    × (is_phase in_odd 0 ≡ false)
    × (crossed_of (labels_of 0 stored_under_the_lock) 0 ≡ 0)
    × StoredLater stored_under_the_lock 0 0
another_piece = (refl, refl, refl, refl, refl, (refl, refl))

-- of another barrier, of which the owner has crossed none
abbrev owner_stores : ℕ → List Want
owner_stores = of_two (Want.Arrive the_bar ∷ Want.Cross the_bar ∷ store_five) come_and_cross

abbrev stored_in_its_epoch : List Turn
stored_in_its_epoch = by 0 (Label.Store the_cell (pos 5)) ∷ zero_crossed

another_barrier :
    AllAsk in_odd_epochs owner_stores
    × IsMade in_odd_epochs owner_stores stored_in_its_epoch
    × (piece_of in_odd_epochs.bindings 0 ≡ Some in_odd)
    × (is_bar 1 in_odd.object ≡ false)
    × (is_phase in_odd 0 ≡ false)
    × (crossed_of (labels_of 0 stored_in_its_epoch) 1 ≡ 0)
    × StoredLater stored_in_its_epoch 1 0
another_barrier = (refl, refl, refl, refl, refl, refl, (refl, refl))

-- of an epoch that is one of the owner's
epoch_of_the_owner : let first = of_two store_five [] in
    AllAsk in_even_epochs first
    × IsMade in_even_epochs first zero_stored
    × (piece_of in_even_epochs.bindings 0 ≡ Some in_even)
    × (is_bar 0 in_even.object ≡ true)
    × (is_phase in_even 0 ≡ true)
    × (crossed_of (labels_of 0 zero_stored) 0 ≡ 0)
    × StoredLater zero_stored 0 0
epoch_of_the_owner = (refl, refl, refl, refl, refl, refl, (refl, refl))

-- of an epoch that is over
epoch_that_is_over :
    AllAsk in_odd_epochs owner_stores
    × IsMade in_odd_epochs owner_stores stored_in_its_epoch
    × (piece_of in_odd_epochs.bindings 0 ≡ Some in_odd)
    × (is_bar 0 in_odd.object ≡ true)
    × (is_phase in_odd 0 ≡ false)
    × (crossed_of (labels_of 0 stored_in_its_epoch) 0 ≡ 1)
    × StoredLater stored_in_its_epoch 0 0
epoch_that_is_over = (refl, refl, refl, refl, refl, refl, (refl, refl))

-- Copies.

abbrev pub zeros : ℕ → ℤ
zeros cell = pos 0

abbrev pub ones : ℕ → ℤ
ones cell = pos 1

pub one_isnt_zero : pos 1 ≢ pos 0
one_isnt_zero e = cc e

-- The law `own_copies`: one may load the cell, its copy has a zero there, and the memory has a 5.

abbrev IsStale : Setup → (ℕ → List Want) → List Turn → ℕ → List OwnTurn → Type 0
IsStale setup first run p turns =
    (may_load setup.bindings p (seen_by (after_run first threads run) p).rights 0 ≡ true)
    × (is_between setup.bindings (after_run first threads run) p 0 ≡ false)
    × (newest_copy turns 0 ≡ pos 0)
    × ((after_run first threads run).memory 0 ≡ pos 5)

abbrev HasStale : Setup → (ℕ → List Want) → List Turn → ℕ → List OwnTurn → Type 0
HasStale setup first run p turns = (labels_of p run ≡ own_labels turns) × IsStale setup first run p turns

-- of a thread that doesn't ask first: it stores in an exclusive hold and takes the lock shared once more, which brings the zeros of version 0
abbrev stores_and_takes_again : ℕ → List Want
stores_and_takes_again = of_two (Want.Ask the_lock Mode.Excl 1 ∷ Want.Take the_lock Mode.Excl ∷ Want.Store the_cell (pos 5) 1 ∷ Want.Take the_lock Mode.Shared ∷ []) []

abbrev taken_again : List Turn
taken_again = by 0 (Label.Take the_lock Mode.Shared 0) ∷ stored_under_the_lock

abbrev copies_taken_again : List OwnTurn
copies_taken_again =
    record { label = Label.Take the_lock Mode.Shared 0; copy = zeros } ∷ record { label = Label.Store the_cell (pos 5); copy = update zeros 0 (pos 5) }
    ∷ record { label = Label.Take the_lock Mode.Excl 0; copy = zeros } ∷ record { label = Label.Ask the_lock Mode.Excl; copy = zeros } ∷ []

-- the store has set no cell but the lock's
no_other_cell : (cell : ℕ) → is_of_lock 0 (piece_of of_lock.bindings cell) ≡ false → pos 0 ≡ update zeros 0 (pos 5) cell
no_other_cell zero isnt = absurd (cc isnt)
no_other_cell (suc cell) isnt = grind arith

stale_by_another_take :
    IsMade of_lock stores_and_takes_again taken_again
    × AreAdequate of_lock (memories_of of_lock stores_and_takes_again threads taken_again) 0 copies_taken_again
    × HasStale of_lock stores_and_takes_again taken_again 0 copies_taken_again
stale_by_another_take = (
  refl,
  ((((tt, λ cell. refl), record { inside = λ cell is. refl; outside = λ cell isnt. refl }), λ cell. refl), record { inside = λ cell is. refl; outside = no_other_cell }),
  (refl, (refl, refl, refl, refl)),
)

-- of turns that are no run: the same turns, of threads that want nothing
stale_in_no_run :
    AllAsk of_lock nothing
    × IsNoRun of_lock nothing taken_again
    × AreAdequate of_lock (memories_of of_lock nothing threads taken_again) 0 copies_taken_again
    × HasStale of_lock nothing taken_again 0 copies_taken_again
stale_in_no_run = (
  refl,
  refl,
  ((((tt, λ cell. refl), record { inside = λ cell is. refl; outside = λ cell isnt. refl }), λ cell. refl), record { inside = λ cell is. refl; outside = no_other_cell }),
  (refl, (refl, refl, refl, refl)),
)

-- of labels that aren't the processor's in the run: 0 stores to its own cell, and no own turn tells it
store_left_out : let first = of_two store_five [] in
    AllAsk in_even_epochs first
    × IsMade in_even_epochs first zero_stored
    × AreAdequate in_even_epochs (memories_of in_even_epochs first threads zero_stored) 0 []
    × (labels_of 0 zero_stored ≢ own_labels [])
    × IsStale in_even_epochs first zero_stored 0 []
store_left_out = (refl, refl, tt, others_are (labels_of 0 zero_stored) [] refl, (refl, refl, refl, refl))

-- of a take that brings nothing
abbrev stores_and_takes : ℕ → List Want
stores_and_takes = of_two (Want.Ask the_lock Mode.Excl 1 ∷ Want.Take the_lock Mode.Excl ∷ Want.Store the_cell (pos 5) 1 ∷ Want.Give the_lock 1 ∷ []) (takes Mode.Shared)

abbrev taken_after_the_store : List Turn
taken_after_the_store =
    by 1 (Label.Take the_lock Mode.Shared 1) ∷ by 1 (Label.Ask the_lock Mode.Shared) ∷ by 0 (Label.Give the_lock)
    ∷ by 0 (Label.Store the_cell (pos 5)) ∷ by 0 (Label.Take the_lock Mode.Excl 0) ∷ by 0 (Label.Ask the_lock Mode.Excl) ∷ []

abbrev asked_and_took : List OwnTurn
asked_and_took = record { label = Label.Take the_lock Mode.Shared 1; copy = zeros } ∷ record { label = Label.Ask the_lock Mode.Shared; copy = zeros } ∷ []

take_that_brings_nothing :
    AllAsk of_lock stores_and_takes
    × IsMade of_lock stores_and_takes taken_after_the_store
    × HasStale of_lock stores_and_takes taken_after_the_store 1 asked_and_took
take_that_brings_nothing = (refl, refl, (refl, (refl, refl, refl, refl)))

-- of a processor past the setup
processor_past_the_setup :
    AllAsk in_odd_epochs owner_stores
    × IsMade in_odd_epochs owner_stores stored_in_its_epoch
    × AreAdequate in_odd_epochs (memories_of in_odd_epochs owner_stores threads stored_in_its_epoch) 17 []
    × HasStale in_odd_epochs owner_stores stored_in_its_epoch 17 []
processor_past_the_setup = (refl, refl, tt, (refl, (refl, refl, refl, refl)))

-- The law `copies_go_on`: 0 and 1 each have a quiet turn.

abbrev pub quiet_each : ℕ → List Want
quiet_each = of_two (Want.Quiet ∷ []) (Want.Quiet ∷ [])

abbrev quiet_zero : List Turn
quiet_zero = by 0 Label.Quiet ∷ []

abbrev pub quiet_copies : List OwnTurn
quiet_copies = record { label = Label.Quiet; copy = zeros } ∷ []

abbrev pub wrong_copies : List OwnTurn
wrong_copies = record { label = Label.Quiet; copy = ones } ∷ []

-- (`alike`, `other`, `own`) of copies that aren't as they should be: a quiet turn has changed a cell, and so it is in the
-- same run, with a turn of 1 more, or with an own one that is as it should be
wrong_copies_go_on :
    AllAsk of_lock quiet_each
    × IsMade of_lock quiet_each quiet_zero
    × (labels_of 0 quiet_zero ≡ own_labels wrong_copies)
    × (AreAdequate of_lock (memories_of of_lock quiet_each threads quiet_zero) 0 wrong_copies → ⊥)
    × (AreAdequate of_lock (memories_of of_lock quiet_each threads (by 1 Label.Quiet ∷ quiet_zero)) 0 wrong_copies → ⊥)
wrong_copies_go_on = (refl, refl, refl, λ are. one_isnt_zero (are.1 0), λ are. one_isnt_zero (are.1 0))

-- (`alike`) of a list that is no run, in which each makes the same turns: 1 takes the lock before 0 gives it back
abbrev taken_after_the_give : List Turn
taken_after_the_give = by 1 (Label.Take the_lock Mode.Excl 1) ∷ by 0 (Label.Give the_lock) ∷ held_by_zero

abbrev taken_before_the_give : List Turn
taken_before_the_give = by 0 (Label.Give the_lock) ∷ by 1 (Label.Take the_lock Mode.Excl 1) ∷ held_by_zero

abbrev copies_that_took : List OwnTurn
copies_that_took = record { label = Label.Take the_lock Mode.Excl 1; copy = zeros } ∷ record { label = Label.Ask the_lock Mode.Excl; copy = zeros } ∷ []

copies_in_no_run :
    HasCopies of_lock gives_and_takes threads taken_after_the_give 1 copies_that_took
    × ((p : ℕ) → labels_of p taken_before_the_give ≡ labels_of p taken_after_the_give)
    × IsNoRun of_lock gives_and_takes taken_before_the_give
copies_in_no_run = (
  copies of_lock gives_and_takes taken_after_the_give 1 copies_that_took refl refl refl refl ((tt, λ cell. refl), record { inside = λ cell is. refl; outside = λ cell is. refl }),
  λ p. same p,
  refl,
)
  where
    same : (p : ℕ) → labels_of p taken_before_the_give ≡ labels_of p taken_after_the_give
    same p = grind arith

-- (`alike`) of a run with other labels, (`other`) of an own turn, (`own`) of another's: the labels aren't those of the copies
copies_of_other_labels :
    HasCopies of_lock quiet_each threads quiet_zero 0 quiet_copies
    × HasCopies of_lock quiet_each threads [] 0 []
    × (labels_of 0 [] ≢ own_labels quiet_copies)
    × (labels_of 0 quiet_zero ≢ own_labels [])
    × (labels_of 0 (by 1 Label.Quiet ∷ []) ≢ own_labels quiet_copies)
copies_of_other_labels = (
  copies of_lock quiet_each quiet_zero 0 quiet_copies refl refl refl refl (tt, λ cell. refl),
  copies of_lock quiet_each [] 0 [] refl refl refl refl tt,
  others_are [] (own_labels quiet_copies) refl,
  others_are (labels_of 0 quiet_zero) [] refl,
  others_are [] (own_labels quiet_copies) refl,
)

-- (`alike`) so it is also where the other run leaves the same state and versions: threads that stay as they are by a quiet turn
abbrev steady_want : ℕ → Want
steady_want place = if place == 0 then Want.Quiet else Want.Over

abbrev steady_after : ℕ → Label → ℕ
steady_after place (Label.Stop fault line) = 1
steady_after place Label.End = 1
steady_after place _ = place

abbrev steady : Semantics ℕ
steady = record { want = steady_want; text = λ place. []; after = steady_after }

abbrev at_zero : ℕ → ℕ
at_zero p = 0

module _ (place : ℕ) where
  steady_takes : (lock : Lock) (mode : Mode) → steady_want place ≢ Want.Take lock mode
  steady_takes lock mode e = grind arith

  steady_crosses : (bar : Bar) → steady_want place ≢ Want.Cross bar
  steady_crosses bar e = grind arith

  steady_asks : (lock : Lock) (mode : Mode) (line : ℕ) → steady_want place ≢ Want.Ask lock mode line
  steady_asks lock mode line e = grind arith

  steady_arrives : (bar : Bar) → steady_want place ≢ Want.Arrive bar
  steady_arrives bar e = grind arith

steady_asks_first : AsksFirst steady 0
steady_asks_first = record {
  no_take = steady_takes 0;
  no_cross = steady_crosses 0;
  takes = λ labels lock mode line e. absurd (steady_asks (state_after steady 0 labels) lock mode line e);
  crosses = λ labels bar e. absurd (steady_arrives (state_after steady 0 labels) bar e);
  took = λ labels answer label lock mode done e. absurd (steady_takes (steady_after (state_after steady 0 labels) label) lock mode e);
  crossed = λ labels answer label bar done e. absurd (steady_crosses (steady_after (state_after steady 0 labels) label) bar e);
  stops = λ labels fault line. refl;
  ends = λ labels. refl;
}

quiet_stays : (s : PlainState ℕ) → s ≡ plain_after steady s 0 Label.Quiet
quiet_stays s = sym (rw (update_back s.threads 0, update_back s.held 0, update_back s.arrived 0, update_back s.crossed 0) refl)

copies_of_steady_threads :
    HasCopies of_lock at_zero steady quiet_zero 0 quiet_copies
    × IsPlainRun of_lock at_zero steady []
    × (after_run at_zero steady [] ≡ after_run at_zero steady quiet_zero)
    × ((lock version : ℕ) → SameAt of_lock lock (memory_at at_zero steady [] lock version) (memory_at at_zero steady quiet_zero lock version))
    × (labels_of 0 [] ≢ own_labels quiet_copies)
copies_of_steady_threads = (
  record {
    ask_first = record { asks = λ p lt. steady_asks_first };
    is_run = (tt, record { is_processor = omega arith; is_label = refl });
    is_processor = omega arith;
    same_labels = refl;
    adequate = (tt, λ cell. refl);
  },
  tt,
  quiet_stays (after_run at_zero steady []),
  λ lock version cell is. refl,
  others_are [] (own_labels quiet_copies) refl,
)

-- (`other`, `own`) of a turn that its processor doesn't make: there is no run
copies_after_no_turn :
    HasCopies of_lock quiet_each threads [] 0 []
    × IsNoRun of_lock quiet_each (by 1 Label.End ∷ [])
    × IsNoRun of_lock quiet_each (by 0 Label.End ∷ [])
copies_after_no_turn = (copies of_lock quiet_each [] 0 [] refl refl refl refl tt, refl, refl)

-- (`own`) of a copy that its turn doesn't renew as it should: 0 stores 5, and its copy keeps the zero
abbrev holds_and_stores : ℕ → List Want
holds_and_stores = of_two (Want.Ask the_lock Mode.Excl 1 ∷ Want.Take the_lock Mode.Excl ∷ store_five) []

abbrev asked_and_holds : List Turn
asked_and_holds = by 0 (Label.Take the_lock Mode.Excl 0) ∷ by 0 (Label.Ask the_lock Mode.Excl) ∷ []

abbrev copies_that_hold : List OwnTurn
copies_that_hold = record { label = Label.Take the_lock Mode.Excl 0; copy = zeros } ∷ record { label = Label.Ask the_lock Mode.Excl; copy = zeros } ∷ []

store_that_sets_nothing : let after = by 0 (Label.Store the_cell (pos 5)) ∷ asked_and_holds in
    HasCopies of_lock holds_and_stores threads asked_and_holds 0 copies_that_hold
    × IsMade of_lock holds_and_stores after
    × (AreAdequate of_lock (memories_of of_lock holds_and_stores threads after) 0 (record { label = Label.Store the_cell (pos 5); copy = zeros } ∷ copies_that_hold) → ⊥)
store_that_sets_nothing = (
  copies of_lock holds_and_stores asked_and_holds 0 copies_that_hold refl refl refl refl ((tt, λ cell. refl), record { inside = λ cell is. refl; outside = λ cell is. refl }),
  refl,
  λ are. none (are.1 0),
)
  where
    none : pos 0 ≢ pos 5
    none e = cc e
