-- Worked pairs of neighbouring turns, one of each kind, computed by the definitions: the name of each tells the earlier
-- turn and then the later one.
use Rattle.std.specs.Prelude.{◌≡◌, ℕ, pos, true, List, [], ◌∷◌, ◌++◌, None}
use Rattle.std.proofs.Common.{refl}
use Rattle.dsm_base.specs.declared.names.Cell.{Cell}
use Rattle.dsm_base.specs.declared.names.Lock.{Lock}
use Rattle.dsm_base.specs.declared.names.Bar.{Bar}
use Rattle.dsm_base.specs.declared.names.Mode.{Mode}
use Rattle.dsm_base.specs.declared.names.Fault.{Fault}
use Rattle.dsm_base.specs.declared.label.Label.{Label}
use Rattle.dsm_base.specs.declared.label.Want.{Want}
use Rattle.dsm_base.specs.declared.setup.Object.{Object}
use Rattle.dsm_base.specs.declared.setup.Piece.{Piece}
use Rattle.dsm_base.specs.declared.setup.Setup.{Setup}
use Rattle.dsm_base.specs.Plain.{Turn, after_run, plain_turn}
use Rattle.dsm_laws_runs.specs.Swap.{rests_on, clashes, IsFree}
use Rattle.dsm_laws_tails.specs.Fronts.{turns_by}
use Rattle.dsm_laws_tails.proofs.Worked.{threads, in_even_epochs, of_two, by, IsMade, all_ask}

abbrev lock : ℕ → Lock
lock n = record { 0 = n }

abbrev bar : ℕ → Bar
bar n = record { 0 = n }

abbrev cell : ℕ → Cell
cell n = record { 0 = n }

abbrev lock_piece : ℕ → Piece
lock_piece n = record { object = Object.Lock (lock n); first = cell n; count = 1; owner = 0; phase = 0; period = 0 }

-- a cell of barrier 0, its owner's in the epochs of a phase
abbrev bar_piece : ℕ → ℕ → ℕ → ℕ → Piece
bar_piece n owner phase period = record { object = Object.Bar (bar 0); first = cell n; count = 1; owner = owner; phase = phase; period = period }

-- two locks, two barriers and five cells: 0 and 1 are each bound to the lock of its number, the others to barrier 0: of these 2 is
-- processor 0's in even epochs, 3 is processor 0's in odd ones, and 4 is processor 1's in all
abbrev setup : Setup
setup = record {
  procs = 2;
  locks = 2;
  bars = 2;
  cells = 5;
  bindings = lock_piece 0 ∷ lock_piece 1 ∷ bar_piece 2 0 0 2 ∷ bar_piece 3 0 1 2 ∷ bar_piece 4 1 0 1 ∷ [];
  kept = refl;
}

-- the threads ask first, the later turn doesn't rest on the earlier one, and both orders are made
abbrev MayChange : (ℕ → List Want) → List Turn → Turn → Turn → Type 0
MayChange first before earlier later =
    (all_ask setup first ≡ true) × IsFree first threads before earlier later × IsMade setup first (later ∷ earlier ∷ before) × IsMade setup first (earlier ∷ later ∷ before)

-- the later turn rests on the earlier one, and can't be made without it
abbrev IsBound : (ℕ → List Want) → List Turn → Turn → Turn → Type 0
IsBound first before earlier later =
    (all_ask setup first ≡ true)
    × (rests_on ((after_run first threads before).held earlier.proc) ((after_run first threads before).arrived earlier.proc) earlier.label later.label ≡ true)
    × IsMade setup first (later ∷ earlier ∷ before)
    × (plain_turn setup threads (after_run first threads before) later.proc ≡ None)

-- a thread's turn, and what it wants and makes up to there; the newest label first
record Deed : Type 0 where
  wants : List Want
  made : List Label
  label : Label

-- 0 and 1 are both ready
abbrev Free : Deed → Deed → Type 0
Free one other = MayChange (of_two one.wants other.wants) (turns_by 1 other.made ++ turns_by 0 one.made) (by 0 one.label) (by 1 other.label)

-- What touches nothing, and an ask.

abbrev alone : Want → Label → Deed
alone want label = record { wants = want ∷ []; made = []; label = label }

abbrev quiet : Deed
quiet = alone Want.Quiet Label.Quiet

abbrev prints : Deed
prints = alone Want.Line (Label.Line [])

abbrev ends : Deed
ends = alone Want.End Label.End

abbrev stops : Deed
stops = alone (Want.Stop Fault.Unbound 1) (Label.Stop Fault.Unbound 1)

abbrev asks : ℕ → Deed
asks n = record { wants = Want.Ask (lock n) Mode.Excl 1 ∷ Want.Take (lock n) Mode.Excl ∷ []; made = []; label = Label.Ask (lock n) Mode.Excl }

-- Locks: a thread asks for one, takes it, and does one thing more.

abbrev takes : Mode → ℕ → Deed
takes mode n = record {
  wants = Want.Ask (lock n) mode 1 ∷ Want.Take (lock n) mode ∷ [];
  made = Label.Ask (lock n) mode ∷ [];
  label = Label.Take (lock n) mode 0;
}

abbrev holds : Mode → ℕ → Want → Label → Deed
holds mode n want label = record {
  wants = Want.Ask (lock n) mode 1 ∷ Want.Take (lock n) mode ∷ want ∷ [];
  made = Label.Take (lock n) mode 0 ∷ Label.Ask (lock n) mode ∷ [];
  label = label;
}

abbrev loads : Mode → ℕ → Deed
loads mode n = holds mode n (Want.Load (cell n) 1) (Label.Load (cell n) (pos 0))

abbrev stores : ℕ → Deed
stores n = holds Mode.Excl n (Want.Store (cell n) (pos 5) 1) (Label.Store (cell n) (pos 5))

abbrev gives : Mode → ℕ → Deed
gives mode n = holds mode n (Want.Give (lock n) 1) (Label.Give (lock n))

-- Barriers: a thread comes to one; where one is to cross it, both have come, and the other has crossed and goes on.

abbrev arrives : ℕ → Deed
arrives n = record { wants = Want.Arrive (bar n) ∷ Want.Cross (bar n) ∷ []; made = []; label = Label.Arrive (bar n) }

abbrev meeting : List Want
meeting = Want.Arrive (bar 0) ∷ Want.Cross (bar 0) ∷ []

abbrev both_came : List Turn
both_came = by 1 (Label.Arrive (bar 0)) ∷ by 0 (Label.Arrive (bar 0)) ∷ []

abbrev FreeCross : Deed → Type 0
FreeCross other = MayChange (of_two meeting (meeting ++ other.wants)) (turns_by 1 other.made ++ (by 1 (Label.Cross (bar 0) 1) ∷ both_came)) (by 0 (Label.Cross (bar 0) 1)) (by 1 other.label)

abbrev CrossFree : Deed → Type 0
CrossFree one = MayChange (of_two (meeting ++ one.wants) meeting) (turns_by 0 one.made ++ (by 0 (Label.Cross (bar 0) 1) ∷ both_came)) (by 0 one.label) (by 1 (Label.Cross (bar 0) 1))

-- Cells of barrier 0: a thread loads one, or stores to one of its own.

abbrev bar_loads : ℕ → Deed
bar_loads n = alone (Want.Load (cell n) 1) (Label.Load (cell n) (pos 0))

abbrev bar_stores : ℕ → Deed
bar_stores n = alone (Want.Store (cell n) (pos 5) 1) (Label.Store (cell n) (pos 5))

-- What touches nothing beside any other, as the earlier and as the later turn.

quiet_line : Free quiet prints
quiet_line = (refl, refl, refl, refl)

line_quiet : Free prints quiet
line_quiet = (refl, refl, refl, refl)

quiet_load : Free quiet (loads Mode.Excl 1)
quiet_load = (refl, refl, refl, refl)

load_quiet : Free (loads Mode.Excl 0) quiet
load_quiet = (refl, refl, refl, refl)

line_store : Free prints (stores 1)
line_store = (refl, refl, refl, refl)

store_line : Free (stores 0) prints
store_line = (refl, refl, refl, refl)

end_arrive : Free ends (arrives 0)
end_arrive = (refl, refl, refl, refl)

arrive_end : Free (arrives 0) ends
arrive_end = (refl, refl, refl, refl)

end_take : Free ends (takes Mode.Excl 0)
end_take = (refl, refl, refl, refl)

give_end : Free (gives Mode.Excl 0) ends
give_end = (refl, refl, refl, refl)

stop_take : Free stops (takes Mode.Excl 0)
stop_take = (refl, refl, refl, refl)

take_stop : Free (takes Mode.Excl 0) stops
take_stop = (refl, refl, refl, refl)

stop_give : Free stops (gives Mode.Excl 0)
stop_give = (refl, refl, refl, refl)

stop_cross : CrossFree stops
stop_cross = (refl, refl, refl, refl)

cross_stop : FreeCross stops
cross_stop = (refl, refl, refl, refl)

ask_ask : Free (asks 0) (asks 0)
ask_ask = (refl, refl, refl, refl)

ask_take : Free (asks 0) (takes Mode.Excl 0)
ask_take = (refl, refl, refl, refl)

take_ask : Free (takes Mode.Excl 0) (asks 0)
take_ask = (refl, refl, refl, refl)

ask_give : Free (asks 0) (gives Mode.Excl 0)
ask_give = (refl, refl, refl, refl)

give_ask : Free (gives Mode.Excl 0) (asks 0)
give_ask = (refl, refl, refl, refl)

ask_store : Free (asks 0) (stores 0)
ask_store = (refl, refl, refl, refl)

ask_cross : CrossFree (asks 0)
ask_cross = (refl, refl, refl, refl)

cross_ask : FreeCross (asks 0)
cross_ask = (refl, refl, refl, refl)

-- Loads and stores beside any other.

load_load : Free (loads Mode.Shared 0) (loads Mode.Shared 0)
load_load = (refl, refl, refl, refl)

load_load_of_other : Free (loads Mode.Excl 0) (loads Mode.Excl 1)
load_load_of_other = (refl, refl, refl, refl)

load_store_of_other : Free (loads Mode.Excl 0) (stores 1)
load_store_of_other = (refl, refl, refl, refl)

store_load_of_other : Free (stores 0) (loads Mode.Excl 1)
store_load_of_other = (refl, refl, refl, refl)

store_store_of_other : Free (stores 0) (stores 1)
store_store_of_other = (refl, refl, refl, refl)

load_take : Free (loads Mode.Shared 0) (takes Mode.Shared 0)
load_take = (refl, refl, refl, refl)

take_load : Free (takes Mode.Shared 0) (loads Mode.Shared 0)
take_load = (refl, refl, refl, refl)

load_give : Free (loads Mode.Shared 0) (gives Mode.Shared 0)
load_give = (refl, refl, refl, refl)

give_load : Free (gives Mode.Shared 0) (loads Mode.Shared 0)
give_load = (refl, refl, refl, refl)

store_take_of_other : Free (stores 0) (takes Mode.Excl 1)
store_take_of_other = (refl, refl, refl, refl)

take_store_of_other : Free (takes Mode.Excl 0) (stores 1)
take_store_of_other = (refl, refl, refl, refl)

store_give_of_other : Free (stores 0) (gives Mode.Excl 1)
store_give_of_other = (refl, refl, refl, refl)

give_store_of_other : Free (gives Mode.Excl 0) (stores 1)
give_store_of_other = (refl, refl, refl, refl)

load_arrive : Free (loads Mode.Excl 0) (arrives 0)
load_arrive = (refl, refl, refl, refl)

arrive_load : Free (arrives 0) (loads Mode.Excl 0)
arrive_load = (refl, refl, refl, refl)

store_arrive : Free (stores 0) (arrives 0)
store_arrive = (refl, refl, refl, refl)

arrive_store : Free (arrives 0) (stores 0)
arrive_store = (refl, refl, refl, refl)

load_cross : CrossFree (loads Mode.Excl 0)
load_cross = (refl, refl, refl, refl)

cross_load : FreeCross (loads Mode.Excl 0)
cross_load = (refl, refl, refl, refl)

store_cross : CrossFree (stores 0)
store_cross = (refl, refl, refl, refl)

cross_store : FreeCross (stores 0)
cross_store = (refl, refl, refl, refl)

-- Loads and stores of barrier 0's cells beside any other.

bar_load_load : Free (bar_loads 3) (bar_loads 3)
bar_load_load = (refl, refl, refl, refl)

bar_load_load_of_other : Free (bar_loads 2) (bar_loads 3)
bar_load_load_of_other = (refl, refl, refl, refl)

bar_load_store_of_other : Free (bar_loads 2) (bar_stores 4)
bar_load_store_of_other = (refl, refl, refl, refl)

bar_store_load_of_other : Free (bar_stores 2) (bar_loads 3)
bar_store_load_of_other = (refl, refl, refl, refl)

bar_store_store_of_other : Free (bar_stores 2) (bar_stores 4)
bar_store_store_of_other = (refl, refl, refl, refl)

bar_store_lock_store : Free (bar_stores 2) (stores 1)
bar_store_lock_store = (refl, refl, refl, refl)

lock_store_bar_store : Free (stores 0) (bar_stores 4)
lock_store_bar_store = (refl, refl, refl, refl)

bar_store_take : Free (bar_stores 2) (takes Mode.Excl 0)
bar_store_take = (refl, refl, refl, refl)

take_bar_store : Free (takes Mode.Excl 0) (bar_stores 4)
take_bar_store = (refl, refl, refl, refl)

bar_store_give : Free (bar_stores 2) (gives Mode.Excl 0)
bar_store_give = (refl, refl, refl, refl)

give_bar_store : Free (gives Mode.Excl 0) (bar_stores 4)
give_bar_store = (refl, refl, refl, refl)

bar_load_arrive : Free (bar_loads 2) (arrives 0)
bar_load_arrive = (refl, refl, refl, refl)

arrive_bar_load : Free (arrives 0) (bar_loads 3)
arrive_bar_load = (refl, refl, refl, refl)

bar_store_arrive : Free (bar_stores 2) (arrives 0)
bar_store_arrive = (refl, refl, refl, refl)

arrive_bar_store : Free (arrives 0) (bar_stores 4)
arrive_bar_store = (refl, refl, refl, refl)

-- in the epoch that the crossing leads to
bar_load_cross : CrossFree (bar_loads 2)
bar_load_cross = (refl, refl, refl, refl)

cross_bar_load : FreeCross (bar_loads 2)
cross_bar_load = (refl, refl, refl, refl)

bar_store_cross : CrossFree (bar_stores 3)
bar_store_cross = (refl, refl, refl, refl)

cross_bar_store : FreeCross (bar_stores 4)
cross_bar_store = (refl, refl, refl, refl)

-- 0 has stored to its cell before it came, and 1 loads that
cross_load_of_stored :
    MayChange (of_two (Want.Store (cell 2) (pos 5) 1 ∷ meeting) (meeting ++ (Want.Load (cell 2) 1 ∷ []))) (by 1 (Label.Cross (bar 0) 1) ∷ (both_came ++ (by 0 (Label.Store (cell 2) (pos 5)) ∷ [])))
    (by 0 (Label.Cross (bar 0) 1)) (by 1 (Label.Load (cell 2) (pos 5)))
cross_load_of_stored = (refl, refl, refl, refl)

-- Takes and gives of one lock.

take_take : Free (takes Mode.Shared 0) (takes Mode.Shared 0)
take_take = (refl, refl, refl, refl)

take_give : Free (takes Mode.Shared 0) (gives Mode.Shared 0)
take_give = (refl, refl, refl, refl)

give_give : Free (gives Mode.Shared 0) (gives Mode.Shared 0)
give_give = (refl, refl, refl, refl)

give_take : Free (gives Mode.Shared 0) (takes Mode.Shared 0)
give_take = (refl, refl, refl, refl)

-- beside an exclusive hold there are no such neighbours: 1 can't take what 0 has taken so, 0 can't take what 1 holds so,
-- and who holds nothing stops in the place of its give
abbrev both_take : ℕ → List Want
both_take = of_two (takes Mode.Excl 0).wants (gives Mode.Excl 0).wants

-- both have asked, and 0 has taken, or 1
abbrev both_asked : List Turn
both_asked = by 0 (Label.Take (lock 0) Mode.Excl 0) ∷ by 1 (Label.Ask (lock 0) Mode.Excl) ∷ by 0 (Label.Ask (lock 0) Mode.Excl) ∷ []

abbrev one_holds : List Turn
one_holds = by 1 (Label.Take (lock 0) Mode.Excl 0) ∷ by 1 (Label.Ask (lock 0) Mode.Excl) ∷ by 0 (Label.Ask (lock 0) Mode.Excl) ∷ []

exclusive_take_take : (all_ask setup both_take ≡ true) × IsMade setup both_take both_asked × (plain_turn setup threads (after_run both_take threads both_asked) 1 ≡ None)
exclusive_take_take = (refl, refl, refl)

exclusive_take_give : (all_ask setup both_take ≡ true) × IsMade setup both_take one_holds × (plain_turn setup threads (after_run both_take threads one_holds) 0 ≡ None)
exclusive_take_give = (refl, refl, refl)

exclusive_give_give : let first = of_two (gives Mode.Excl 0).wants (Want.Give (lock 0) 7 ∷ []) in
    (all_ask setup first ≡ true)
    × IsMade setup first (by 1 (Label.Stop Fault.NotHeld 7) ∷ by 0 (Label.Give (lock 0)) ∷ turns_by 0 (gives Mode.Excl 0).made)
exclusive_give_give = (refl, refl)

-- 0 gives the lock back, and 1 takes it with a version
abbrev GiveThenTake : Mode → Mode → ℕ → Type 0
GiveThenTake given taken version =
    IsBound (of_two (gives given 0).wants (takes taken 0).wants) (turns_by 0 (gives given 0).made ++ turns_by 1 (takes taken 0).made) (by 0 (Label.Give (lock 0))) (by 1 (Label.Take (lock 0) taken version))

exclusive_give_exclusive_take : GiveThenTake Mode.Excl Mode.Excl 1
exclusive_give_exclusive_take = (refl, refl, refl, refl)

shared_give_exclusive_take : GiveThenTake Mode.Shared Mode.Excl 0
shared_give_exclusive_take = (refl, refl, refl, refl)

exclusive_give_shared_take : GiveThenTake Mode.Excl Mode.Shared 1
exclusive_give_shared_take = (refl, refl, refl, refl)

-- Takes and gives of another lock, or beside a barrier.

take_take_of_other : Free (takes Mode.Excl 0) (takes Mode.Excl 1)
take_take_of_other = (refl, refl, refl, refl)

take_give_of_other : Free (takes Mode.Excl 0) (gives Mode.Excl 1)
take_give_of_other = (refl, refl, refl, refl)

give_take_of_other : Free (gives Mode.Excl 0) (takes Mode.Excl 1)
give_take_of_other = (refl, refl, refl, refl)

give_give_of_other : Free (gives Mode.Excl 0) (gives Mode.Excl 1)
give_give_of_other = (refl, refl, refl, refl)

take_arrive : Free (takes Mode.Excl 0) (arrives 0)
take_arrive = (refl, refl, refl, refl)

arrive_take : Free (arrives 0) (takes Mode.Excl 0)
arrive_take = (refl, refl, refl, refl)

give_arrive : Free (gives Mode.Excl 0) (arrives 0)
give_arrive = (refl, refl, refl, refl)

arrive_give : Free (arrives 0) (gives Mode.Excl 0)
arrive_give = (refl, refl, refl, refl)

take_cross : CrossFree (takes Mode.Excl 0)
take_cross = (refl, refl, refl, refl)

cross_take : FreeCross (takes Mode.Excl 0)
cross_take = (refl, refl, refl, refl)

give_cross : CrossFree (gives Mode.Excl 0)
give_cross = (refl, refl, refl, refl)

cross_give : FreeCross (gives Mode.Excl 0)
cross_give = (refl, refl, refl, refl)

-- Arrivals and crossings of one barrier.

arrive_arrive : Free (arrives 0) (arrives 0)
arrive_arrive = (refl, refl, refl, refl)

cross_cross : MayChange (of_two meeting meeting) both_came (by 0 (Label.Cross (bar 0) 1)) (by 1 (Label.Cross (bar 0) 1))
cross_cross = (refl, refl, refl, refl)

cross_arrive : FreeCross (arrives 0)
cross_arrive = (refl, refl, refl, refl)

-- the arrival is for the next epoch
later_arrive_cross : CrossFree (arrives 0)
later_arrive_cross = (refl, refl, refl, refl)

-- it is for the epoch that the other crosses into
arrive_cross : IsBound (of_two meeting meeting) (by 1 (Label.Arrive (bar 0)) ∷ []) (by 0 (Label.Arrive (bar 0))) (by 1 (Label.Cross (bar 0) 1))
arrive_cross = (refl, refl, refl, refl)

-- Arrivals and crossings of another barrier.

arrive_arrive_of_other : Free (arrives 0) (arrives 1)
arrive_arrive_of_other = (refl, refl, refl, refl)

arrive_cross_of_other : CrossFree (arrives 1)
arrive_cross_of_other = (refl, refl, refl, refl)

cross_arrive_of_other : FreeCross (arrives 1)
cross_arrive_of_other = (refl, refl, refl, refl)

-- two crossings here need threads that come to both barriers before they cross one
abbrev come_to_both : ℕ → List Want
come_to_both n = Want.Arrive (bar 0) ∷ Want.Arrive (bar 1) ∷ Want.Cross (bar n) ∷ []

abbrev all_came : List Turn
all_came = by 1 (Label.Arrive (bar 1)) ∷ by 1 (Label.Arrive (bar 0)) ∷ by 0 (Label.Arrive (bar 1)) ∷ by 0 (Label.Arrive (bar 0)) ∷ []

cross_cross_of_other :
    let first = of_two (come_to_both 0) (come_to_both 1) in
    IsFree first threads all_came (by 0 (Label.Cross (bar 0) 1)) (by 1 (Label.Cross (bar 1) 1))
    × IsMade setup first (by 1 (Label.Cross (bar 1) 1) ∷ by 0 (Label.Cross (bar 0) 1) ∷ all_came)
    × IsMade setup first (by 0 (Label.Cross (bar 0) 1) ∷ by 1 (Label.Cross (bar 1) 1) ∷ all_came)
cross_cross_of_other = (refl, refl, refl)

-- Clashes: the two would use one cell, and one of them stores to it. In the place of the later one its thread stops, as it may not.

abbrev StopsInstead : Setup → List Want → List Want → List Turn → Label → Label → Type 0
StopsInstead setup zero one before earlier later =
    (all_ask setup (of_two zero one) ≡ true)
    × (clashes earlier later ≡ true)
    × IsMade setup (of_two zero one) (by 1 (Label.Stop Fault.Unbound 7) ∷ by 0 earlier ∷ before)

abbrev load_it : List Want
load_it = Want.Load (cell 0) 7 ∷ []

abbrev store_it : List Want
store_it = Want.Store (cell 0) (pos 1) 7 ∷ []

store_then_load : StopsInstead setup (stores 0).wants load_it (turns_by 0 (stores 0).made) (stores 0).label (Label.Load (cell 0) (pos 5))
store_then_load = (refl, refl, refl)

load_then_store : StopsInstead setup (loads Mode.Shared 0).wants store_it (turns_by 0 (loads Mode.Shared 0).made) (loads Mode.Shared 0).label (Label.Store (cell 0) (pos 1))
load_then_store = (refl, refl, refl)

store_then_store : StopsInstead setup (stores 0).wants store_it (turns_by 0 (stores 0).made) (stores 0).label (Label.Store (cell 0) (pos 1))
store_then_store = (refl, refl, refl)

-- so it is where the other holds the lock too, as both then hold it shared
shared_load_then_store :
    StopsInstead setup (loads Mode.Shared 0).wants ((takes Mode.Shared 0).wants ++ store_it) (turns_by 1 (gives Mode.Shared 0).made ++ turns_by 0 (loads Mode.Shared 0).made) (loads Mode.Shared 0).label
    (Label.Store (cell 0) (pos 1))
shared_load_then_store = (refl, refl, refl)

-- and with a barrier's cell, in the owner's epochs
bar_store_then_load : StopsInstead in_even_epochs (Want.Store (cell 0) (pos 5) 1 ∷ []) load_it [] (Label.Store (cell 0) (pos 5)) (Label.Load (cell 0) (pos 5))
bar_store_then_load = (refl, refl, refl)

bar_load_then_store : StopsInstead in_even_epochs (Want.Load (cell 0) 1 ∷ []) store_it [] (Label.Load (cell 0) (pos 0)) (Label.Store (cell 0) (pos 1))
bar_load_then_store = (refl, refl, refl)

-- in the other epochs nobody stores, not even the owner, while others load
bar_load_then_owners_store :
    (all_ask in_even_epochs (of_two (meeting ++ store_it) (meeting ++ load_it)) ≡ true)
    × (clashes (Label.Load (cell 0) (pos 0)) (Label.Store (cell 0) (pos 1)) ≡ true)
    × IsMade in_even_epochs (of_two (meeting ++ store_it) (meeting ++ load_it))
    (by 0 (Label.Stop Fault.Unbound 7) ∷ by 1 (Label.Load (cell 0) (pos 0)) ∷ by 1 (Label.Cross (bar 0) 1) ∷ by 0 (Label.Cross (bar 0) 1) ∷ both_came)
bar_load_then_owners_store = (refl, refl, refl)
