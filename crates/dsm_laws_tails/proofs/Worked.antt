-- Threads and turns for worked runs, and what is computed of them; what that means is proved in Checks.antt. A thread is a
-- list of what it is still to do.
use Rattle.std.specs.Prelude.{◌≡◌, ℕ, Bool, true, false, ◌&&◌, ◌==◌, not, nat_lt, if◌then◌else◌, List, [], ◌∷◌, ◌++◌, map, Option, Some, None}
use Rattle.std.specs.List.{list_all}
use Rattle.std.proofs.Common.{refl}
use Rattle.dsm_base.specs.declared.names.Cell.{Cell}
use Rattle.dsm_base.specs.declared.names.Lock.{Lock}
use Rattle.dsm_base.specs.declared.names.Bar.{Bar}
use Rattle.dsm_base.specs.declared.names.Mode.{Mode}
use Rattle.dsm_base.specs.declared.label.Label.{Label}
use Rattle.dsm_base.specs.declared.label.Want.{Want}
use Rattle.dsm_base.specs.declared.setup.Object.{Object}
use Rattle.dsm_base.specs.declared.setup.Setup.{Setup}
use Rattle.dsm_base.specs.Family.{all_below}
use Rattle.dsm_base.specs.Threads.{Semantics}
use Rattle.dsm_base.specs.Plain.{Turn, after_run, plain_turn}
use Rattle.dsm_laws_runs.specs.Epochs.{wants_cross}
use Rattle.dsm_laws_runs.specs.OwnPart.{held_of, arrived_of}
use Rattle.dsm_laws_runs.specs.Swap.{rests_on}

abbrev pub next_want : List Want → Want
next_want [] = Want.Over
next_want (want ∷ others) = want

abbrev pub rest : List Want → List Want
rest [] = []
rest (want ∷ others) = others

-- behind a stop and an end there is nothing more to do
abbrev pub after_label : List Want → Label → List Want
after_label state (Label.Stop fault line) = []
after_label state Label.End = []
after_label state _ = rest state

abbrev pub threads : Semantics (List Want)
threads = record { want = next_want; text = λ state. []; after = after_label }

abbrev pub the_lock : Lock
the_lock = record { 0 = 0 }

abbrev pub the_bar : Bar
the_bar = record { 0 = 0 }

abbrev pub the_cell : Cell
the_cell = record { 0 = 0 }

-- two processors, and one cell that is bound to the lock
abbrev pub of_lock : Setup
of_lock = record {
  procs = 2;
  locks = 1;
  bars = 0;
  cells = 1;
  bindings = record { object = Object.Lock the_lock; first = the_cell; count = 1; owner = 0; phase = 0; period = 0 } ∷ [];
  kept = refl;
}

-- one that is bound to the barrier, and is processor 0's in its even epochs
abbrev pub in_even_epochs : Setup
in_even_epochs = record {
  procs = 2;
  locks = 0;
  bars = 1;
  cells = 1;
  bindings = record { object = Object.Bar the_bar; first = the_cell; count = 1; owner = 0; phase = 0; period = 2 } ∷ [];
  kept = refl;
}

-- and the same in its odd ones
abbrev pub in_odd_epochs : Setup
in_odd_epochs = record {
  procs = 2;
  locks = 0;
  bars = 1;
  cells = 1;
  bindings = record { object = Object.Bar the_bar; first = the_cell; count = 1; owner = 0; phase = 1; period = 2 } ∷ [];
  kept = refl;
}

-- 0 has the one, 1 the other, and all else have nothing
abbrev pub of_two : {A : Type 0} → List A → List A → ℕ → List A
of_two here there p = if p == 0 then here else (if p == 1 then there else [])

abbrev pub by : ℕ → Label → Turn
by p label = record { proc = p; label = label }

-- Runs: each turn is the one that its processor makes.

abbrev pub shown_in : Setup → (ℕ → List Want) → List Turn → Turn → Option Label
shown_in setup first before turn =
    if nat_lt turn.proc setup.procs then plain_turn setup threads (after_run first threads before) turn.proc else None

-- what processors of the setup show at each turn
abbrev pub shown : Setup → (ℕ → List Want) → List Turn → List (Option Label)
shown setup first [] = []
shown setup first (turn ∷ before) = shown_in setup first before turn ∷ shown setup first before

abbrev pub told : List Turn → List (Option Label)
told run = map (λ turn. Some turn.label) run

abbrev pub IsMade : Setup → (ℕ → List Want) → List Turn → Type 0
IsMade setup first run = shown setup first run ≡ told run

-- whether two labels are one, but for values and texts
abbrev pub are_alike : Label → Label → Bool
are_alike Label.Quiet Label.Quiet = true
are_alike (Label.Load cell value) (Label.Load other new) = cell.0 == other.0
are_alike (Label.Store cell value) (Label.Store other new) = cell.0 == other.0
are_alike (Label.Ask lock mode) (Label.Ask other new) = lock.0 == other.0
are_alike (Label.Take lock mode version) (Label.Take other new made) = (lock.0 == other.0) && (version == made)
are_alike (Label.Give lock) (Label.Give other) = lock.0 == other.0
are_alike (Label.Arrive bar) (Label.Arrive other) = bar.0 == other.0
are_alike (Label.Cross bar epoch) (Label.Cross other new) = (bar.0 == other.0) && (epoch == new)
are_alike (Label.Line text) (Label.Line other) = true
are_alike Label.End Label.End = true
are_alike (Label.Stop fault line) (Label.Stop other new) = line == new
are_alike _ _ = false

abbrev pub may_be : Label → Option Label → Bool
may_be label None = false
may_be label (Some shows) = are_alike shows label

-- whether the turns may be those that the processors make
abbrev pub may_be_made : Setup → (ℕ → List Want) → List Turn → Bool
may_be_made setup first [] = true
may_be_made setup first (turn ∷ before) = may_be turn.label (shown_in setup first before turn) && may_be_made setup first before

-- they may not: some turn is another than its processor makes, or none
abbrev pub IsNoRun : Setup → (ℕ → List Want) → List Turn → Type 0
IsNoRun setup first run = may_be_made setup first run ≡ false

-- Threads that ask first.

abbrev pub same_mode : Mode → Mode → Bool
same_mode Mode.Shared Mode.Shared = true
same_mode Mode.Excl Mode.Excl = true
same_mode _ _ = false

abbrev pub is_take_of : Lock → Mode → Want → Bool
is_take_of lock mode (Want.Take taken other) = (taken.0 == lock.0) && same_mode other mode
is_take_of lock mode _ = false

-- whether a want is neither a take nor a crossing
abbrev pub is_other : Want → Bool
is_other (Want.Take lock mode) = false
is_other (Want.Cross bar) = false
is_other _ = true

-- whether a want may come right after another
abbrev pub may_follow : Want → Want → Bool
may_follow (Want.Ask lock mode line) next = is_take_of lock mode next
may_follow (Want.Arrive bar) next = wants_cross bar.0 next
may_follow _ next = is_other next

abbrev pub are_in_order : List Want → Bool
are_in_order [] = true
are_in_order (want ∷ others) = may_follow want (next_want others) && are_in_order others

abbrev pub ask_first : List Want → Bool
ask_first wants = is_other (next_want wants) && are_in_order wants

abbrev pub all_ask : Setup → (ℕ → List Want) → Bool
all_ask setup first = all_below setup.procs (λ p. ask_first (first p))

abbrev pub AllAsk : Setup → (ℕ → List Want) → Type 0
AllAsk setup first = all_ask setup first ≡ true

-- Independent tails.

abbrev pub rests_none : List Label → Label → List Label → Bool
rests_none labels one others = list_all (λ other. not (rests_on (held_of labels) (arrived_of labels) one other)) others

-- whether no label of another rests on one of a tail, whose processor had made these before it
abbrev pub are_free : List Label → List Label → List Label → Bool
are_free own [] others = true
are_free own (one ∷ older) others = rests_none (older ++ own) one others && are_free own older others
