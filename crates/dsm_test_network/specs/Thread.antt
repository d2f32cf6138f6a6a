-- What a small thread wants, and what a label makes of it.
use Rattle.std.specs.Prelude.{ℕ, ℤ, pos, ◌==◌, if◌then◌else◌, List, codes}
use Rattle.std.specs.Ordering.{int_eq}
use Rattle.dsm_base.specs.declared.names.Mode.{Mode}
use Rattle.dsm_base.specs.declared.label.Want.{Want}
use Rattle.dsm_base.specs.declared.label.Label.{Label}
use Rattle.dsm_base.specs.Threads.{Semantics, Kind}
use Rattle.dsm_test_network.specs.declared.thread.Role.{Role}
use Rattle.dsm_test_network.specs.declared.thread.Place.{Place}
use Rattle.dsm_test_network.specs.declared.thread.Thread.{Thread}
use Rattle.dsm_test_network.specs.declared.thread.Threads.{Threads}

-- how a role holds the lock
abbrev pub mode_of : Role → Mode
mode_of (Role.Writes cell value) = Mode.Excl
mode_of (Role.Reads cell) = Mode.Shared
mode_of Role.Passes = Mode.Excl

-- where a thread stands that has taken the lock
abbrev pub place_taken : Role → Place
place_taken (Role.Writes cell value) = Place.Working
place_taken (Role.Reads cell) = Place.Working
place_taken Role.Passes = Place.Giving

-- where a thread stands that has loaded or stored
abbrev pub place_worked : Role → Place
place_worked (Role.Writes cell value) = Place.Giving
place_worked (Role.Reads cell) = Place.Printing
place_worked Role.Passes = Place.Giving

-- where the thread stands after a label
abbrev pub next_place : Role → Place → Place
next_place role Place.Asking = Place.Taking
next_place role Place.Taking = place_taken role
next_place role Place.Working = place_worked role
next_place role Place.Printing = Place.Giving
next_place role Place.Giving = Place.Ending
next_place role Place.Ending = Place.Over
next_place role Place.Over = Place.Over

-- what a thread wants under the lock
abbrev pub want_worked : Role → Want
want_worked (Role.Writes cell value) = Want.Store cell value 2
want_worked (Role.Reads cell) = Want.Load cell 2
want_worked Role.Passes = Want.Quiet

-- what the thread wants at a place
abbrev pub want_at : Role → Place → Want
want_at role Place.Asking = Want.Ask record { 0 = 0 } (mode_of role) 1
want_at role Place.Taking = Want.Take record { 0 = 0 } (mode_of role)
want_at role Place.Working = want_worked role
want_at role Place.Printing = Want.Line
want_at role Place.Giving = Want.Give record { 0 = 0 } 3
want_at role Place.Ending = Want.End
want_at role Place.Over = Want.Over

-- the thread after a label: it keeps what it loaded
abbrev pub after_label : Thread → Label → Thread
after_label thread (Label.Load cell value) = record thread { place = next_place thread.role thread.place; loaded = value }
after_label thread Label.End = record thread { place = Place.Over }
after_label thread (Label.Stop fault line) = record thread { place = Place.Over }
after_label thread _ = record thread { place = next_place thread.role thread.place }

-- the text that a value is printed as
abbrev pub text_of : ℤ → List ℕ
text_of value =
    if int_eq value (pos 0) then codes "0" else (if int_eq value (pos 5) then codes "5" else codes "another")

-- how such threads go on
abbrev pub semantics : Semantics Thread
semantics = record {
  want = λ thread. want_at thread.role thread.place;
  text = λ thread. text_of thread.loaded;
  after = after_label;
}

-- such a thread is its own state
abbrev pub thread_kind : Kind Thread Thread
thread_kind = record { state = λ thread. thread; semantics = semantics }

-- a thread of this role before its first step
abbrev pub first : Role → Thread
first role = record { role = role; place = Place.Asking; loaded = pos 0 }

-- the first state of the thread of each processor
abbrev pub first_by : Threads → ℕ → Thread
first_by maker me = first (if me == maker.one.0 then maker.role else maker.others)

-- the same, whatever the number of processors
abbrev pub first_in : Threads → ℕ → ℕ → Thread
first_in maker procs me = first_by maker me
