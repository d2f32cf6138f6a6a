-- What a thread that crosses a barrier wants, and what a label makes of it.
use Rattle.std.specs.Prelude.{ℕ, ℤ, pos, ◌+◌, nat_lt, if◌then◌else◌, List, codes}
use Rattle.std.specs.Ordering.{int_eq}
use Rattle.dsm_base.specs.declared.label.Want.{Want}
use Rattle.dsm_base.specs.declared.label.Label.{Label}
use Rattle.dsm_base.specs.Threads.{Semantics, Kind}
use Rattle.dsm_test_network.specs.declared.crossing.Course.{Course}
use Rattle.dsm_test_network.specs.declared.crossing.Stage.{Stage}
use Rattle.dsm_test_network.specs.declared.crossing.Cells.{Cells}
use Rattle.dsm_test_network.specs.declared.crossing.Crosser.{Crosser}
use Rattle.dsm_test_network.specs.declared.crossing.Crossers.{Crossers}

-- ten times a value that some thread stores first
abbrev pub tenfold : ℤ → ℤ
tenfold value =
    if int_eq value (pos 1) then pos 10 else (if int_eq value (pos 2) then pos 20 else (if int_eq value (pos 3) then pos 30 else pos 0))

-- where the thread stands after a label
abbrev pub next_stage : Stage → Stage
next_stage Stage.Storing = Stage.Arriving
next_stage Stage.Arriving = Stage.Crossing
next_stage Stage.Crossing = Stage.Loading
next_stage Stage.Loading = Stage.Copying
next_stage Stage.Copying = Stage.ArrivingAgain
next_stage Stage.ArrivingAgain = Stage.CrossingAgain
next_stage Stage.CrossingAgain = Stage.LoadingAgain
next_stage Stage.LoadingAgain = Stage.Printing
next_stage Stage.Printing = Stage.Ending
next_stage Stage.ArrivingOnce = Stage.CrossingOnce
next_stage Stage.CrossingOnce = Stage.StoringLate
next_stage Stage.StoringLate = Stage.Ending
next_stage Stage.Ending = Stage.Over
next_stage Stage.Over = Stage.Over

-- what the thread wants at a stage
abbrev pub want_at : Crosser → Stage → Want
want_at crosser Stage.Storing = Want.Store crosser.cells.own crosser.value 11
want_at crosser Stage.Arriving = Want.Arrive record { 0 = 0 }
want_at crosser Stage.Crossing = Want.Cross record { 0 = 0 }
want_at crosser Stage.Loading = Want.Load crosser.cells.next 11
want_at crosser Stage.Copying = Want.Store crosser.cells.copy (tenfold crosser.loaded) 11
want_at crosser Stage.ArrivingAgain = Want.Arrive record { 0 = 0 }
want_at crosser Stage.CrossingAgain = Want.Cross record { 0 = 0 }
want_at crosser Stage.LoadingAgain = Want.Load crosser.cells.next_copy 11
want_at crosser Stage.Printing = Want.Line
want_at crosser Stage.ArrivingOnce = Want.Arrive record { 0 = 0 }
want_at crosser Stage.CrossingOnce = Want.Cross record { 0 = 0 }
want_at crosser Stage.StoringLate = Want.Store crosser.cells.own crosser.value 6
want_at crosser Stage.Ending = Want.End
want_at crosser Stage.Over = Want.Over

-- the thread after a label: it keeps what it loaded
abbrev pub after_crossing : Crosser → Label → Crosser
after_crossing crosser (Label.Load cell value) = record crosser { stage = next_stage crosser.stage; loaded = value }
after_crossing crosser Label.End = record crosser { stage = Stage.Over }
after_crossing crosser (Label.Stop fault line) = record crosser { stage = Stage.Over }
after_crossing crosser _ = record crosser { stage = next_stage crosser.stage }

-- the text that a value is printed as
abbrev pub tens_text : ℤ → List ℕ
tens_text value =
    if int_eq value (pos 10) then codes "10"
    else (if int_eq value (pos 20) then codes "20" else (if int_eq value (pos 30) then codes "30" else codes "another"))

-- how such threads go on
abbrev pub crossings : Semantics Crosser
crossings = record {
  want = λ crosser. want_at crosser crosser.stage;
  text = λ crosser. tens_text crosser.loaded;
  after = after_crossing;
}

-- such a thread is its own state
abbrev pub crosser_kind : Kind Crosser Crosser
crosser_kind = record { state = λ crosser. crosser; semantics = crossings }

-- the neighbour of a processor, of so many
abbrev pub neighbour_of : ℕ → ℕ → ℕ
neighbour_of procs me = if nat_lt (me + 1) procs then me + 1 else 0

-- the cells of a processor and of its neighbour, in the first epoch and in the second
abbrev pub cells_of : ℕ → ℕ → Cells
cells_of procs me = record {
  own = record { 0 = me };
  next = record { 0 = neighbour_of procs me };
  copy = record { 0 = procs + me };
  next_copy = record { 0 = procs + neighbour_of procs me };
}

-- the first cell, whatever the thread does
abbrev pub first_cell : Cells
first_cell = record {
  own = record { 0 = 0 };
  next = record { 0 = 0 };
  copy = record { 0 = 0 };
  next_copy = record { 0 = 0 };
}

-- a thread of this course before its first step
abbrev pub first_of_course : Course → ℕ → ℕ → Crosser
first_of_course Course.Shifts procs me =
    record { cells = cells_of procs me; value = pos (me + 1); stage = Stage.Storing; loaded = pos 0 }
first_of_course Course.StoresLate procs me =
    record { cells = first_cell; value = pos 1; stage = Stage.ArrivingOnce; loaded = pos 0 }

-- the first state of the thread of each processor
abbrev pub first_crosser : Crossers → ℕ → ℕ → Crosser
first_crosser maker procs me = first_of_course maker.course procs me
