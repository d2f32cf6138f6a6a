-- The threads that cross a barrier name what is of the setup, and cross right after they have come.
use Rattle.std.proofs.Common.{◌≡◌, ◌<◌, ◌≤◌, ◌+◌, ℕ, ℤ, Bool, true, false, nat_lt, if◌then◌else◌, List, [], ◌∷◌, refl, sym, ap, ◌∙◌, subst, arith, inl, inr}
use Rattle.std.proofs.lemmas.Bool.Decides.{nat_tests}
use Rattle.std.proofs.lemmas.Grind.{common_steps}
use Rattle.dsm_base.specs.declared.names.Bar.{Bar}
use Rattle.dsm_base.specs.declared.names.Lock.{Lock}
use Rattle.dsm_base.specs.declared.names.Mode.{Mode}
use Rattle.dsm_base.specs.declared.label.Want.{Want}
use Rattle.dsm_base.specs.declared.label.Label.{Label}
use Rattle.dsm_base.specs.declared.setup.Setup.{Setup}
use Rattle.dsm_base.specs.Threads.{Completes, Names, StaysWithin, AsksFirst, state_after}
use Rattle.dsm_test_network.specs.declared.crossing.Course.{Course}
use Rattle.dsm_test_network.specs.declared.crossing.Stage.{Stage}
use Rattle.dsm_test_network.specs.declared.crossing.Cells.{Cells}
use Rattle.dsm_test_network.specs.declared.crossing.Crosser.{Crosser}
use Rattle.dsm_test_network.specs.declared.crossing.Crossers.{Crossers}
use Rattle.dsm_test_network.specs.Crossing.{next_stage, want_at, after_crossing, crossings, neighbour_of, cells_of, first_of_course, first_crosser}

-- a thread's cells are among so many
pub record AreCellsIn (count : ℕ) (cells : Cells) : Type 0 where
  pub own : cells.own.0 < count
  pub next : cells.next.0 < count
  pub copy : cells.copy.0 < count
  pub next_copy : cells.next_copy.0 < count

-- every want names the first barrier or a cell of the thread
names_at : (setup : Setup) (crosser : Crosser) → 0 < setup.bars → AreCellsIn setup.cells crosser.cells → (stage : Stage) → Names setup (want_at crosser stage)
names_at setup crosser bars cells Stage.Storing = cells.own
names_at setup crosser bars cells Stage.Arriving = bars
names_at setup crosser bars cells Stage.Crossing = bars
names_at setup crosser bars cells Stage.Loading = cells.next
names_at setup crosser bars cells Stage.Copying = cells.copy
names_at setup crosser bars cells Stage.ArrivingAgain = bars
names_at setup crosser bars cells Stage.CrossingAgain = bars
names_at setup crosser bars cells Stage.LoadingAgain = cells.next_copy
names_at setup crosser bars cells Stage.Printing = tt
names_at setup crosser bars cells Stage.ArrivingOnce = bars
names_at setup crosser bars cells Stage.CrossingOnce = bars
names_at setup crosser bars cells Stage.StoringLate = cells.own
names_at setup crosser bars cells Stage.Ending = tt
names_at setup crosser bars cells Stage.Over = tt

cells_kept : (crosser : Crosser) (label : Label) → (after_crossing crosser label).cells ≡ crosser.cells
cells_kept crosser Label.Quiet = refl
cells_kept crosser (Label.Load cell value) = refl
cells_kept crosser (Label.Store cell value) = refl
cells_kept crosser (Label.Ask lock mode) = refl
cells_kept crosser (Label.Take lock mode version) = refl
cells_kept crosser (Label.Give lock) = refl
cells_kept crosser (Label.Arrive bar) = refl
cells_kept crosser (Label.Cross bar epoch) = refl
cells_kept crosser (Label.Line text) = refl
cells_kept crosser Label.End = refl
cells_kept crosser (Label.Stop fault line) = refl

all_cells_kept : (crosser : Crosser) (labels : List Label) → (state_after crossings crosser labels).cells ≡ crosser.cells
all_cells_kept crosser [] = refl
all_cells_kept crosser (label ∷ before) =
    cells_kept (state_after crossings crosser before) label ∙ all_cells_kept crosser before

-- a neighbour is one of the processors
neighbour_within : (procs me : ℕ) → me < procs → neighbour_of procs me < procs
neighbour_within procs me within = by (nat_lt (me + 1) procs) refl
  where
    by : (b : Bool) → nat_lt (me + 1) procs ≡ b → (if b then me + 1 else 0) < procs
    by true is = grind (arith, nat_tests)
    by false is = omega (arith, within)

cells_within : (procs count me : ℕ) → procs + procs ≤ count → me < procs → AreCellsIn count (cells_of procs me)
cells_within procs count me enough within =
    let next = neighbour_within procs me within in
    record {
      own = omega (arith, enough, within);
      next = omega (arith, enough, next);
      copy = omega (arith, enough, within);
      next_copy = omega (arith, enough, next);
    }

-- there are cells enough for a course of so many
abbrev pub IsCourseIn : ℕ → ℕ → Course → Type 0
IsCourseIn cells procs Course.Shifts = procs + procs ≤ cells
IsCourseIn cells procs Course.StoresLate = 0 < cells

first_within : (course : Course) (procs count me : ℕ) → IsCourseIn count procs course → me < procs → AreCellsIn count (first_of_course course procs me).cells
first_within Course.Shifts procs count me enough within = cells_within procs count me enough within
first_within Course.StoresLate procs count me enough within = record { own = enough; next = enough; copy = enough; next_copy = enough }

-- threads of such a course stay within the setup
pub crossers_stay : (setup : Setup) (maker : Crossers) → 0 < setup.bars → IsCourseIn setup.cells setup.procs maker.course → (me : ℕ) → me < setup.procs → StaysWithin setup crossings (first_crosser maker setup.procs me)
crossers_stay setup maker bars enough me within labels =
    let first = first_crosser maker setup.procs me in
    let now = state_after crossings first labels in
    names_at setup now bars
    (subst (AreCellsIn setup.cells) (sym (all_cells_kept first labels)) (first_within maker.course setup.procs setup.cells me enough within)) now.stage

never_asks : (crosser : Crosser) (stage : Stage) (lock : Lock) (mode : Mode) (line : ℕ) → want_at crosser stage ≡ Want.Ask lock mode line → ⊥
never_asks crosser Stage.Storing lock mode line e = cc
never_asks crosser Stage.Arriving lock mode line e = cc
never_asks crosser Stage.Crossing lock mode line e = cc
never_asks crosser Stage.Loading lock mode line e = cc
never_asks crosser Stage.Copying lock mode line e = cc
never_asks crosser Stage.ArrivingAgain lock mode line e = cc
never_asks crosser Stage.CrossingAgain lock mode line e = cc
never_asks crosser Stage.LoadingAgain lock mode line e = cc
never_asks crosser Stage.Printing lock mode line e = cc
never_asks crosser Stage.ArrivingOnce lock mode line e = cc
never_asks crosser Stage.CrossingOnce lock mode line e = cc
never_asks crosser Stage.StoringLate lock mode line e = cc
never_asks crosser Stage.Ending lock mode line e = cc
never_asks crosser Stage.Over lock mode line e = cc

never_takes : (crosser : Crosser) (stage : Stage) (lock : Lock) (mode : Mode) → want_at crosser stage ≡ Want.Take lock mode → ⊥
never_takes crosser Stage.Storing lock mode e = cc
never_takes crosser Stage.Arriving lock mode e = cc
never_takes crosser Stage.Crossing lock mode e = cc
never_takes crosser Stage.Loading lock mode e = cc
never_takes crosser Stage.Copying lock mode e = cc
never_takes crosser Stage.ArrivingAgain lock mode e = cc
never_takes crosser Stage.CrossingAgain lock mode e = cc
never_takes crosser Stage.LoadingAgain lock mode e = cc
never_takes crosser Stage.Printing lock mode e = cc
never_takes crosser Stage.ArrivingOnce lock mode e = cc
never_takes crosser Stage.CrossingOnce lock mode e = cc
never_takes crosser Stage.StoringLate lock mode e = cc
never_takes crosser Stage.Ending lock mode e = cc
never_takes crosser Stage.Over lock mode e = cc

-- who has come to a barrier crosses it next
crosses_at : (crosser now : Crosser) (stage : Stage) (bar : Bar) → want_at crosser stage ≡ Want.Arrive bar → want_at now (next_stage stage) ≡ Want.Cross bar
crosses_at crosser now Stage.Storing bar e = cc
crosses_at crosser now Stage.Arriving bar e = cc
crosses_at crosser now Stage.Crossing bar e = cc
crosses_at crosser now Stage.Loading bar e = cc
crosses_at crosser now Stage.Copying bar e = cc
crosses_at crosser now Stage.ArrivingAgain bar e = cc
crosses_at crosser now Stage.CrossingAgain bar e = cc
crosses_at crosser now Stage.LoadingAgain bar e = cc
crosses_at crosser now Stage.Printing bar e = cc
crosses_at crosser now Stage.ArrivingOnce bar e = cc
crosses_at crosser now Stage.CrossingOnce bar e = cc
crosses_at crosser now Stage.StoringLate bar e = cc
crosses_at crosser now Stage.Ending bar e = cc
crosses_at crosser now Stage.Over bar e = cc

-- who crosses next has just come
came_at : (crosser now : Crosser) (stage : Stage) (bar : Bar) → want_at now (next_stage stage) ≡ Want.Cross bar → want_at crosser stage ≡ Want.Arrive bar
came_at crosser now Stage.Storing bar e = cc
came_at crosser now Stage.Arriving bar e = cc
came_at crosser now Stage.Crossing bar e = cc
came_at crosser now Stage.Loading bar e = cc
came_at crosser now Stage.Copying bar e = cc
came_at crosser now Stage.ArrivingAgain bar e = cc
came_at crosser now Stage.CrossingAgain bar e = cc
came_at crosser now Stage.LoadingAgain bar e = cc
came_at crosser now Stage.Printing bar e = cc
came_at crosser now Stage.ArrivingOnce bar e = cc
came_at crosser now Stage.CrossingOnce bar e = cc
came_at crosser now Stage.StoringLate bar e = cc
came_at crosser now Stage.Ending bar e = cc
came_at crosser now Stage.Over bar e = cc

-- a label after which a thread crosses leaves it at the next stage
goes_on_at : (crosser now : Crosser) (label : Label) (bar : Bar) → want_at now (after_crossing crosser label).stage ≡ Want.Cross bar → want_at now (next_stage crosser.stage) ≡ Want.Cross bar
goes_on_at crosser now Label.Quiet bar e = e
goes_on_at crosser now (Label.Load cell value) bar e = e
goes_on_at crosser now (Label.Store cell value) bar e = e
goes_on_at crosser now (Label.Ask lock mode) bar e = e
goes_on_at crosser now (Label.Take lock mode version) bar e = e
goes_on_at crosser now (Label.Give lock) bar e = e
goes_on_at crosser now (Label.Arrive other) bar e = e
goes_on_at crosser now (Label.Cross other epoch) bar e = e
goes_on_at crosser now (Label.Line text) bar e = e
goes_on_at crosser now Label.End bar e = cc
goes_on_at crosser now (Label.Stop fault line) bar e = cc

came : (crosser : Crosser) (answer : ℤ) (label : Label) (bar : Bar) → Completes (want_at crosser crosser.stage) answer label
    → want_at (after_crossing crosser label) (after_crossing crosser label).stage ≡ Want.Cross bar → label ≡ Label.Arrive bar
came crosser answer label bar is e =
    let now = after_crossing crosser label in
    let wanted = came_at crosser now crosser.stage bar (goes_on_at crosser now label bar e) in
    subst (λ want. Completes want answer label) wanted is

first_waits : (course : Course) (procs me : ℕ) (bar : Bar) → want_at (first_of_course course procs me) (first_of_course course procs me).stage ≡ Want.Cross bar → ⊥
first_waits Course.Shifts procs me bar e = cc
first_waits Course.StoresLate procs me bar e = cc

pub crosses_first : (maker : Crossers) (procs me : ℕ) → AsksFirst crossings (first_crosser maker procs me)
crosses_first maker procs me =
    let first = first_crosser maker procs me in
    record {
      no_take = λ lock mode e. never_takes first first.stage lock mode e;
      no_cross = λ bar e. first_waits maker.course procs me bar e;
      takes = λ labels lock mode line e.
          absurd (never_asks (state_after crossings first labels) (state_after crossings first labels).stage lock mode line e);
      crosses = λ labels bar e.
          crosses_at (state_after crossings first labels) (after_crossing (state_after crossings first labels) (Label.Arrive bar)) (state_after crossings first labels).stage bar e;
      took = λ labels answer label lock mode is e.
          absurd (never_takes (after_crossing (state_after crossings first labels) label) (after_crossing (state_after crossings first labels) label).stage lock mode e);
      crossed = λ labels answer label bar is e. came (state_after crossings first labels) answer label bar is e;
      stops = λ labels fault line. refl;
      ends = λ labels. refl;
    }
