-- When two neighbouring turns of a run may change places.
use Rattle.std.specs.Prelude.{◌≡◌, ◌≢◌, ℕ, Bool, false, ◌&&◌, ◌==◌, not, nat_lt, List, ◌∷◌, Option}
use Rattle.dsm_base.specs.declared.names.Mode.{Mode}
use Rattle.dsm_base.specs.declared.label.Label.{Label}
use Rattle.dsm_base.specs.declared.setup.Setup.{Setup}
use Rattle.dsm_base.specs.Threads.{Semantics}
use Rattle.dsm_base.specs.Plain.{Turn, IsPlainRun, after_run, labels_of, may_stand_beside}
use Rattle.dsm_laws_runs.specs.Versions.{AllAskFirst, SameAt, memory_at}

-- whether a turn rests on the one before it, whose maker held the locks so and had come to the barriers so often: it takes a lock that was given back, beside
-- whose hold it could not stand, or it crosses a barrier into an epoch for which the maker came to it only then
abbrev pub rests_on : (ℕ → Option Mode) → (ℕ → ℕ) → Label → Label → Bool
rests_on held arrived (Label.Give given) (Label.Take taken mode version) = (given.0 == taken.0) && not (may_stand_beside mode (held given.0))
rests_on held arrived (Label.Arrive reached) (Label.Cross bar epoch) = (reached.0 == bar.0) && nat_lt (arrived bar.0) epoch
rests_on held arrived _ _ = false

-- whether two turns use one cell, and one of them stores to it
abbrev pub clashes : Label → Label → Bool
clashes (Label.Store cell value) (Label.Store other new) = cell.0 == other.0
clashes (Label.Store cell value) (Label.Load other new) = cell.0 == other.0
clashes (Label.Load cell value) (Label.Store other new) = cell.0 == other.0
clashes _ _ = false

-- a plain run in which each processor makes the same turns as in another, and which leaves the same state, and the same cells of each lock at each version
pub record IsRunLike {S : Type 0} (setup : Setup) (first : ℕ → S) (threads : Semantics S) (run other : List Turn) : Type 0 where
  pub is_run : IsPlainRun setup first threads run
  pub same_labels : (p : ℕ) → labels_of p run ≡ labels_of p other
  pub same_state : after_run first threads run ≡ after_run first threads other
  pub same_versions : (lock version : ℕ) → SameAt setup lock (memory_at first threads run lock version) (memory_at first threads other lock version)

-- the two newest turns of a plain run are of different processors
pub record AreNeighbours {S : Type 0} (setup : Setup) (first : ℕ → S) (threads : Semantics S) (before : List Turn) (earlier later : Turn) : Type 0 where
  pub ask_first : AllAskFirst setup first threads
  pub is_run : IsPlainRun setup first threads (later ∷ earlier ∷ before)
  pub apart : earlier.proc ≢ later.proc

-- the later of two turns doesn't rest on the earlier one, which is made after a run
abbrev pub IsFree : {S : Type 0} → (ℕ → S) → Semantics S → List Turn → Turn → Turn → Type 0
IsFree first threads before earlier later =
    rests_on ((after_run first threads before).held earlier.proc) ((after_run first threads before).arrived earlier.proc) earlier.label later.label ≡ false
