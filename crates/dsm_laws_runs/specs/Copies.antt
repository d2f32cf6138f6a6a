-- The own copies of processors: what turns make of them, and what they are worth beside a run.
use Rattle.std.specs.Prelude.{◌≡◌, ℕ, ℤ, pos, ◌<◌, ◌≤◌, Bool, true, false, List, [], ◌∷◌, map, Option, None, is_some}
use Rattle.dsm_base.specs.declared.names.Mode.{Mode}
use Rattle.dsm_base.specs.declared.label.Label.{Label}
use Rattle.dsm_base.specs.declared.setup.Setup.{Setup}
use Rattle.dsm_base.specs.Access.{piece_of}
use Rattle.dsm_base.specs.Threads.{Semantics}
use Rattle.dsm_base.specs.Plain.{Turn, IsPlainRun, after_run, labels_of, memory_after}
use Rattle.dsm_laws_runs.specs.Pieces.{is_of_lock}
use Rattle.dsm_laws_runs.specs.OwnPart.{own_versions_of}
use Rattle.dsm_laws_runs.specs.Versions.{AllAskFirst, SameAt, memory_at}
use Rattle.dsm_laws_runs.specs.Barriers.{is_owned, is_of_other, memory_in}

-- a turn of a processor, and its own copy right after it
pub record OwnTurn : Type 0 where
  pub label : Label
  pub copy : ℕ → ℤ  -- by cell

-- the labels of own turns
abbrev pub own_labels : List OwnTurn → List Label
own_labels turns = map (λ turn. turn.label) turns

-- the copy that turns leave; zeros at first
abbrev pub newest_copy : List OwnTurn → ℕ → ℤ
newest_copy [] = λ cell. pos 0
newest_copy (turn ∷ before) = turn.copy

-- the cells of locks by lock and version, and those of barriers by barrier and epoch
pub record Memories : Type 0 where
  pub at_version : ℕ → ℕ → ℕ → ℤ
  pub in_epoch : ℕ → ℕ → ℕ → ℤ

-- those of a run
abbrev pub memories_of : {S : Type 0} → Setup → (ℕ → S) → Semantics S → List Turn → Memories
memories_of setup first threads run = record {
  at_version = memory_at first threads run;
  in_epoch = memory_in setup (λ p. labels_of p run);
}

-- a copy has a memory's values at the cells that pass a test, and else what it had
pub record IsRenewed (test : ℕ → Bool) (memory copy now : ℕ → ℤ) : Type 0 where
  pub inside : (cell : ℕ) → test cell ≡ true → now cell ≡ memory cell
  pub outside : (cell : ℕ) → test cell ≡ false → now cell ≡ copy cell

-- what a turn of p makes of its copy: a take gives it the lock's cells at its version, a crossing the cells of others that are bound to the barrier as they
-- are in its epoch, and a store sets its cell
abbrev pub Renews : Setup → Memories → ℕ → Label → (ℕ → ℤ) → (ℕ → ℤ) → Type 0
Renews setup memories p (Label.Take lock mode version) copy now =
    IsRenewed (λ cell. is_of_lock lock.0 (piece_of setup.bindings cell)) (memories.at_version lock.0 version) copy now
Renews setup memories p (Label.Cross bar epoch) copy now =
    IsRenewed (λ cell. is_of_other bar.0 p (piece_of setup.bindings cell)) (memories.in_epoch bar.0 epoch) copy now
Renews setup memories p label copy now = (cell : ℕ) → now cell ≡ memory_after copy label cell

-- each turn of p makes of its copy what it should
abbrev pub AreAdequate : Setup → Memories → ℕ → List OwnTurn → Type 0
AreAdequate setup memories p [] = Unit {0}
AreAdequate setup memories p (turn ∷ before) = AreAdequate setup memories p before × Renews setup memories p turn.label (newest_copy before) turn.copy

-- a plain run, and the turns of a processor in it with its own copies, which are as they should be by the run
pub record HasCopies {S : Type 0} (setup : Setup) (first : ℕ → S) (threads : Semantics S) (run : List Turn) (p : ℕ) (turns : List OwnTurn) : Type 0 where
  pub ask_first : AllAskFirst setup first threads
  pub is_run : IsPlainRun setup first threads run
  pub is_processor : p < setup.procs
  pub same_labels : labels_of p run ≡ own_labels turns
  pub adequate : AreAdequate setup (memories_of setup first threads run) p turns

-- a copy that has a version of a lock, beside the lock's newest version and the memory: who doesn't hold the lock has its cells as they were when
-- the copy's version was made, and who holds it has the newest version and the memory's values
pub record AgreesAt (setup : Setup) (lock : ℕ) (held : Option Mode) (newest : ℕ) (memory : ℕ → ℤ) (memories : ℕ → ℕ → ℤ) (version : ℕ) (copy : ℕ → ℤ) : Type 0 where
  pub no_newer : version ≤ newest
  pub free : held ≡ None → SameAt setup lock copy (memories version)
  pub current : is_some held ≡ true → version ≡ newest
  pub same : is_some held ≡ true → SameAt setup lock copy memory

-- what a copy is worth at the barriers that p has crossed so often: at p's own cells it has the memory's values, and at those of others what they are in the epoch
pub record AgreesAtBarriers (setup : Setup) (p : ℕ) (crossed : ℕ → ℕ) (memory : ℕ → ℤ) (in_epoch : ℕ → ℕ → ℕ → ℤ) (copy : ℕ → ℤ) : Type 0 where
  pub own : (bar cell : ℕ) → is_owned bar p (piece_of setup.bindings cell) ≡ true → copy cell ≡ memory cell
  pub others : (bar cell : ℕ) → is_of_other bar p (piece_of setup.bindings cell) ≡ true → copy cell ≡ in_epoch bar (crossed bar) cell

-- what it is worth after a run
pub record CopyAgrees {S : Type 0} (setup : Setup) (first : ℕ → S) (threads : Semantics S) (run : List Turn) (p : ℕ) (copy : ℕ → ℤ) : Type 0 where
  pub at_locks : (lock : ℕ) → AgreesAt setup lock ((after_run first threads run).held p lock) ((after_run first threads run).versions lock) (after_run first threads run).memory
      (memory_at first threads run lock) (own_versions_of (labels_of p run) lock) copy
  pub at_barriers : AgreesAtBarriers setup p ((after_run first threads run).crossed p) (after_run first threads run).memory (memory_in setup (λ q. labels_of q run)) copy
