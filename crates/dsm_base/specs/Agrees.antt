-- When a processor agrees with a run of the machine of one memory.
use Rattle.std.specs.Prelude.{◌≡◌, ℕ, ℤ, Bool, true, false, nat_lt, List, Option, Some, None}
use Rattle.dsm_base.specs.declared.label.Label.{Label}
use Rattle.dsm_base.specs.declared.setup.Object.{Object}
use Rattle.dsm_base.specs.declared.setup.Piece.{Piece}
use Rattle.dsm_base.specs.declared.setup.Setup.{Setup}
use Rattle.dsm_base.specs.Access.{piece_of, may_load}
use Rattle.dsm_base.specs.Threads.{Semantics}
use Rattle.dsm_base.specs.Plain.{PlainState, Turn, after_run, labels_of, seen_by}

-- whether a thread has come to an object and not yet crossed it; a lock is never crossed
abbrev pub is_between_at : (ℕ → ℕ) → (ℕ → ℕ) → Object → Bool
is_between_at arrived crossed (Object.Lock lock) = false
is_between_at arrived crossed (Object.Bar bar) = nat_lt (crossed bar.0) (arrived bar.0)

-- whether a processor has come to the barrier of this piece and not crossed it yet
abbrev pub is_between_of : (ℕ → ℕ) → (ℕ → ℕ) → Option Piece → Bool
is_between_of arrived crossed None = false
is_between_of arrived crossed (Some piece) = is_between_at arrived crossed piece.object

-- whether p has come to the barrier of a cell and not yet crossed it
abbrev pub is_between : {S : Type 0} → List Piece → PlainState S → ℕ → ℕ → Bool
is_between pieces s p cell = is_between_of (s.arrived p) (s.crossed p) (piece_of pieces cell)

-- the copy has the memory's value at each cell that p may load; the cells of a barrier that p has come to and not crossed are left out
abbrev pub HasMemory : {S : Type 0} → List Piece → PlainState S → ℕ → (ℕ → ℤ) → Type 0
HasMemory pieces s p copy = (cell : ℕ) → may_load pieces p (seen_by s p).rights cell ≡ true → is_between pieces s p cell ≡ false → copy cell ≡ s.memory cell

-- p's labels in the run are all its own, in their order, and its copy has the memory's values after it
pub record AgreesWith {S : Type 0} (setup : Setup) (first : ℕ → S) (threads : Semantics S) (run : List Turn) (p : ℕ) (labels : List Label) (copy : ℕ → ℤ) : Type 0 where
  pub same_labels : labels_of p run ≡ labels
  pub same_copy : HasMemory setup.bindings (after_run first threads run) p copy
