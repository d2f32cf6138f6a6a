-- Which lines are newer than a version or an epoch. A line is any number that cells are given by a function; lines of one lock or barrier are meant.
use Rattle.std.specs.Prelude.{ℕ, ℤ, ◌+◌, Bool, false, ◌&&◌, ◌||◌, ◌==◌, nat_lt, nat_le, if◌then◌else◌, List, [], ◌∷◌}
use Rattle.dsm_base.specs.declared.label.Label.{Label}
use Rattle.dsm_base.specs.declared.setup.Setup.{Setup}
use Rattle.dsm_base.specs.Access.{piece_of}
use Rattle.dsm_base.specs.Threads.{Semantics}
use Rattle.dsm_base.specs.Plain.{Turn, after_run, labels_of}
use Rattle.dsm_laws_runs.specs.Pieces.{is_of_lock}
use Rattle.dsm_laws_runs.specs.OwnPart.{crossed_of, own_versions_of}
use Rattle.dsm_laws_runs.specs.Barriers.{is_owned, is_of_other, owner_of}

-- whether a label stores to a line of a lock
abbrev pub stores_to : (ℕ → ℕ) → Setup → ℕ → ℕ → Label → Bool
stores_to line_at setup lock line (Label.Store cell value) = is_of_lock lock (piece_of setup.bindings cell.0) && (line_at cell.0 == line)
stores_to line_at setup lock line _ = false

-- whether a line of a lock was stored to in one of the holds that made its versions over one, up to another
abbrev pub is_newer : {S : Type 0} → (ℕ → ℕ) → Setup → (ℕ → S) → Semantics S → List Turn → ℕ → ℕ → ℕ → ℕ → Bool
is_newer line_at setup first threads [] lock from to line = false
is_newer line_at setup first threads (turn ∷ before) lock from to line =
    (stores_to line_at setup lock line turn.label && (nat_le from ((after_run first threads before).versions lock) && nat_lt ((after_run first threads before).versions lock) to))
    || is_newer line_at setup first threads before lock from to line

-- the newest version up to one in whose hold a line of a lock was stored to, or 0
abbrev pub stamp_of : {S : Type 0} → (ℕ → ℕ) → Setup → (ℕ → S) → Semantics S → List Turn → ℕ → ℕ → ℕ → ℕ
stamp_of line_at setup first threads [] lock to line = 0
stamp_of line_at setup first threads (turn ∷ before) lock to line =
    if stores_to line_at setup lock line turn.label && nat_lt ((after_run first threads before).versions lock) to
    then (after_run first threads before).versions lock + 1
    else stamp_of line_at setup first threads before lock to line

-- whether a label stores to a line of a barrier that this processor owns
abbrev pub stores_own : (ℕ → ℕ) → Setup → ℕ → ℕ → ℕ → Label → Bool
stores_own line_at setup bar owner line (Label.Store cell value) = is_owned bar owner (piece_of setup.bindings cell.0) && (line_at cell.0 == line)
stores_own line_at setup bar owner line _ = false

-- whether an owner who has made these labels stored to a line of a barrier in an epoch
abbrev pub is_stored_in : (ℕ → ℕ) → Setup → ℕ → ℕ → ℕ → List Label → ℕ → Bool
is_stored_in line_at setup bar owner epoch [] line = false
is_stored_in line_at setup bar owner epoch (label ∷ before) line =
    (stores_own line_at setup bar owner line label && (crossed_of before bar == epoch)) || is_stored_in line_at setup bar owner epoch before line

-- whether a cell is of a lock, and on a line that is newer than the version that p's copy has, up to another
abbrev pub is_brought : {S : Type 0} → (ℕ → ℕ) → Setup → (ℕ → S) → Semantics S → List Turn → ℕ → ℕ → ℕ → ℕ → Bool
is_brought line_at setup first threads run p lock version cell =
    is_of_lock lock (piece_of setup.bindings cell) && is_newer line_at setup first threads run lock (own_versions_of (labels_of p run) lock) version (line_at cell)

-- whether a cell of a barrier is another's than p's, and on a line to which its owner stored in an epoch
abbrev pub is_arrived : (ℕ → ℕ) → Setup → List Turn → ℕ → ℕ → ℕ → ℕ → Bool
is_arrived line_at setup run p bar epoch cell =
    is_of_other bar p (piece_of setup.bindings cell)
    && is_stored_in line_at setup bar (owner_of (piece_of setup.bindings cell)) epoch (labels_of (owner_of (piece_of setup.bindings cell)) run) (line_at cell)

-- a copy with a memory's values at the cells that are brought
abbrev pub with_newer : (ℕ → Bool) → (ℕ → ℤ) → (ℕ → ℤ) → ℕ → ℤ
with_newer brought memory copy cell = if brought cell then memory cell else copy cell
