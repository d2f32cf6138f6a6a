-- The bindings of a program, in the order of the text.
use Rattle.std.specs.Prelude.{ℕ, ℤ, zero, suc, ◌+◌, ◌*◌, Bool, ◌&&◌, not, ◌==◌, nat_lt, nat_le, List, [], ◌∷◌, ◌++◌, Option, Some, None, is_some, Ok, Err, if◌then◌else◌}
use Rattle.dsm_base.specs.declared.setup.Object.{Object}
use Rattle.dsm_base.specs.declared.setup.Piece.{Piece}
use Rattle.dsm_base.specs.Access.{piece_of}
use Rattle.dsm_syntax.specs.declared.errors.ProgErr.TheVariants as err
use Rattle.dsm_syntax.specs.declared.tree.Name.{Name}
use Rattle.dsm_syntax.specs.declared.tree.Sharing.{Sharing}
use Rattle.dsm_syntax.specs.declared.tree.Bind.{Bind}
use Rattle.dsm_syntax.specs.declared.tree.BindEach.{BindEach}
use Rattle.dsm_syntax.specs.declared.tree.BindBarrier.{BindBarrier}
use Rattle.dsm_syntax.specs.Tree as t
use Rattle.dsm_check.specs.declared.names.Named.{Named}
use Rattle.dsm_check.specs.declared.resolved.Array.{Array}
use Rattle.dsm_check.specs.Environments.{Entry, extent}
use Rattle.dsm_check.specs.Checks.{Check, ◌>>=◌, each, wrong_kind, used, natural}

-- What the names stand for.

-- the number of a lock, or of the first of an array with its size
abbrev pub as_locks : Name → Named → Check (ℕ × Option ℕ)
as_locks name (Named.Locks first size) = Ok (first, size)
as_locks name _ = wrong_kind name

-- the size of an array of locks
abbrev pub as_size : Name → Option ℕ → Check ℕ
as_size name None = wrong_kind name
as_size name (Some size) = Ok size

-- which lock: the only one without an index, and one of an array with one
abbrev pub as_index : Name → Option ℕ → Option ℤ → Check ℕ
as_index name None None = Ok 0
as_index name (Some size) (Some index) = Ok (natural index)
as_index name _ _ = wrong_kind name

-- what a name stands for, which has to be a barrier
abbrev pub as_barrier : Name → Named → Check ℕ
as_barrier name (Named.Barrier number) = Ok number
as_barrier name _ = wrong_kind name

-- shared data, of size 1 where it is no array
abbrev pub as_shared : Name → Named → Check Array
as_shared name (Named.Cells Sharing.Shared first size) = Ok (record { first = first; size = extent size })
as_shared name _ = wrong_kind name

-- the locks that a name stands for
abbrev pub locks_of : List Entry → Name → Check (ℕ × Option ℕ)
locks_of names name = do
  named ← used names name
  as_locks name named

-- the barrier that a name stands for
abbrev pub barrier_of : List Entry → Name → Check ℕ
barrier_of names name = do
  named ← used names name
  as_barrier name named

-- the shared cells that a name stands for
abbrev pub shared_of : List Entry → Name → Check Array
shared_of names name = do
  named ← used names name
  as_shared name named

-- What is bound.

-- the first of so many cells that is bound already
abbrev pub first_bound : List Piece → ℕ → ℕ → Option ℕ
first_bound pieces cell zero = None
first_bound pieces cell (suc count) =
    if is_some (piece_of pieces cell) then Some cell else first_bound pieces (cell + 1) count

-- the pieces after a binding of so many cells
abbrev pub bound : List Piece → ℕ → ℕ → ℕ → List Piece → Check (List Piece)
bound pieces line cell count added = elim (first_bound pieces cell count) [
  | None ↦ Ok (pieces ++ added)
  | Some taken ↦ Err (err.BindOverlap taken line)
]

-- cells that are bound to a lock
abbrev pub lock_piece : ℕ → ℕ → ℕ → Piece
lock_piece lock cell count = record {
  object = Object.Lock (record { 0 = lock });
  first = record { 0 = cell };
  count = count;
  owner = 0;
  phase = 0;
  period = 0;
}

-- pieces of one length, one after the other, for locks one after the other
abbrev pub lock_pieces : ℕ → ℕ → ℕ → ℕ → List Piece
lock_pieces lock cell count zero = []
lock_pieces lock cell count (suc more) = lock_piece lock cell count ∷ lock_pieces (lock + 1) (cell + count) count more

-- cells that are bound to a barrier, with their owner, phase and period
abbrev pub barrier_piece : ℕ → ℕ → BindBarrier → Piece
barrier_piece barrier cell bind = record {
  object = Object.Bar (record { 0 = barrier });
  first = record { 0 = cell };
  count = natural bind.count;
  owner = natural bind.owner;
  phase = natural bind.phase;
  period = natural bind.period;
}

-- some cells of an array, at least one
abbrev pub is_range : Array → ℕ → ℕ → Bool
is_range cells first count = not (count == 0) && nat_le (first + count) cells.size

-- a phase of a period, and no number over a million
abbrev pub is_rhythm : BindBarrier → Bool
is_rhythm bind =
    nat_lt (natural bind.phase) (natural bind.period) && nat_le (natural bind.period) 1000000 && nat_le (natural bind.owner) 1000000

-- Each binding, after the pieces of those before it.

-- the pieces with those of `bind`
abbrev pub with_bind : List Entry → List Piece → Bind → Check (List Piece)
with_bind names pieces bind = do
  locks ← locks_of names bind.lock
  index ← as_index bind.lock locks.1 bind.index
  cells ← shared_of names bind.data
  let first = cells.first + natural bind.first
  let count = natural bind.count
  if nat_lt index (extent locks.1) && is_range cells (natural bind.first) count
      then bound pieces bind.line first count (lock_piece (locks.0 + index) first count ∷ [])
      else Err (err.BindRange bind.line)

-- the pieces with those of `bind_each`: as many cells for each lock of an array
abbrev pub with_bind_each : List Entry → List Piece → BindEach → Check (List Piece)
with_bind_each names pieces bind = do
  locks ← locks_of names bind.locks
  size ← as_size bind.locks locks.1
  cells ← shared_of names bind.data
  let count = natural bind.count
  if not (count == 0) && nat_le (size * count) cells.size
      then bound pieces bind.line cells.first (size * count) (lock_pieces locks.0 cells.first count size)
      else Err (err.BindRange bind.line)

-- the pieces with those of `bind_barrier`
abbrev pub with_bind_barrier : List Entry → List Piece → BindBarrier → Check (List Piece)
with_bind_barrier names pieces bind = do
  barrier ← barrier_of names bind.barrier
  cells ← shared_of names bind.data
  let first = cells.first + natural bind.first
  if is_range cells (natural bind.first) (natural bind.count) && is_rhythm bind
      then bound pieces bind.line first (natural bind.count) (barrier_piece barrier first bind ∷ [])
      else Err (err.BindRange bind.line)

-- the pieces with those of an item
abbrev pub with_binding : List Entry → List Piece → t.Item → Check (List Piece)
with_binding names pieces (t.bind bind) = with_bind names pieces bind
with_binding names pieces (t.bind_each bind) = with_bind_each names pieces bind
with_binding names pieces (t.bind_barrier bind) = with_bind_barrier names pieces bind
with_binding names pieces (t.cells sharing cells) = Ok pieces
with_binding names pieces (t.locks locks) = Ok pieces
with_binding names pieces (t.barriers barriers) = Ok pieces
with_binding names pieces (t.function function) = Ok pieces

-- the pieces of a program
abbrev pub pieces_of : List Entry → List t.Item → Check (List Piece)
pieces_of names items = each (with_binding names) [] items
