-- Which shared cells a thread may load and store to, by the locks that it holds and the barriers that it has crossed.
use Rattle.std.specs.Prelude.{ℕ, ◌+◌, ◌%◌, Bool, true, false, ◌&&◌, ◌||◌, ◌==◌, not, nat_lt, nat_le, List, find, Option, Some, None, is_some}
use Rattle.dsm_base.specs.declared.names.Mode.{Mode}
use Rattle.dsm_base.specs.declared.setup.Object.{Object}
use Rattle.dsm_base.specs.declared.setup.Piece.{Piece}

-- the modes in which locks are held, and how often each barrier was crossed
pub record Rights : Type 0 where
  pub held : ℕ → Option Mode
  pub crossed : ℕ → ℕ

-- whether a cell is in a piece
abbrev pub has_cell : ℕ → Piece → Bool
has_cell cell piece = nat_le piece.first.0 cell && nat_lt cell (piece.first.0 + piece.count)

-- the piece that a cell is in
abbrev pub piece_of : List Piece → ℕ → Option Piece
piece_of pieces cell = find (has_cell cell) pieces

-- whether the lock is held exclusively
abbrev pub is_exclusive : Option Mode → Bool
is_exclusive None = false
is_exclusive (Some Mode.Shared) = false
is_exclusive (Some Mode.Excl) = true

-- whether the epoch of a barrier is one in which the piece's owner alone may use it
abbrev pub is_phase : Piece → ℕ → Bool
is_phase piece epoch = (epoch % piece.period) == piece.phase

-- whether p may load the cells of a piece
abbrev pub may_load_of : ℕ → Rights → Piece → Object → Bool
may_load_of p rights piece (Object.Lock lock) = is_some (rights.held lock.0)
may_load_of p rights piece (Object.Bar bar) = not (is_phase piece (rights.crossed bar.0)) || (piece.owner == p)

-- whether p may store to the cells of a piece
abbrev pub may_store_of : ℕ → Rights → Piece → Object → Bool
may_store_of p rights piece (Object.Lock lock) = is_exclusive (rights.held lock.0)
may_store_of p rights piece (Object.Bar bar) = is_phase piece (rights.crossed bar.0) && (piece.owner == p)

-- a cell in no piece may be used by none
abbrev pub may_load_piece : ℕ → Rights → Option Piece → Bool
may_load_piece p rights None = false
may_load_piece p rights (Some piece) = may_load_of p rights piece piece.object

-- whether p may store to a cell of this piece; a cell in no piece is nobody's
abbrev pub may_store_piece : ℕ → Rights → Option Piece → Bool
may_store_piece p rights None = false
may_store_piece p rights (Some piece) = may_store_of p rights piece piece.object

-- whether p may load a cell
abbrev pub may_load : List Piece → ℕ → Rights → ℕ → Bool
may_load pieces p rights cell = may_load_piece p rights (piece_of pieces cell)

-- whether p may store to a cell
abbrev pub may_store : List Piece → ℕ → Rights → ℕ → Bool
may_store pieces p rights cell = may_store_piece p rights (piece_of pieces cell)
