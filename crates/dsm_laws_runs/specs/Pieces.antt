-- What pieces are bound to.
use Rattle.std.specs.Prelude.{ℕ, Bool, false, ◌==◌, Option, Some, None}
use Rattle.dsm_base.specs.declared.setup.Object.{Object}
use Rattle.dsm_base.specs.declared.setup.Piece.{Piece}

-- whether an object is this lock
abbrev pub is_lock : ℕ → Object → Bool
is_lock lock (Object.Lock other) = other.0 == lock
is_lock lock (Object.Bar bar) = false

-- whether an object is this barrier
abbrev pub is_bar : ℕ → Object → Bool
is_bar bar (Object.Lock lock) = false
is_bar bar (Object.Bar other) = other.0 == bar

-- whether a piece is bound to a lock
abbrev pub is_of_lock : ℕ → Option Piece → Bool
is_of_lock lock None = false
is_of_lock lock (Some piece) = is_lock lock piece.object
