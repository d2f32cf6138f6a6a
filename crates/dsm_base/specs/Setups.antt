-- Which setups there are.
use Rattle.std.specs.Prelude.{ℕ, ◌+◌, Bool, true, ◌&&◌, ◌==◌, nat_lt, nat_le, min, max, List, [], ◌∷◌}
use Rattle.std.specs.List.{list_all}
use Rattle.dsm_base.specs.declared.setup.Object.{Object}
use Rattle.dsm_base.specs.declared.setup.Piece.{Piece}

-- there are 2 to 16 processors
abbrev pub is_proc_count : ℕ → Bool
is_proc_count procs = nat_le 2 procs && nat_le procs 16

-- the numbers are within their limits
abbrev pub are_counts : ℕ → ℕ → ℕ → ℕ → Bool
are_counts procs locks bars cells = is_proc_count procs && nat_le locks 256 && nat_le bars 64 && nat_le cells 65536

-- the lock or barrier is one of the setup; a lock's piece has no owner, phase and period, and a barrier's has a period over its phase
abbrev pub is_bound : ℕ → ℕ → Piece → Object → Bool
is_bound locks bars piece (Object.Lock lock) = nat_lt lock.0 locks && (piece.owner == 0) && (piece.phase == 0) && (piece.period == 0)
is_bound locks bars piece (Object.Bar bar) = nat_lt bar.0 bars && nat_lt piece.phase piece.period

-- the number behind the piece's last cell
abbrev pub end_of : Piece → ℕ
end_of piece = piece.first.0 + piece.count

-- a piece is made of cells of the setup, and bound to a lock or barrier of it
abbrev pub is_piece : ℕ → ℕ → ℕ → Piece → Bool
is_piece locks bars cells piece = nat_le (end_of piece) cells && is_bound locks bars piece piece.object

-- no cell is in both pieces
abbrev pub is_apart : Piece → Piece → Bool
is_apart piece other = nat_le (min (end_of piece) (end_of other)) (max piece.first.0 other.first.0)

-- no cell is in two pieces
abbrev pub are_apart : List Piece → Bool
are_apart [] = true
are_apart (piece ∷ others) = list_all (is_apart piece) others && are_apart others

-- what every setup keeps
abbrev pub is_setup : ℕ → ℕ → ℕ → ℕ → List Piece → Bool
is_setup procs locks bars cells bindings =
    are_counts procs locks bars cells && (list_all (is_piece locks bars cells) bindings && are_apart bindings)
