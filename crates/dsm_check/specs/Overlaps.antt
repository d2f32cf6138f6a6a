-- How the first cell that is bound already is found, piece by piece.
use Rattle.std.specs.Prelude.{ℕ, ◌+◌, min, max, nat_lt, Option, Some, None, if◌then◌else◌}
use Rattle.dsm_base.specs.declared.setup.Piece.{Piece}

-- the first of the cells from `first` to before `end` that is in a piece
abbrev pub overlap : Piece → ℕ → ℕ → Option ℕ
overlap piece first end =
    if nat_lt (max first piece.first.0) (min end (piece.first.0 + piece.count)) then Some (max first piece.first.0) else None

-- the smaller one of two, where there are
abbrev pub earlier : Option ℕ → Option ℕ → Option ℕ
earlier (Some a) (Some b) = Some (min a b)
earlier None other = other
earlier (Some a) None = Some a
