-- How a table is made.
use Rattle.std.specs.Prelude.{ℕ, ◌+◌, ◌-◌, ◌*◌, ◌/◌, ◌%◌, ◌≤◌, if◌then◌else◌, min, List, [], ◌∷◌, ◌++◌, map, Option, Some}
use Rattle.std.specs.List.{range_with_len, All}
use Rattle.dsm_base.specs.declared.setup.Piece.{Piece}
use Rattle.dsm_base.specs.Access.{has_cell}
use Rattle.dsm_lines.specs.declared.place.Place.{Place}
use Rattle.dsm_lines.specs.Places.{line_count}

-- a piece's last cell is below a number of cells
abbrev pub AreWithin : ℕ → List Piece → Type 0
AreWithin cells pieces = All (λ piece. piece.first.0 + piece.count ≤ cells) pieces

-- the place of a cell once a piece is noted
abbrev pub noted : ℕ → Piece → Option Place → ℕ → Option Place
noted start piece before cell =
    if has_cell cell piece
    then Some record { piece = piece; line = start + (cell - piece.first.0) / 8; at = (cell - piece.first.0) % 8 }
    else before

-- how many cells each line of a piece has
abbrev pub piece_widths : Piece → List ℕ
piece_widths piece =
    map (λ line. min 8 (piece.count - 8 * line)) (range_with_len 0 (line_count piece))

-- how many cells each line has
abbrev pub widths_of : List Piece → List ℕ
widths_of [] = []
widths_of (piece ∷ others) = piece_widths piece ++ widths_of others
