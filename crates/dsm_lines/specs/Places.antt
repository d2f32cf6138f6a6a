-- Lines of bound cells: each piece is cut into eights, and lines are numbered over all pieces.
use Rattle.std.specs.Prelude.{ℕ, ◌+◌, ◌-◌, ◌*◌, ◌/◌, ◌%◌, Bool, false, ◌==◌, if◌then◌else◌, nat_lt, min, List, [], ◌∷◌, ◌++◌, Option, Some, None}
use Rattle.std.specs.List.{range_with_len}
use Rattle.std.specs.Option.{option_map}
use Rattle.dsm_base.specs.declared.setup.Object.{Object}
use Rattle.dsm_base.specs.declared.setup.Piece.{Piece}
use Rattle.dsm_base.specs.Access.{has_cell, piece_of}
use Rattle.dsm_lines.specs.declared.place.Place.{Place}
use Rattle.dsm_lines.specs.declared.place.Span.{Span}

-- how many lines a piece is cut into; the last may be shorter than eight cells
abbrev pub line_count : Piece → ℕ
line_count piece = (piece.count + 7) / 8

-- how many lines there are
abbrev pub lines : List Piece → ℕ
lines [] = 0
lines (piece ∷ others) = line_count piece + lines others

-- where a cell stands, if it is in a piece; the lines of the first piece begin with `start`
abbrev pub place_from : ℕ → List Piece → ℕ → Option Place
place_from start [] cell = None
place_from start (piece ∷ others) cell =
    if has_cell cell piece
    then Some (record { piece = piece; line = start + (cell - piece.first.0) / 8; at = (cell - piece.first.0) % 8 })
    else place_from (start + line_count piece) others cell

-- where a cell stands, if it is in a piece
abbrev pub place_of : List Piece → ℕ → Option Place
place_of pieces cell = place_from 0 pieces cell

-- the line of a cell and its place in it
abbrev pub line_of : List Piece → ℕ → Option (ℕ × ℕ)
line_of pieces cell = option_map (λ place. (place.line, place.at)) (place_of pieces cell)

-- the object that a cell is bound to
abbrev pub object_of : List Piece → ℕ → Option Object
object_of pieces cell = option_map (λ piece. piece.object) (piece_of pieces cell)

-- the cells of a line, rising
abbrev pub cells_in : List Piece → ℕ → List ℕ
cells_in [] line = []
cells_in (piece ∷ others) line =
    if nat_lt line (line_count piece)
    then range_with_len (piece.first.0 + 8 * line) (min 8 (piece.count - 8 * line))
    else cells_in others (line - line_count piece)

-- whether two objects are the same lock or the same barrier
abbrev pub same_object : Object → Object → Bool
same_object (Object.Lock lock) (Object.Lock other) = lock.0 == other.0
same_object (Object.Lock lock) (Object.Bar bar) = false
same_object (Object.Bar bar) (Object.Lock lock) = false
same_object (Object.Bar bar) (Object.Bar other) = bar.0 == other.0

-- a list of one where a test passes
abbrev pub one_if : {A : Type 0} → Bool → A → List A
one_if passes one = if passes then one ∷ [] else []

-- neighbouring lines
abbrev pub lines_of_span : Span → List ℕ
lines_of_span span = range_with_len span.first span.count

-- the lines of each piece of an object
abbrev pub spans_from : ℕ → List Piece → Object → List Span
spans_from start [] object = []
spans_from start (piece ∷ others) object =
    one_if (same_object piece.object object) (record { first = start; count = line_count piece })
    ++ spans_from (start + line_count piece) others object

-- the lines of an object, rising; the lines of the first piece begin with `start`
abbrev pub lines_from : ℕ → List Piece → Object → List ℕ
lines_from start [] object = []
lines_from start (piece ∷ others) object =
    (if same_object piece.object object then range_with_len start (line_count piece) else [])
    ++ lines_from (start + line_count piece) others object

-- the lines of an object, rising
abbrev pub lines_of : List Piece → Object → List ℕ
lines_of pieces object = lines_from 0 pieces object
