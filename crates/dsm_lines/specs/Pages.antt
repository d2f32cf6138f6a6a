-- How pages hold the values of cells: eight places a line, 64 lines a page.
use Rattle.std.specs.Prelude.{◌≡◌, ℕ, ℤ, pos, ◌+◌, ◌*◌, ◌/◌, ◌<◌, ◌^◌, true, List, length, Option, Some, None}
use Rattle.std.specs.List.{slice_index_or}
use Rattle.dsm_base.specs.declared.setup.Piece.{Piece}
use Rattle.dsm_base.specs.Setups.{are_apart}
use Rattle.dsm_lines.specs.declared.place.Place.{Place}
use Rattle.dsm_lines.specs.Places.{lines, place_of}

-- the value at a place; a cell in no piece has none, and is 0
abbrev pub value_at : List ℤ → Option Place → ℤ
value_at values None = pos 0
value_at values (Some place) = slice_index_or values (8 * place.line + place.at) (pos 0)

-- the values by cell
abbrev pub memory_in : List Piece → List ℤ → ℕ → ℤ
memory_in pieces values cell = value_at values (place_of pieces cell)

-- whole pages for the lines of pieces that are apart
pub record ArePages (pieces : List Piece) (values : List ℤ) : Type 0 where
  pub apart : are_apart pieces ≡ true
  pub few : lines pieces < 2 ^ 32
  pub many : length values ≡ 512 * ((lines pieces + 63) / 64)
