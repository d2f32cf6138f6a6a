-- How a table holds where cells are bound.
use Rattle.std.specs.Prelude.{◌≡◌, ℕ, ◌<◌, ◌^◌, true, List, [], length, Option, None}
use Rattle.std.specs.List.{slice_index_or, slice_index}
use Rattle.dsm_base.specs.declared.setup.Object.{Object}
use Rattle.dsm_base.specs.declared.setup.Piece.{Piece}
use Rattle.dsm_base.specs.Setups.{are_apart}
use Rattle.dsm_lines.specs.declared.place.Place.{Place}
use Rattle.dsm_lines.specs.declared.place.Span.{Span}
use Rattle.dsm_lines.specs.Places.{lines, place_of, cells_in, spans_from}

-- the place of each cell, how many cells each line has, and the lines of each lock and barrier
pub record IsTable (pieces : List Piece) (places : List (Option Place)) (widths : List ℕ) (locks bars : List (List Span)) : Type 0 where
  pub apart : are_apart pieces ≡ true
  pub few : lines pieces < 2 ^ 32
  pub placed : (cell : ℕ) → slice_index_or places cell None ≡ place_of pieces cell
  pub counted : length widths ≡ lines pieces
  pub wide : (line : ℕ) → slice_index widths line ≡ length (cells_in pieces line)
  pub of_locks : (lock : ℕ) → slice_index_or locks lock []
      ≡ spans_from 0 pieces (Object.Lock record { 0 = lock })
  pub of_bars : (bar : ℕ) → slice_index_or bars bar []
      ≡ spans_from 0 pieces (Object.Bar record { 0 = bar })
