-- The value of a cell among those of its line.
use Rattle.std.proofs.Common.{◌≡◌, ◌<◌, ℕ, ℤ, pos, List, map, length, get_or, Some, ap, ◌∙◌, arith}
use Rattle.std.proofs.lemmas.List.{get_or-map, length-map}
use Rattle.dsm_base.specs.declared.setup.Piece.{Piece}
use Rattle.dsm_lines.specs.declared.place.Place.{Place}
use Rattle.dsm_lines.specs.Places.{place_of, cells_in}
use Rattle.dsm_lines.proofs.Cells.{stands}

module _ (pieces : List Piece) (memory : ℕ → ℤ) (cell : ℕ) (place : Place) (placed : place_of pieces cell ≡ Some place) where
  -- its place is within the line
  pub place_within : place.at < length (map memory (cells_in pieces place.line))
  place_within = omega (arith, (stands pieces cell place placed).within, length-map (cells_in pieces place.line) memory)

  -- the value at its place is its value
  pub value_there : get_or (map memory (cells_in pieces place.line)) place.at (pos 0) ≡ memory cell
  value_there =
      let there = stands pieces cell place placed in
      get_or-map memory (cells_in pieces place.line) place.at 0 (pos 0) there.within ∙ ap memory there.is
