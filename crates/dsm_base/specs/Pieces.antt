-- The piece of each cell, as the code has it.
use Rattle.std.specs.Prelude.{◌≡◌, ℕ, ◌<◌, List, length, Option, None}
use Rattle.std.specs.List.{slice_index_or}
use Rattle.dsm_base.specs.declared.setup.Piece.{Piece}
use Rattle.dsm_base.specs.declared.setup.Setup.{Setup}
use Rattle.dsm_base.specs.Access.{piece_of}

-- the piece of each cell of the setup
pub record HasPieces (setup : Setup) (pieces : List (Option Piece)) : Type 0 where
  pub count : length pieces ≡ setup.cells
  pub piece : (cell : ℕ) → cell < setup.cells → slice_index_or pieces cell None ≡ piece_of setup.bindings cell
