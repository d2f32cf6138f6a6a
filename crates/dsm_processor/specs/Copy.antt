-- The own copy of the cells in a turn.
use Rattle.std.specs.Prelude.{◌≡◌, ℕ, ℤ, Bool, true, List, [], is_some}
use Rattle.dsm_base.specs.declared.label.Label.{Label}
use Rattle.dsm_base.specs.declared.setup.Object.{Object}
use Rattle.dsm_base.specs.declared.setup.Piece.{Piece}
use Rattle.dsm_base.specs.Access.{piece_of}
use Rattle.dsm_lines.specs.declared.list.Line.{Line}
use Rattle.dsm_lines.specs.Copies.{lines_where}

-- a store goes to a cell of a piece
abbrev pub StoresBound : List Piece → Label → Type 0
StoresBound pieces (Label.Store cell value) = is_some (piece_of pieces cell.0) ≡ true
StoresBound pieces _ = Unit {0}

-- the lines that a turn gives to others: those that were stored to in the hold or epoch that it ends
abbrev pub given_lines : List Piece → (ℕ → Bool) → (ℕ → ℤ) → Label → List Line
given_lines pieces marks memory (Label.Give lock) = lines_where pieces marks memory (Object.Lock lock)
given_lines pieces marks memory (Label.Arrive bar) = lines_where pieces marks memory (Object.Bar bar)
given_lines pieces marks memory _ = []
