-- What an own copy holds.
use Rattle.std.specs.Prelude.{ℕ, ℤ, Bool, List}
use Rattle.dsm_base.specs.declared.setup.Piece.{Piece}
use Rattle.dsm_lines.specs.declared.copy.OwnCopy.{OwnCopy}
use Rattle.dsm_lines.specs.LinePages.{pages_pieces, pages_memory}
use Rattle.dsm_lines.specs.Marks.{marks_in}

-- the pieces that it is over
abbrev pub copy_pieces : OwnCopy → List Piece
copy_pieces copy = pages_pieces copy.pages

-- the values by cell; a cell in no piece is 0
abbrev pub copy_memory : OwnCopy → ℕ → ℤ
copy_memory copy = pages_memory copy.pages

-- whether a line is marked
abbrev pub copy_marks : OwnCopy → ℕ → Bool
copy_marks copy = marks_in copy.dirty
