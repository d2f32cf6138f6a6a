-- What the image of a home's lines holds.
use Rattle.std.specs.Prelude.{ℕ, ℤ, List}
use Rattle.std.specs.List.{slice_index_or}
use Rattle.dsm_base.specs.declared.setup.Piece.{Piece}
use Rattle.dsm_lines.specs.declared.image.LineImage.{LineImage}
use Rattle.dsm_lines.specs.LinePages.{pages_pieces, pages_memory}

-- the pieces that it is over
abbrev pub image_pieces : LineImage → List Piece
image_pieces image = pages_pieces image.pages

-- the version with which each line was last applied, or 0
abbrev pub image_stamps : LineImage → ℕ → ℕ
image_stamps image line = slice_index_or image.stamps line 0

-- the values by cell; a cell in no piece is 0
abbrev pub image_values : LineImage → ℕ → ℤ
image_values image = pages_memory image.pages
