-- What pages of lines hold.
use Rattle.std.specs.Prelude.{ℕ, ℤ, List}
use Rattle.dsm_base.specs.declared.setup.Piece.{Piece}
use Rattle.dsm_lines.specs.declared.pages.LinePages.{LinePages}
use Rattle.dsm_lines.specs.Pages.{memory_in}

abbrev pub pages_pieces : LinePages → List Piece
pages_pieces pages = pages.table.value

-- the values by cell; a cell in no piece is 0
abbrev pub pages_memory : LinePages → ℕ → ℤ
pages_memory pages = memory_in pages.table.value pages.values
