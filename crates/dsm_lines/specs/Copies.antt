-- Memories by cell and marks by line: what lines that come leave of them, and which lines go out.
use Rattle.std.specs.Prelude.{ℕ, ℤ, ◌<◌, Bool, true, ◌&&◌, ◌==◌, not, nat_lt, List, [], ◌∷◌, map, filter, Option, Some, None}
use Rattle.std.specs.List.{list_any, All}
use Rattle.dsm_base.specs.declared.names.Lock.{Lock}
use Rattle.dsm_base.specs.declared.setup.Object.{Object}
use Rattle.dsm_base.specs.declared.setup.Piece.{Piece}
use Rattle.dsm_base.specs.Family.{update}
use Rattle.dsm_lines.specs.declared.list.Line.{Line}
use Rattle.dsm_lines.specs.declared.place.Place.{Place}
use Rattle.dsm_lines.specs.Places.{lines, cells_in, lines_of}

-- a line with the values that a memory has there
abbrev pub line_with : List Piece → (ℕ → ℤ) → ℕ → Line
line_with pieces memory line = record { number = line; values = map memory (cells_in pieces line) }

-- those of some lines that pass a test, with the values of a memory
abbrev pub lines_among : List Piece → (ℕ → Bool) → (ℕ → ℤ) → List ℕ → List Line
lines_among pieces test memory numbers = map (line_with pieces memory) (filter test numbers)

-- those lines of an object that pass a test, with the values of a memory
abbrev pub lines_where : List Piece → (ℕ → Bool) → (ℕ → ℤ) → Object → List Line
lines_where pieces test memory object = lines_among pieces test memory (lines_of pieces object)

-- the lines of a lock with a stamp over a version, with their values
abbrev pub newer_lines : List Piece → (ℕ → ℕ) → (ℕ → ℤ) → Lock → ℕ → List Line
newer_lines pieces stamps values lock version =
    lines_where pieces (λ line. nat_lt version (stamps line)) values (Object.Lock lock)

-- values laid over cells
abbrev pub laid : (ℕ → ℤ) → List ℕ → List ℤ → ℕ → ℤ
laid memory [] values = memory
laid memory (cell ∷ cells) [] = memory
laid memory (cell ∷ cells) (value ∷ values) = laid (update memory cell value) cells values

-- lines laid over a memory
abbrev pub overlaid : List Piece → (ℕ → ℤ) → List Line → ℕ → ℤ
overlaid pieces memory [] = memory
overlaid pieces memory (line ∷ lines) =
    overlaid pieces (laid memory (cells_in pieces line.number) line.values) lines

-- lines that come have this version as their stamp
abbrev pub stamped : (ℕ → ℕ) → ℕ → List Line → ℕ → ℕ
stamped stamps version [] = stamps
stamped stamps version (line ∷ lines) = stamped (update stamps line.number version) version lines

-- the line of a place is marked too; a cell in no piece has no place
abbrev pub with_mark : (ℕ → Bool) → Option Place → ℕ → Bool
with_mark marks None = marks
with_mark marks (Some place) = update marks place.line true

-- marks without those of some lines
abbrev pub without : List ℕ → (ℕ → Bool) → ℕ → Bool
without numbers marks line = marks line && not (list_any (λ other. other == line) numbers)

-- marks without those of an object's lines
abbrev pub without_lines : List Piece → (ℕ → Bool) → Object → ℕ → Bool
without_lines pieces marks object = without (lines_of pieces object) marks

-- each is one of the lines
abbrev pub AreNumbered : List Piece → List Line → Type 0
AreNumbered pieces list = All (λ line. line.number < lines pieces) list
