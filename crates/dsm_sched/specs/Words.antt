-- The words of a text: its lines without comments, parted by blanks, and the numbers among them.
use Rattle.std.specs.Prelude.{ℕ, Bool, true, false, ◌&&◌, ◌||◌, ◌==◌, not, nat_le, if◌then◌else◌, List, [], ◌∷◌, length, map, filter, Option, Some, None}
use Rattle.std.specs.Char.{is_ascii_digit}
use Rattle.std.specs.List.{slice_split, take_while, list_all, enumerate_from}
use Rattle.std.specs.Str.Lines.{lines}
use Rattle.std.specs.Str.Parse.{digits_value}

-- what isn't the end of a line
abbrev pub not_newline : ℕ → Bool
not_newline byte = not (byte == 10)

-- a space or a tab
abbrev pub is_blank : ℕ → Bool
is_blank byte = (byte == 32) || (byte == 9)

-- what isn't one
abbrev pub not_blank : ℕ → Bool
not_blank byte = not (is_blank byte)

-- what doesn't begin a comment
abbrev pub not_hash : ℕ → Bool
not_hash byte = not (byte == 35)

-- what stands before a comment, which begins with `#`
abbrev pub before_comment : List ℕ → List ℕ
before_comment line = take_while not_hash line

-- whether a list has a member
abbrev pub is_something : {A : Type 0} → List A → Bool
is_something [] = false
is_something (first ∷ others) = true

-- the words of a line, parted by blanks, without its comment
abbrev pub words_of : List ℕ → List (List ℕ)
words_of line = filter is_something (slice_split is_blank (before_comment line))

-- a line with its number, from 1, and its words
pub record Row : Type 0 where
  pub line : ℕ
  pub words : List (List ℕ)

-- the words of a numbered line
abbrev pub row_of : ℕ × List ℕ → Row
row_of numbered = record { line = numbered.0; words = words_of numbered.1 }

-- whether a row has a word
abbrev pub has_words : Row → Bool
has_words row = is_something row.words

-- the lines that have words, numbered from such a number on
abbrev pub rows_from : ℕ → List ℕ → List Row
rows_from line text = filter has_words (map row_of (enumerate_from line (lines text)))

-- the rows of a text that have words, each with the number of its line
abbrev pub rows_of : List ℕ → List Row
rows_of text = rows_from 1 text

-- what is left to read: a text, and the number of its first line
pub record Unread : Type 0 where
  pub line : ℕ
  pub text : List ℕ

-- the rows of what isn't read yet
abbrev pub rows_left : Unread → List Row
rows_left unread = rows_from unread.line unread.text

-- a line in front of rows, where it has words
abbrev pub with_row : Row → List Row → List Row
with_row row rows = if has_words row then row ∷ rows else rows

-- a digit other than 0 comes first, but in the number 0
abbrev pub begins_well : List ℕ → Bool
begins_well [] = false
begins_well (first ∷ others) = not (first == 48) || not (is_something others)

-- a number is 0, or up to nine digits that don't begin with 0
abbrev pub is_number : List ℕ → Bool
is_number word = list_all is_ascii_digit word && begins_well word && nat_le (length word) 9

-- the number that a word spells, if it spells one
abbrev pub number_of : List ℕ → Option ℕ
number_of word = if is_number word then Some (digits_value 10 word) else None
