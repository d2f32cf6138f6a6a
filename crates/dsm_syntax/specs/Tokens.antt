-- The next token, by its kind.
use Rattle.std.specs.Prelude.{ℕ, ℤ, Bool, true, false, List, ◌∷◌, Option, Some, None}
use Rattle.dsm_syntax.specs.declared.sign.Sign.{Sign}
use Rattle.dsm_syntax.specs.declared.word.Word.{Word}
use Rattle.dsm_syntax.specs.declared.tree.Name.{Name}
use Rattle.dsm_syntax.specs.Lexemes.{Lexeme, named, numeral, quoted, word, word_at, sign_at}
use Rattle.dsm_syntax.specs.Reading.{Reader, ok, unexpected}

-- a name that has to come next
abbrev pub read_name : Reader Name
read_name (named name ∷ rest) = ok name rest
read_name tokens = unexpected tokens

-- a number that has to come next
abbrev pub read_number : Reader ℤ
read_number (numeral value ∷ rest) = ok value rest
read_number tokens = unexpected tokens

-- a string that has to come next
abbrev pub read_string : Reader (List ℕ)
read_string (quoted held ∷ rest) = ok held rest
read_string tokens = unexpected tokens

-- whether a name comes next
abbrev pub is_name : Option Lexeme → Bool
is_name (Some (named name)) = true
is_name _ = false

-- the number that comes next
abbrev pub next_number : Option Lexeme → Option ℤ
next_number (Some (numeral value)) = Some value
next_number _ = None

-- whether a string comes next
abbrev pub is_string : Option Lexeme → Bool
is_string (Some (quoted held)) = true
is_string _ = false

-- a word whose line the tree doesn't have
abbrev pub plain_word : Option Lexeme → Option Word
plain_word (Some (word w)) = Some w
plain_word _ = None

-- a word whose line the tree has, with its line
abbrev pub placed_word : Option Lexeme → Option (Word × ℕ)
placed_word (Some (word_at w line)) = Some (w, line)
placed_word _ = None

-- a sign whose line the tree has, with its line
abbrev pub placed_sign : Option Lexeme → Option (Sign × ℕ)
placed_sign (Some (sign_at s line)) = Some (s, line)
placed_sign _ = None
