-- What of a token a syntax tree keeps: its kind and, where the tree has it, its line.
use Rattle.std.specs.Prelude.{ℕ, ℤ, Bool, true, false, if◌then◌else◌, List, map}
use Rattle.dsm_syntax.specs.declared.sign.Sign.{Sign}
use Rattle.dsm_syntax.specs.declared.word.Word.{Word}
use Rattle.dsm_syntax.specs.declared.token.Token.{Token}
use Rattle.dsm_syntax.specs.declared.token.TokenKind.{TokenKind}
use Rattle.dsm_syntax.specs.declared.tree.Name.{Name}

-- a token as a tree keeps it
pub data Lexeme : Type 0 where
  named : Name → Lexeme
  numeral : ℤ → Lexeme
  quoted : List ℕ → Lexeme
  -- a word or a sign whose line the tree doesn't have
  word : Word → Lexeme
  sign : Sign → Lexeme
  -- one whose line it has
  word_at : Word → ℕ → Lexeme
  sign_at : Sign → ℕ → Lexeme

-- the words whose line a tree has
abbrev pub is_placed_word : Word → Bool
is_placed_word Word.Bind = true
is_placed_word Word.BindEach = true
is_placed_word Word.BindBarrier = true
is_placed_word Word.Break = true
is_placed_word Word.Continue = true
is_placed_word Word.Return = true
is_placed_word _ = false

-- the signs whose line a tree doesn't have: those that are no operators
abbrev pub is_placed_sign : Sign → Bool
is_placed_sign Sign.ParenOpen = false
is_placed_sign Sign.ParenClose = false
is_placed_sign Sign.BraceOpen = false
is_placed_sign Sign.BraceClose = false
is_placed_sign Sign.BracketOpen = false
is_placed_sign Sign.BracketClose = false
is_placed_sign Sign.Semicolon = false
is_placed_sign Sign.Comma = false
is_placed_sign Sign.Colon = false
is_placed_sign _ = true

-- what a tree keeps of a token of this kind in this line
abbrev pub lexeme_at : TokenKind → ℕ → Lexeme
lexeme_at (TokenKind.Name text) line = named (record { text = text; line = line })
lexeme_at (TokenKind.Number value) line = numeral value
lexeme_at (TokenKind.Str held) line = quoted held
lexeme_at (TokenKind.Word w) line = if is_placed_word w then word_at w line else word w
lexeme_at (TokenKind.Sign s) line = if is_placed_sign s then sign_at s line else sign s

-- what it keeps of a token
abbrev pub lexeme_of : Token → Lexeme
lexeme_of token = lexeme_at token.kind token.line

-- what it keeps of tokens, in order
abbrev pub lexemes : List Token → List Lexeme
lexemes tokens = map lexeme_of tokens
