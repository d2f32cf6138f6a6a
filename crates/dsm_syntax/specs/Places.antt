-- Where the tokens of a text stand in it.
use Rattle.std.specs.Prelude.{◌≡◌, ◌≤◌, ℕ, ◌+◌, List, [], ◌∷◌, ◌++◌, length, take, drop}
use Rattle.std.specs.List.{AllByRecursion, slice_range}
use Rattle.dsm_syntax.specs.declared.token.Token.{Token}
use Rattle.dsm_syntax.specs.Bytes.{lines_in}
use Rattle.dsm_syntax.specs.Pieces as piece
use Rattle.dsm_syntax.specs.Pieces.{IsPiece, IsToken}
use Rattle.dsm_syntax.specs.Texts.{Item, written}

-- a token's slice of the text
abbrev pub slice_of : List ℕ → Token → List ℕ
slice_of text token = slice_range text token.at (token.at + token.len)

-- blank space or a comment
abbrev pub IsSpace : Item → Type 0
IsSpace item = elim item.piece [
  | piece.blank ↦ IsPiece piece.blank item.bytes
  | piece.line_comment ↦ IsPiece piece.line_comment item.bytes
  | piece.block_comment ↦ IsPiece piece.block_comment item.bytes
  | piece.token kind ↦ ⊥
]

-- blank space and comments alone
abbrev pub AreSpaces : List ℕ → Type 0
AreSpaces bytes = (items : List Item) × (bytes ≡ written items) × AllByRecursion IsSpace items

-- the token stands behind a place, with blank space and comments alone between
pub record StandsAfter (text : List ℕ) (from : ℕ) (token : Token) : Type 0 where
  pub behind : from ≤ token.at
  pub within : token.at + token.len ≤ length text
  pub between : AreSpaces (slice_range text from token.at)
  pub slice : IsToken token.kind (slice_of text token)
  pub line : token.line ≡ 1 + lines_in (take token.at text)

-- the tokens stand in the text one after the other, with blank space and comments alone between them and at its end
abbrev pub AreInPlace : List ℕ → ℕ → List Token → Type 0
AreInPlace text from [] = AreSpaces (drop from text)
AreInPlace text from (token ∷ tokens) = StandsAfter text from token × AreInPlace text (token.at + token.len) tokens

-- what stands before each token and the token's slice, one after the other, and what stands after the last
abbrev pub joined : List ℕ → ℕ → List Token → List ℕ
joined text from [] = drop from text
joined text from (token ∷ tokens) =
    slice_range text from token.at ++ slice_of text token ++ joined text (token.at + token.len) tokens
