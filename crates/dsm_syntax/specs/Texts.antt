-- What a whole text spells, and why it is refused.
use Rattle.std.specs.Prelude.{◌≡◌, ◌≤◌, ◌<◌, ℕ, ◌+◌, min, ⊤, ◌⊎◌, Result, Err, List, [], ◌∷◌, ◌++◌, length}
use Rattle.std.specs.List.{flat_map}
use Rattle.dsm_syntax.specs.declared.errors.ProgErr.{ProgErr}
use Rattle.dsm_syntax.specs.declared.errors.ProgErr.TheVariants as err
use Rattle.dsm_syntax.specs.declared.errors.Which.TheVariants as which
use Rattle.dsm_syntax.specs.declared.token.Token.{Token}
use Rattle.dsm_syntax.specs.Bytes.{lines_in}
use Rattle.dsm_syntax.specs.Pieces.{Piece, blank, line_comment, block_comment, token, IsPiece, Ends}
use Rattle.dsm_syntax.specs.Faults.{IsFault}

-- a piece and its text
pub record Item : Type 0 where
  pub piece : Piece
  pub bytes : List ℕ

-- the texts of items, one after the other
abbrev pub written : List Item → List ℕ
written items = flat_map (λ item. item.bytes) items

-- each item has a text of its piece, and goes as far as it can
abbrev pub AreItems : List Item → List ℕ → Type 0
AreItems [] rest = ⊤
AreItems (item ∷ items) rest =
    IsPiece item.piece item.bytes × Ends item.piece item.bytes (written items ++ rest) × AreItems items rest

-- the token of a piece at a place: none of blank space and comments
abbrev pub token_of : ℕ → ℕ → Item → List Token
token_of at line item = elim item.piece [
  | blank ↦ []
  | line_comment ↦ []
  | block_comment ↦ []
  | token kind ↦ record { kind = kind; at = at; len = length item.bytes; line = line } ∷ []
]

-- the tokens among items, each with its first byte, its length and its line
abbrev pub tokens_of : ℕ → ℕ → List Item → List Token
tokens_of at line [] = []
tokens_of at line (item ∷ items) =
    token_of at line item ++ tokens_of (at + length item.bytes) (line + lines_in item.bytes) items

-- the text is these items and then the rest
pub record IsCut (text : List ℕ) (items : List Item) (rest : List ℕ) : Type 0 where
  pub whole : text ≡ written items ++ rest
  pub each : AreItems items rest

-- the tokens are those of a text that is cut into pieces up to its end
abbrev pub Spells : List Token → List ℕ → Type 0
Spells tokens text = (items : List Item) × IsCut text items [] × (tokens ≡ tokens_of 0 1 items)

-- the tokens of a text within the limits
pub record IsLexed (text : List ℕ) (tokens : List Token) : Type 0 where
  pub short : length text ≤ 262144
  pub spelled : Spells tokens text
  pub few : length tokens ≤ 65536

-- why a text is refused
pub data IsRefused (text : List ℕ) : ProgErr → Type 0 where
  -- for its length, before all else
  long_text : 262144 < length text → IsRefused text (err.Limit which.Text (min (length text) 4294967295))
  -- for a fault behind the pieces before it, which have no token too many
  fault : (items : List Item) (rest : List ℕ) (e : ProgErr)
      → length text ≤ 262144 → IsCut text items rest → length (tokens_of 0 1 items) ≤ 65536
      → IsFault (1 + lines_in (written items)) rest e → IsRefused text e
  -- for the first token that is one too many
  many_tokens : (items : List Item) (rest : List ℕ)
      → length text ≤ 262144 → IsCut text items rest → length (tokens_of 0 1 items) ≡ 65537
      → IsRefused text (err.Limit which.Tokens 65537)

-- the answer is this one, or out of memory
abbrev pub IsAnswer : Result (List Token) ProgErr → Result (List Token) ProgErr → Type 0
IsAnswer result answer = (result ≡ answer) ⊎ (result ≡ Err err.Memory)
