-- Texts that are refused for their end alone.
use Rattle.std.specs.Prelude.{◌≡◌, ◌≤◌, ◌<◌, ℕ, ◌+◌, List, [], ◌∷◌, ◌++◌, length}
use Rattle.dsm_syntax.specs.Pieces.{IsOpen}
use Rattle.dsm_syntax.specs.Faults.{IsOpenString, IsOpenComment}
use Rattle.dsm_syntax.specs.Texts.{Item, tokens_of, IsCut}

-- what the end of a text leaves open after so many tokens, and what is missing there
pub data IsOpenEnd (count : ℕ) (rest : List ℕ) : List ℕ → Type 0 where
  -- a string, which is one token more
  string : count < 65536 → IsOpenString rest → IsOpenEnd count rest (34 ∷ [])
  -- a comment
  comment : IsOpenComment rest → IsOpenEnd count rest (42 ∷ 47 ∷ [])
  -- a comment up to the star of its end
  star : (held : List ℕ) → rest ≡ 47 ∷ 42 ∷ (held ++ 42 ∷ []) → IsOpen (held ++ 42 ∷ []) → IsOpenEnd count rest (47 ∷ [])
  -- a slash, with which a comment may begin
  slash : rest ≡ 47 ∷ [] → IsOpenEnd count rest (47 ∷ [])

-- the text is right up to what its end leaves open, and there is room for what is missing
pub record EndsOpen (text missing : List ℕ) : Type 0 where
  pub items : List Item
  pub rest : List ℕ
  pub cut : IsCut text items rest
  pub few : length (tokens_of 0 1 items) ≤ 65536
  pub end : IsOpenEnd (length (tokens_of 0 1 items)) rest missing
  pub room : length text + length missing ≤ 262144
