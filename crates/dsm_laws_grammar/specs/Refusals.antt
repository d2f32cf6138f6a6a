-- Which token is refused, and why.
use Rattle.std.specs.Prelude.{◌≡◌, ◌≤◌, ◌<◌, ◌⊎◌, ⊤, ℕ, zero, suc, List, [], ◌∷◌, ◌++◌, length, take, Option, slice_get}
use Rattle.dsm_syntax.specs.declared.errors.ProgErr.{ProgErr}
use Rattle.dsm_syntax.specs.declared.errors.ProgErr.TheVariants as err
use Rattle.dsm_syntax.specs.declared.errors.Which.TheVariants as which
use Rattle.dsm_syntax.specs.declared.token.Token.{Token}
use Rattle.dsm_syntax.specs.Tree.{Item}
use Rattle.dsm_syntax.specs.Lexemes.{Lexeme, lexemes}
use Rattle.dsm_laws_grammar.specs.Grammar.{spell_program}
use Rattle.dsm_syntax.specs.Heights.{height_program}
use Rattle.dsm_laws_grammar.specs.Programs.{IsProgram}

-- the program's tokens begin with these and go on with that one; with none they end there
pub record GoesOn (items : List Item) (before : List Lexeme) (next : Option Lexeme) : Type 0 where
  pub program : IsProgram items
  pub more : List Lexeme
  pub begins : spell_program items ≡ before ++ more
  pub next_is : slice_get more 0 ≡ next

-- some program that isn't too high begins with the tokens before this place
abbrev pub IsBegun : List Lexeme → ℕ → Type 0
IsBegun tokens place =
    (items : List Item) × (next : Option Lexeme) × GoesOn items (take place tokens) next × (height_program items ≤ 64)

-- no program begins with the tokens up to the one at this place
pub record IsUnexpected (tokens : List Lexeme) (place : ℕ) : Type 0 where
  pub begun : IsBegun tokens place
  pub never : (items : List Item) → ¬ GoesOn items (take place tokens) (slice_get tokens place)

-- some program begins with the tokens up to the one at this place, but each that does is too high
pub record IsTooHigh (tokens : List Lexeme) (place : ℕ) : Type 0 where
  pub begun : IsBegun tokens place
  pub goes_on : (items : List Item) × GoesOn items (take place tokens) (slice_get tokens place)
  pub high : (items : List Item) → GoesOn items (take place tokens) (slice_get tokens place) → 64 < height_program items

-- the token at this place, or the end, is the one that is refused
abbrev pub IsStopped : List Lexeme → ℕ → Type 0
IsStopped tokens place = (place ≤ length tokens) × (IsUnexpected tokens place ⊎ IsTooHigh tokens place)

-- the line of the token at a place; behind the last one it is that of the last one, or the first line
abbrev pub line_from : ℕ → List Token → ℕ → ℕ
line_from line [] place = line
line_from line (token ∷ tokens) zero = token.line
line_from line (token ∷ tokens) (suc place) = line_from token.line tokens place

-- the same, from the first line
abbrev pub line_at : List Token → ℕ → ℕ
line_at tokens place = line_from 1 tokens place

-- why tokens are refused; out of memory is free
abbrev pub IsRefused : List Token → ProgErr → Type 0
IsRefused tokens (err.Unexpected line) = (place : ℕ) × (place ≤ length tokens) × IsUnexpected (lexemes tokens) place × (line ≡ line_at tokens place)
IsRefused tokens (err.Limit limit count) = (place : ℕ) × IsTooHigh (lexemes tokens) place × (limit ≡ which.Nesting) × (count ≡ 65)
IsRefused tokens err.Memory = ⊤
IsRefused tokens _ = ⊥
