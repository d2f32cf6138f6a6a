-- Reading from the left. A reader of what is at most so high gets that height as a number first.
use Rattle.std.specs.Prelude.{ℕ, zero, suc, Bool, false, if◌then◌else◌, List, [], ◌∷◌, ◌++◌, length, Option, slice_get}
use denote.Enum.Bare.{sameb}
use Rattle.dsm_syntax.specs.contracts.sign.Sign as sign_type
use Rattle.dsm_syntax.specs.contracts.word.Word as word_type
use Rattle.dsm_syntax.specs.declared.sign.Sign.{Sign}
use Rattle.dsm_syntax.specs.declared.word.Word.{Word}
use Rattle.dsm_syntax.specs.Lexemes.{Lexeme, word, sign}

-- a value and what is left, or what is left from the token that is refused: for no program has it there, or only programs
-- that are too high
pub data Read (A : Type 0) : Type 0 where
  ok : A → List Lexeme → Read A
  unexpected : List Lexeme → Read A
  too_high : List Lexeme → Read A

-- what reads a value from tokens
abbrev pub Reader : Type 0 → Type 0
Reader A = List Lexeme → Read A

-- one after the other
abbrev pub and_then : {A B : Type 0} → Read A → (A → Reader B) → Read B
and_then (ok a rest) more = more a rest
and_then (unexpected rest) more = unexpected rest
and_then (too_high rest) more = too_high rest

-- the next token
abbrev pub look : List Lexeme → Option Lexeme
look tokens = slice_get tokens 0

-- what comes after it
abbrev pub tail : List Lexeme → List Lexeme
tail [] = []
tail (token ∷ rest) = rest

-- whether this sign comes next
abbrev pub is_sign : Sign → List Lexeme → Bool
is_sign s (sign found ∷ rest) = sameb sign_type.the_type found s
is_sign s _ = false

-- whether this word comes next
abbrev pub is_word : Word → List Lexeme → Bool
is_word w (word found ∷ rest) = sameb word_type.the_type found w
is_word w _ = false

-- goes on behind a sign that has to come next
abbrev pub after_sign : {A : Type 0} → Sign → Reader A → Reader A
after_sign s more tokens = if is_sign s tokens then more (tail tokens) else unexpected tokens

-- a value whose last token is this sign
abbrev pub ended_by : {A : Type 0} → Sign → A → Reader A
ended_by s a tokens = after_sign s (ok a) tokens

-- one after the other for as long as the test holds of what is left; there are at most so many
abbrev pub repeated : {A : Type 0} → (List Lexeme → Bool) → Reader A → ℕ → Reader (List A)
repeated goes_on member zero tokens = ok [] tokens
repeated goes_on member (suc n) tokens =
    if goes_on tokens
    then and_then (member tokens) (λ a rest. and_then (repeated goes_on member n rest) (λ others. ok (a ∷ others)))
    else ok [] tokens

-- what comes behind members that were taken
abbrev pub gathered : {A : Type 0} → List A → Reader (List A) → Reader (List A)
gathered taken more tokens = and_then (more tokens) (λ others. ok (taken ++ others))

-- the members of a list behind the first one, each after a comma; each takes a token, so there are no more of them
abbrev pub more_of : {A : Type 0} → Reader A → Reader (List A)
more_of member tokens = repeated (is_sign Sign.Comma) (after_sign Sign.Comma member) (length tokens) tokens

-- a list parted by commas
abbrev pub list_of : {A : Type 0} → Reader A → Reader (List A)
list_of member tokens = and_then (member tokens) (λ a rest. and_then (more_of member rest) (λ others. ok (a ∷ others)))
