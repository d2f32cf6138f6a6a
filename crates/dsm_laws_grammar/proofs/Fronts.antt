-- The next token.
use Rattle.std.proofs.Common.{◌≡◌, Bool, true, List, [], ◌∷◌, ◌++◌, Some, None, refl, ap, ◌∙◌}
use denote.Enum.Bare.{same_true, true_same}
use Rattle.dsm_syntax.specs.contracts.sign.Sign as sign_type
use Rattle.dsm_syntax.specs.contracts.word.Word as word_type
use Rattle.dsm_syntax.specs.declared.sign.Sign.{Sign}
use Rattle.dsm_syntax.specs.declared.word.Word.{Word}
use Rattle.dsm_syntax.specs.Lexemes.{Lexeme, word, sign}
use Rattle.dsm_syntax.specs.Reading.{look, tail, is_sign, is_word}

pub look_append : (pre r s : List Lexeme) → look r ≡ look s → look (pre ++ r) ≡ look (pre ++ s)
look_append [] r s e = e
look_append (x ∷ pre) r s e = refl

pub nil_of : (ts : List Lexeme) → look ts ≡ None → ts ≡ []
nil_of [] e = refl
nil_of (x ∷ ts) e = absurd cc

pub cons_of : (ts : List Lexeme) (x : Lexeme) → look ts ≡ Some x → ts ≡ x ∷ tail ts
cons_of [] x e = absurd cc
cons_of (y ∷ ts) x e = let s : y ≡ x = cc in ap (λ z. z ∷ ts) s

-- A test of the next token.

-- it looks at no other
abbrev pub Looks : (List Lexeme → Bool) → Type 0
Looks test = (r s : List Lexeme) → look r ≡ look s → test r ≡ test s

of_heads : (test : List Lexeme → Bool) → ((x : Lexeme) (r s : List Lexeme) → test (x ∷ r) ≡ test (x ∷ s)) → Looks test
of_heads test h [] [] e = refl
of_heads test h [] (y ∷ s) e = absurd cc
of_heads test h (x ∷ r) [] e = absurd cc
of_heads test h (x ∷ r) (y ∷ s) e = let same : x ≡ y = cc in h x r s ∙ ap (λ z. test (z ∷ s)) same

pub is_sign_look : (s : Sign) → Looks (is_sign s)
is_sign_look s = of_heads (is_sign s) heads
  where
    heads : (x : Lexeme) (r q : List Lexeme) → is_sign s (x ∷ r) ≡ is_sign s (x ∷ q)
    heads (sign found) r q = refl
    heads _ r q = refl

pub is_word_look : (w : Word) → Looks (is_word w)
is_word_look w = of_heads (is_word w) heads
  where
    heads : (x : Lexeme) (r q : List Lexeme) → is_word w (x ∷ r) ≡ is_word w (x ∷ q)
    heads (word found) r q = refl
    heads _ r q = refl

-- it is passed by one token
pub of_sign : (s : Sign) (ts : List Lexeme) → is_sign s ts ≡ true → ts ≡ sign s ∷ tail ts
of_sign s [] e = absurd cc
of_sign s (sign found ∷ rest) e = ap (λ f. sign f ∷ rest) (same_true sign_type.the_type tt found s e)
of_sign s (_ ∷ rest) e = absurd cc

pub of_word : (w : Word) (ts : List Lexeme) → is_word w ts ≡ true → ts ≡ word w ∷ tail ts
of_word w [] e = absurd cc
of_word w (word found ∷ rest) e = ap (λ f. word f ∷ rest) (same_true word_type.the_type tt found w e)
of_word w (_ ∷ rest) e = absurd cc

pub is_that_sign : (s : Sign) (rest : List Lexeme) → is_sign s (sign s ∷ rest) ≡ true
is_that_sign s rest = true_same sign_type.the_type s s refl

pub is_that_word : (w : Word) (rest : List Lexeme) → is_word w (word w ∷ rest) ≡ true
is_that_word w rest = true_same word_type.the_type w w refl
