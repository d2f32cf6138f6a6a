-- Readers of one token.
use Rattle.std.proofs.Common.{◌≡◌, ◌⊎◌, inl, inr, Bool, true, false, cond, ℕ, ℤ, pos, List, [], ◌∷◌, refl, sym, ap, ◌∙◌, subst}
use Rattle.dsm_syntax.specs.declared.sign.Sign.{Sign}
use Rattle.dsm_syntax.specs.declared.tree.Name.{Name}
use Rattle.dsm_syntax.specs.Lexemes.{Lexeme, named, numeral, quoted, sign}
use Rattle.dsm_syntax.specs.Reading.{Read, ok, unexpected, too_high, Reader, and_then, look, tail, is_sign, after_sign}
use Rattle.dsm_syntax.specs.Tokens.{read_name, read_number, read_string}
use Rattle.dsm_laws_grammar.proofs.Fronts.{nil_of, cons_of}
use Rattle.dsm_laws_grammar.proofs.Good.{Language, Follow, Free, Begins, Good, good_as, good_after, good_ok, good_sign, good_unexpected, begun_of}

-- it takes the tokens that are made so, and no others
pub record Single {A : Type 0} (read : Reader A) (make : A → Lexeme) : Type 0 where
  pub some : A
  pub takes : (a : A) (s : List Lexeme) → read (make a ∷ s) ≡ ok a s
  pub refuses : (x : Lexeme) → ((a : A) × (x ≡ make a)) ⊎ ((s : List Lexeme) → read (x ∷ s) ≡ unexpected (x ∷ s))
  pub ends : read [] ≡ unexpected []

pub single_name : Single read_name named
single_name = record { some = record { text = []; line = 0 }; takes = λ a s. refl; refuses = of; ends = refl }
  where
    of : (x : Lexeme) → ((a : Name) × (x ≡ named a)) ⊎ ((s : List Lexeme) → read_name (x ∷ s) ≡ unexpected (x ∷ s))
    of (named name) = inl (name, refl)
    of _ = inr (λ s. refl)

pub single_number : Single read_number numeral
single_number = record { some = pos 0; takes = λ a s. refl; refuses = of; ends = refl }
  where
    of : (x : Lexeme) → ((a : ℤ) × (x ≡ numeral a)) ⊎ ((s : List Lexeme) → read_number (x ∷ s) ≡ unexpected (x ∷ s))
    of (numeral value) = inl (value, refl)
    of _ = inr (λ s. refl)

pub single_string : Single read_string quoted
single_string = record { some = []; takes = λ a s. refl; refuses = of; ends = refl }
  where
    of : (x : Lexeme) → ((a : List ℕ) × (x ≡ quoted a)) ⊎ ((s : List Lexeme) → read_string (x ∷ s) ≡ unexpected (x ∷ s))
    of (quoted held) = inl (held, refl)
    of _ = inr (λ s. refl)

-- one token, and then more
pub good_single : {A B : Type 0} {read : Reader A} {make : A → Lexeme} {L : Language B} {F : Follow B} {Q : ℕ → A → Reader B} {d : ℕ} → Single read make
    → ((a : A) (rest : List Lexeme) → Good (λ m b v. L m b (make a ∷ v)) F (λ m. Q m a) d rest) → (ts : List Lexeme) → Good L F (λ m s. and_then (read s) (Q m)) d ts
good_single {A} {B} {read} {make} {L} {F} {Q} {d} single more ts = of ts
  where
    least : Begins L d []
    least = let b = begun_of (more single.some []) in record { value = b.value; more = make single.some ∷ b.more; is = b.is }

    refused : (ts : List Lexeme) → ((s : List Lexeme) → look s ≡ look ts → read s ≡ unexpected s) → Good L F (λ m s. and_then (read s) (Q m)) d ts
    refused ts same = good_as (good_unexpected least) (λ m s le lk. ap (λ r. and_then r (Q m)) (same s lk))

    of : (ts : List Lexeme) → Good L F (λ m s. and_then (read s) (Q m)) d ts
    of [] = refused [] (λ s lk. let e = nil_of s lk in ap read e ∙ single.ends ∙ ap unexpected (sym e))
    of (x ∷ rest) = elim (single.refuses x) [
      | inl h ↦ subst (λ y. Good L F (λ m s. and_then (read s) (Q m)) d (y ∷ rest)) (sym h.1)
          (good_after (make h.0) (more h.0 rest) (λ m s le. ap (λ r. and_then r (Q m)) (single.takes h.0 s)))
      | inr h ↦ refused (x ∷ rest) (λ s lk. let e = cons_of s x lk in ap read e ∙ h (tail s) ∙ ap unexpected (sym e))
    ]

-- one token alone
pub good_alone : {A : Type 0} {read : Reader A} {make : A → Lexeme} {L : Language A} {d : ℕ} → Single read make → ((a : A) → L d a (make a ∷ [])) → (ts : List Lexeme) → Good L Free (λ m. read) d ts
good_alone {A} {read} {make} {L} {d} single is ts =
    good_as {P = λ m s. and_then (read s) (λ a. ok a)} (good_single single (λ a rest. good_ok a (is a) tt) ts) (λ m s le lk. same (read s))
  where
    same : (r : Read A) → r ≡ and_then r (λ a. ok a)
    same (ok a rest) = refl
    same (unexpected rest) = refl
    same (too_high rest) = refl

-- a sign and one token, and then more
pub good_signed : {A B : Type 0} {read : Reader A} {make : A → Lexeme} {L : Language B} {F : Follow B} {Q : ℕ → A → Reader B} {d : ℕ} (c : Sign) → Single read make
    → ((a : A) (rest : List Lexeme) → Good (λ m b v. L m b (sign c ∷ make a ∷ v)) F (λ m. Q m a) d rest) → (ts : List Lexeme) → Good L F (λ m s. and_then (after_sign c read s) (Q m)) d ts
good_signed {A} {B} {read} {make} {L} {F} {Q} {d} c single more ts =
    good_as {P = λ m. after_sign c (λ rest. and_then (read rest) (Q m))} (good_sign c (λ rest. good_single single more rest)) (λ m s le lk. same m s (is_sign c s))
  where
    same : (m : ℕ) (s : List Lexeme) (b : Bool) → and_then (cond b (read (tail s)) (unexpected s)) (Q m) ≡ cond b (and_then (read (tail s)) (Q m)) (unexpected s)
    same m s true = refl
    same m s false = refl
