-- Lists parted by commas, and parts that may be absent.
use Rattle.std.proofs.Common.{◌≡◌, ◌≤◌, ◌<◌, ℕ, Bool, true, false, cond, List, [], ◌∷◌, ◌++◌, length, flat_map, Option, Some, None, Err, IfSome, refl, sym, ap, ◌∙◌, subst, arith, append_assoc, append-nil}
use Rattle.std.specs.List.{AllByRecursion}
use Rattle.dsm_syntax.specs.declared.sign.Sign.{Sign}
use Rattle.dsm_syntax.specs.Lexemes.{Lexeme, sign}
use Rattle.dsm_laws_grammar.specs.Grammar.{spell_more, spell_list, spell_option, Listed}
use Rattle.dsm_syntax.specs.Heights.{highest, height_option}
use Rattle.dsm_syntax.specs.Reading.{Read, ok, unexpected, Reader, and_then, tail, is_sign, after_sign, gathered, more_of, list_of}
use Rattle.dsm_syntax.specs.declared.refusal.Refusal.{Refusal}
use Rattle.dsm_syntax.specs.Gives.{Gives}
use Rattle.dsm_laws_grammar.proofs.Fronts.{Looks, is_sign_look, of_sign}
use Rattle.dsm_laws_grammar.proofs.Good.{Language, Follow, Free, Spelled, Good, good_ok, good_weaken, good_map, good_next, good_if, good_sign, no_longer}
use Rattle.dsm_laws_grammar.proofs.Repeats.{Stopped, stops, good_repeated, gathers, gathers_none, all_reads, all_low}

-- what a member after its comma is spelled
abbrev pub spell_after : {A : Type 0} → (A → List Lexeme) → A → List Lexeme
spell_after spell a = sign Sign.Comma ∷ spell a

pub more_as_all : {A : Type 0} (spell : A → List Lexeme) (all : List A) → flat_map (spell_after spell) all ≡ spell_more spell all
more_as_all spell [] = refl
more_as_all spell (a ∷ all) = ap (λ l. sign Sign.Comma ∷ (spell a ++ l)) (more_as_all spell all)

-- The tree and the tokens of a list.
abbrev pub MoreOf : {A : Type 0} → (A → List Lexeme) → (A → Type 0) → (A → ℕ) → Language (List A)
MoreOf spell Fits height = Spelled (spell_more spell) (AllByRecursion Fits) (highest height)

abbrev pub ListOf : {A : Type 0} → (A → List Lexeme) → (A → Type 0) → (A → ℕ) → Language (List A)
ListOf spell Fits height = Spelled (spell_list spell) (Listed Fits) (highest height)

abbrev pub OptionOf : {A : Type 0} → (A → List Lexeme) → (A → Type 0) → (A → ℕ) → Language (Option A)
OptionOf spell Fits height = Spelled (spell_option spell) (λ o. IfSome o Fits) (height_option height)

module _ {A : Type 0} {spell : A → List Lexeme} {Fits : A → Type 0} {height : A → ℕ} {F : Follow A} {member : ℕ → Reader A} {d : ℕ} where
  pub good_member : ((ts : List Lexeme) → Good (Spelled spell Fits height) F member d ts) → (ts : List Lexeme) → Good (Spelled (spell_after spell) Fits height) F (λ m. after_sign Sign.Comma (member m)) d ts
  good_member good ts = good_sign Sign.Comma (λ rest. good_weaken
      (λ m a w le h. record { is = ap (λ l. sign Sign.Comma ∷ l) h.is; fits = h.fits; low = h.low }) (λ a next f. f) (good rest))

  pub good_more : ((ts : List Lexeme) → Good (Spelled spell Fits height) F member d ts) → (ts : List Lexeme) → Good (MoreOf spell Fits height) (Stopped (is_sign Sign.Comma)) (λ m. more_of (member m)) d ts
  good_more good ts = good_weaken
      (λ m all w le h. record { is = sym (more_as_all spell all) ∙ h.is; fits = h.fits; low = h.low }) (λ a next f. f)
      (good_repeated (spell_after spell) Fits height F (is_sign Sign.Comma) (λ m. after_sign Sign.Comma (member m))
      (is_sign_look Sign.Comma) refl (λ a f. omega arith) d (λ ts e. good_member good ts) ts)

  pub good_list : ((ts : List Lexeme) → Good (Spelled spell Fits height) F member d ts) → (ts : List Lexeme) → Good (ListOf spell Fits height) (Stopped (is_sign Sign.Comma)) (λ m. list_of (member m)) d ts
  good_list good ts = good_next (good ts)
      (λ m a le fits low. record { value = a ∷ []; more = []; is = record { is = refl; fits = (fits, tt); low = omega arith } })
      (λ a rest at fits low next. good_map (λ others. a ∷ others) (good_weaken
      (λ m all w le h. record { is = ap (λ l. spell a ++ l) h.is; fits = (fits, h.fits); low = let l = h.low in omega arith }) (λ a next f. f)
      (good_more good rest)))

-- a part that comes where the test holds
pub good_option : {A : Type 0} {spell : A → List Lexeme} {Fits : A → Type 0} {height : A → ℕ} {F : Follow A} {P : ℕ → Reader A} {d : ℕ} {ts : List Lexeme} (test : List Lexeme → Bool) → Looks test
    → (test ts ≡ true → Good (Spelled spell Fits height) F P d ts)
    → Good (OptionOf spell Fits height) Free (λ m s. cond (test s) (and_then (P m s) (λ a. ok (Some a))) (ok None s)) d ts
good_option test looks good = good_if test looks
    (λ e. good_map Some (good_weaken (λ m a w le h. record { is = h.is; fits = h.fits; low = h.low }) (λ a next f. tt) (good e)))
    (λ e. good_ok None (record { is = refl; fits = tt; low = omega arith }) tt)

-- What is spelled is read, where N is what may come after a member.
module _ {A : Type 0} (spell : A → List Lexeme) (Fits : A → Type 0) (height : A → ℕ) (N : List Lexeme → Type 0) (d : ℕ) (member : Reader A)
    (reads : (a : A) (rest : List Lexeme) → Fits a → height a ≤ d → N rest → member (spell a ++ rest) ≡ ok a rest)
    (comma : (rest : List Lexeme) → N (sign Sign.Comma ∷ rest)) where
  pub more_reads : (all : List A) (rest : List Lexeme) → AllByRecursion Fits all → highest height all ≤ d → N rest → is_sign Sign.Comma rest ≡ false
      → more_of member (spell_more spell all ++ rest) ≡ ok all rest
  more_reads all rest fits low next e =
      ap (λ l. more_of member (l ++ rest)) (sym (more_as_all spell all))
      ∙ all_reads (spell_after spell) (λ a. Fits a × (height a ≤ d)) N (is_sign Sign.Comma) (after_sign Sign.Comma member)
      (λ a rest f n. reads a rest f.0 f.1 n) (λ a rest f. refl) (λ a rest f. comma (spell a ++ rest)) (λ a f. omega arith)
      all rest (all_low Fits height d all fits low) next e

  pub list_reads : (all : List A) (rest : List Lexeme) → Listed Fits all → highest height all ≤ d → N rest → is_sign Sign.Comma rest ≡ false
      → list_of member (spell_list spell all ++ rest) ≡ ok all rest
  list_reads [] rest fits low next e = absurd fits
  list_reads (a ∷ all) rest fits low next e =
      ap (list_of member) (append_assoc (spell a) (spell_more spell all) rest)
      ∙ ap (λ y. and_then y (λ a rest. and_then (more_of member rest) (λ others. ok (a ∷ others)))) (reads a (spell_more spell all ++ rest) fits.0 (omega arith) (ahead all))
      ∙ ap (λ y. and_then y (λ others. ok (a ∷ others))) (more_reads all rest fits.1 (omega arith) next e)
    where
      ahead : (all : List A) → N (spell_more spell all ++ rest)
      ahead [] = next
      ahead (b ∷ all) = comma ((spell b ++ spell_more spell all) ++ rest)

-- The loop that gathers the members behind the first one.
module _ {A : Type 0} {spell : A → List Lexeme} {Fits : A → Type 0} {height : A → ℕ} {F : Follow A} {member : ℕ → Reader A} {d : ℕ}
    (good : (ts : List Lexeme) → Good (Spelled spell Fits height) F member d ts) where
  -- a comma and a member
  pub more_gathers : (taken : List A) (a : A) (ts rest : List Lexeme) → is_sign Sign.Comma ts ≡ true → member d (tail ts) ≡ ok a rest
      → gathered taken (more_of (member d)) ts ≡ gathered (taken ++ a ∷ []) (more_of (member d)) rest
  more_gathers taken a ts rest e one =
      gathers (spell_after spell) Fits height F (is_sign Sign.Comma) (λ m. after_sign Sign.Comma (member m)) (is_sign_look Sign.Comma) refl (λ a f. omega arith) d (λ ts e. good_member good ts)
      taken a ts rest e (ap (λ b. cond b (member d (tail ts)) (unexpected ts)) e ∙ one)

  pub more_gathers_none : {B C : Type 0} (taken : List A) (ts : List Lexeme) (see : B → A) (see' : C → List A) (why : Refusal) (left : List Lexeme) → is_sign Sign.Comma ts ≡ true
      → Gives see (member d (tail ts)) (Err why) left → Gives see' (gathered taken (more_of (member d)) ts) (Err why) left
  more_gathers_none taken ts see see' why left e one =
      gathers_none (spell_after spell) Fits height F (is_sign Sign.Comma) (λ m. after_sign Sign.Comma (member m)) (is_sign_look Sign.Comma) refl (λ a f. omega arith) d (λ ts e. good_member good ts)
      taken ts see see' why left e (subst (λ r. Gives see r (Err why) left) (sym (ap (λ b. cond b (member d (tail ts)) (unexpected ts)) e)) one)

  -- the same as the code's loop says it
  pub more_turn : {read : Read (List A)} {all : List A} {a : A} {mid rest : List Lexeme} (taken : List A) (ts : List Lexeme) → read ≡ gathered taken (more_of (member d)) ts → is_sign Sign.Comma ts ≡ true
      → mid ≡ tail ts → member d mid ≡ ok a rest → all ≡ taken ++ a ∷ [] → read ≡ gathered all (more_of (member d)) rest
  more_turn {read} {all} {a} {mid} {rest} taken ts so e skipped one pushed =
      so ∙ more_gathers taken a ts rest e (ap (member d) (sym skipped) ∙ one) ∙ ap (λ l. gathered l (more_of (member d)) rest) (sym pushed)

pub more_gathered : {A : Type 0} (member : Reader A) (taken : List A) (ts : List Lexeme) → is_sign Sign.Comma ts ≡ false → gathered taken (more_of member) ts ≡ ok taken ts
more_gathered member taken ts e =
    ap (λ y. and_then y (λ others. ok (taken ++ others))) (stops (is_sign Sign.Comma) (after_sign Sign.Comma member) (length ts) ts e) ∙ ap (λ l. ok l ts) (append-nil taken)

-- a comma and a member leave less
pub more_falls : {A : Type 0} {L : Language A} {F : Follow A} {P : ℕ → Reader A} {d : ℕ} (ts : List Lexeme) → Good L F P d (tail ts) → (a : A) (rest : List Lexeme)
    → is_sign Sign.Comma ts ≡ true → P d (tail ts) ≡ ok a rest → length rest < length ts
more_falls ts good a rest e one = omega (arith, no_longer good a rest one, ap length (of_sign Sign.Comma ts e))
