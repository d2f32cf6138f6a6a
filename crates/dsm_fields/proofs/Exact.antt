-- A reader is exact: what it reads is spelled so, what is spelled so is read, and each fault is the first one.
use Rattle.std.proofs.Common.{◌≡◌, ◌∙◌, ℕ, suc, Bool, true, false, List, [], ◌∷◌, ◌++◌, Ok, Err, refl, sym, ap, subst, true≢false}
use Rattle.std.specs.Prelude.{◌&&◌}
use Rattle.std.proofs.lemmas.List.Folds.{list_all-append}
use Rattle.dsm_base.specs.BigEndian.{IsBytes}
use Rattle.dsm_fields.specs.Fields.{Field, is_fit, are_fit, bytes_of, IsCut, Breaks}
use Rattle.dsm_fields.specs.Reading.{Cut, Broken, Read}

-- what was read is spelled so, and bytes are left
pub record Took {A : Type 0} (Is : A → Type 0) (fields : A → List Field) (bytes : List ℕ) (value : A) (rest : List ℕ) : Type 0 where
  pub is : Is value
  pub fit : are_fit (fields value) ≡ true
  pub parts : bytes ≡ bytes_of (fields value) ++ rest
  pub small : IsBytes rest

pub record Exact {A : Type 0} (Is : A → Type 0) (fields : A → List Field) (read : List ℕ → Read A) : Type 0 where
  pub took : (bytes : List ℕ) (value : A) (rest : List ℕ) → IsBytes bytes → read bytes ≡ Ok (value, rest) → Took Is fields bytes value rest
  pub again : (value : A) (rest : List ℕ) → Is value → are_fit (fields value) ≡ true → read (bytes_of (fields value) ++ rest) ≡ Ok (value, rest)
  pub apart : (a b : A) (more others : List Field) → Is a → Is b → are_fit (fields a) ≡ true → fields a ++ more ≡ fields b ++ others → a ≡ b
  pub cut : (bytes : List ℕ) (left : ℕ) → IsBytes bytes → read bytes ≡ Err (Cut left) → IsCut Is fields bytes left
  pub broke : (bytes : List ℕ) (left : ℕ) → IsBytes bytes → read bytes ≡ Err (Broken left) → Breaks Is fields bytes left
  pub ends : (bytes : List ℕ) (left : ℕ) → IsBytes bytes → IsCut Is fields bytes left → read bytes ≡ Err (Cut left)
  pub breaks : (bytes : List ℕ) (left : ℕ) → IsBytes bytes → Breaks Is fields bytes left → read bytes ≡ Err (Broken left)

-- ---- lists

pub both_true : (a b : Bool) → (a && b) ≡ true → (a ≡ true) × (b ≡ true)
both_true true b e = (refl, e)
both_true false b e = absurd (true≢false (sym e))

pub fit_parts : (front back : List Field) → are_fit (front ++ back) ≡ true → (are_fit front ≡ true) × (are_fit back ≡ true)
fit_parts front back e = both_true _ _ (sym (list_all-append is_fit front back) ∙ e)

pub fit_both : (front back : List Field) → are_fit front ≡ true → are_fit back ≡ true → are_fit (front ++ back) ≡ true
fit_both front back one two = list_all-append is_fit front back ∙ rw (one, two) refl

pub small_rest : (front back : List ℕ) → IsBytes (front ++ back) → IsBytes back
small_rest [] back small = small
small_rest (byte ∷ front) back small = small_rest front back (λ i. small (suc i))

pub same_rest : {A : Type 0} (front : List A) (more others : List A) → front ++ more ≡ front ++ others → more ≡ others
same_rest [] more others e = e
same_rest (first ∷ front) more others e = same_rest front more others cc

-- a field in two lists put together is in the first or in the second
pub data Where (xs ys front : List Field) (field : Field) (back : List Field) : Type 0 where
  first : (behind : List Field) → xs ≡ front ++ field ∷ behind → Where xs ys front field back
  second : (before : List Field) → front ≡ xs ++ before → ys ≡ before ++ field ∷ back → Where xs ys front field back

pub where_is : (xs ys front : List Field) (field : Field) (back : List Field) → xs ++ ys ≡ front ++ field ∷ back → Where xs ys front field back
where_is [] ys front field back e = second front refl e
where_is (x ∷ xs) ys [] field back e = first xs cc
where_is (x ∷ xs) ys (one ∷ front) field back e =
    elim (where_is xs ys front field back cc) as (λ _. Where (x ∷ xs) ys (one ∷ front) field back) [
      | first behind p ↦ first behind (let same : x ≡ one = cc in rw (same, p) refl)
      | second before p q ↦ second before (let same : x ≡ one = cc in rw (same, p) refl) q
    ]

-- ---- what was read

abbrev read_of : {A : Type 0} → A × List ℕ → Read A
read_of x = Ok x

pub ok_is : {A : Type 0} (x y : A × List ℕ) → read_of x ≡ read_of y → x ≡ y
ok_is x y e = cc

-- what was read is one value, and one rest
pub same_read : {A : Type 0} (read : Read A) (a b : A) (rest left : List ℕ) → read ≡ Ok (a, rest) → read ≡ Ok (b, left) → (a ≡ b) × (rest ≡ left)
same_read {A} read a b rest left one two =
    let same = ok_is (a, rest) (b, left) (sym one ∙ two) in
    (ap (λ (x : A × List ℕ). x.0) same, ap (λ (x : A × List ℕ). x.1) same)

-- ---- done

pub nothing_before : (front : List Field) (field : Field) (back : List Field) → [] ≡ front ++ field ∷ back → ⊥
nothing_before [] field back e = absurd cc
nothing_before (one ∷ front) field back e = absurd cc

-- nothing more to read
pub done : {A : Type 0} (Is : A → Type 0) (value : A) → Is value → ((other : A) → Is other → other ≡ value) → Exact Is (λ _. []) (λ bytes. Ok (value, bytes))
done {A} Is value is one = record {
  took = λ bytes other rest small e.
      let both = same_read (Ok (value, bytes)) value other bytes rest refl e in
      record { is = subst Is both.0 is; fit = refl; parts = both.1; small = subst IsBytes both.1 small };
  again = λ other rest is fit. let same = one other is in ap (λ (v : A). let read : Read A = Ok (v, rest) in read) (sym same);
  apart = λ a b more others isa isb fit e. one a isa ∙ sym (one b isb);
  cut = λ bytes left small e. absurd cc;
  broke = λ bytes left small e. absurd cc;
  ends = λ bytes left small cut. absurd (nothing_before cut.front cut.field cut.reaches.back cut.reaches.parts);
  breaks = λ bytes left small breaks. absurd (nothing_before breaks.front breaks.field breaks.reaches.back breaks.reaches.parts);
}
