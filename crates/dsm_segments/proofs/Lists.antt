-- Laws of joined lists, and of entries by their numbers.
use Rattle.std.proofs.Common.{◌≡◌, ◌≢◌, ◌∙◌, inl, inr, ℕ, ◌+◌, ◌-◌, ◌<◌, ◌≤◌, ◌==◌, if◌then◌else◌, true, false, nat_le, nat_lt, suc, zero, List, [], ◌∷◌, ◌++◌, Option, Some, None, length, get_or, take, drop, refl, sym, ap, slice_get, append_assoc, append-nil, drop-cons, take-append-drop, arith, length-append, eq-eqb, ne_eqb, le-leb, lt-ltb}
use Rattle.std.specs.Option.{option_or}
use Rattle.std.proofs.lemmas.Bool.{cases_Bool, cond-true, cond-false}
use Rattle.std.proofs.lemmas.List.{take_more}
use Rattle.dsm_segments.specs.Entries.{IsRising, joined, behind, latest, newest, over}

option_or_none : {A : Type 0} (o : Option A) → option_or o None ≡ o
option_or_none None = refl
option_or_none (Some x) = refl

option_or_assoc : {A : Type 0} (a b c : Option A) → option_or (option_or a b) c ≡ option_or a (option_or b c)
option_or_assoc None b c = refl
option_or_assoc (Some x) b c = refl

module _ {A : Type 0} where
  pub joined-append : (xs ys : List (List A)) → joined (xs ++ ys) ≡ joined xs ++ joined ys
  joined-append [] ys = refl
  joined-append (x ∷ xs) ys = ap (λ (l : List A). x ++ l) (joined-append xs ys) ∙ sym (append_assoc x (joined xs) (joined ys))

  pub joined-one : (xs : List A) → joined (xs ∷ []) ≡ xs
  joined-one xs = append-nil xs

  -- an item and what comes behind it
  pub drop_item : (xs : List A) (i : ℕ) (x : A) → i < length xs → x ≡ get_or xs i x → drop i xs ≡ x ∷ drop (i + 1) xs
  drop_item xs i x lt is =
      let on : suc i ≡ i + 1 = omega arith in
      drop-cons xs i x lt ∙ ap (λ (y : A). y ∷ drop (suc i) xs) (sym is) ∙ ap (λ n. x ∷ drop n xs) on

  get_behind : (xs ys : List A) (i : ℕ) → slice_get (xs ++ ys) (length xs + i) ≡ slice_get ys i
  get_behind [] ys i = let on : 0 + i ≡ i = omega arith in ap (slice_get ys) on
  get_behind (x ∷ xs) ys i =
      let on : length (x ∷ xs) + i ≡ suc (length xs + i) = omega arith in
      ap (slice_get (x ∷ (xs ++ ys))) on ∙ get_behind xs ys i

  -- the last of two lists
  pub newest-append : (xs ys : List A) → 0 < length ys → newest (xs ++ ys) ≡ newest ys
  newest-append xs ys some =
      let on : length (xs ++ ys) - 1 ≡ length xs + (length ys - 1) = omega (arith, length-append xs ys) in
      ap (slice_get (xs ++ ys)) on ∙ get_behind xs ys (length ys - 1)

  -- one more item is copied
  pub copied_more : (first found now xs : List A) (i : ℕ) (x y : A) → i < length xs → x ≡ get_or xs i x → y ≡ x
      → found ≡ first ++ take i xs → now ≡ found ++ y ∷ [] → now ≡ first ++ take (i + 1) xs
  copied_more first found now xs i x y lt is same so_far more =
      more ∙ ap (λ (l : List A). l ++ y ∷ []) so_far ∙ append_assoc first (take i xs) (y ∷ [])
      ∙ ap (λ (l : List A). first ++ l) (ap (λ (z : A). take i xs ++ z ∷ []) (same ∙ is) ∙ sym (take_more xs i x lt))

module _ {A : Type 0} (number : A → ℕ) where
  -- where all of a list goes, the rest is looked at
  pub behind-none : (upto : ℕ) (xs ys : List A) → behind number upto xs ≡ [] → behind number upto (xs ++ ys) ≡ behind number upto ys
  behind-none upto [] ys none = refl
  behind-none upto (x ∷ xs) ys none = elim (cases_Bool (nat_le (number x) upto)) [
    | inl old ↦ cond-true _ _ _ old ∙ behind-none upto xs ys (sym (cond-true _ _ _ old) ∙ none)
    | inr new ↦ let bad : x ∷ xs ≡ [] = sym (cond-false _ _ _ new) ∙ none in absurd (cc)
  ]

  -- where some of a list stays, the rest stays
  pub behind-some : (upto : ℕ) (xs ys : List A) → behind number upto xs ≢ [] → behind number upto (xs ++ ys) ≡ behind number upto xs ++ ys
  behind-some upto [] ys some = absurd (some refl)
  behind-some upto (x ∷ xs) ys some = elim (cases_Bool (nat_le (number x) upto)) [
    | inl old ↦ cond-true _ _ _ old ∙ behind-some upto xs ys (λ e. some (cond-true _ _ _ old ∙ e)) ∙ ap (λ (l : List A). l ++ ys) (sym (cond-true _ _ _ old))
    | inr new ↦ cond-false _ _ _ new ∙ ap (λ (l : List A). l ++ ys) (sym (cond-false _ _ _ new))
  ]

  -- no more stays than there was
  pub length-behind : (upto : ℕ) (xs : List A) → length (behind number upto xs) ≤ length xs
  length-behind upto [] = omega arith
  length-behind upto (x ∷ xs) = elim (cases_Bool (nat_le (number x) upto)) [
    | inl old ↦ let rest = length-behind upto xs in let is = ap length (cond-true (nat_le (number x) upto) (behind number upto xs) (x ∷ xs) old) in omega (arith, rest, is)
    | inr new ↦ let is = ap length (cond-false (nat_le (number x) upto) (behind number upto xs) (x ∷ xs) new) in omega (arith, is)
  ]

  -- an old entry at the front goes
  pub behind_old : (upto : ℕ) (xs : List A) (i : ℕ) (x : A) → i < length xs → x ≡ get_or xs i x → number x ≤ upto
      → behind number upto (drop i xs) ≡ behind number upto (drop (i + 1) xs)
  behind_old upto xs i x lt is old =
      ap (behind number upto) (drop_item xs i x lt is) ∙ cond-true (nat_le (number x) upto) _ _ (le-leb (number x) upto old)

  -- a new entry at the front stays, with all behind it
  pub behind_new : (upto : ℕ) (xs : List A) (i : ℕ) (x : A) → i < length xs → x ≡ get_or xs i x → upto < number x
      → behind number upto (drop i xs) ≡ drop i xs
  behind_new upto xs i x lt is new =
      let front = drop_item xs i x lt is in
      ap (behind number upto) front ∙ cond-false (nat_le (number x) upto) _ _ (leb_not new) ∙ sym front
    where
      leb_not : upto < number x → nat_le (number x) upto ≡ false
      leb_not lt = grind arith

  pub over_more : (least : ℕ) (xs : List A) (i : ℕ) (x : A) → i < length xs → x ≡ get_or xs i x → least < number x
      → over number least (drop i xs) ≡ x ∷ over number least (drop (i + 1) xs)
  over_more least xs i x lt is new =
      ap (over number least) (drop_item xs i x lt is) ∙ cond-true (nat_lt least (number x)) _ _ (lt-ltb least (number x) new)

  pub over_less : (least : ℕ) (xs : List A) (i : ℕ) (x : A) → i < length xs → x ≡ get_or xs i x → number x ≤ least
      → over number least (drop i xs) ≡ over number least (drop (i + 1) xs)
  over_less least xs i x lt is old =
      ap (over number least) (drop_item xs i x lt is) ∙ cond-false (nat_lt least (number x)) _ _ (ltb_not old)
    where
      ltb_not : number x ≤ least → nat_lt least (number x) ≡ false
      ltb_not le = grind arith

  -- an entry over the number is copied
  pub over_copied : (least : ℕ) (found now all xs : List A) (i : ℕ) (x y : A) → i < length xs → x ≡ get_or xs i x → y ≡ x → least < number x
      → found ++ over number least (drop i xs) ≡ all → now ≡ found ++ y ∷ [] → now ++ over number least (drop (i + 1) xs) ≡ all
  over_copied least found now all xs i x y lt is same new so_far more =
      ap (λ (l : List A). l ++ over number least (drop (i + 1) xs)) (more ∙ ap (λ (z : A). found ++ z ∷ []) same)
      ∙ append_assoc found (x ∷ []) (over number least (drop (i + 1) xs))
      ∙ ap (λ (l : List A). found ++ l) (sym (over_more least xs i x lt is new)) ∙ so_far

  -- another one is passed over
  pub over_passed : (least : ℕ) (found all xs : List A) (i : ℕ) (x : A) → i < length xs → x ≡ get_or xs i x → number x ≤ least
      → found ++ over number least (drop i xs) ≡ all → found ++ over number least (drop (i + 1) xs) ≡ all
  over_passed least found all xs i x lt is old so_far = ap (λ (l : List A). found ++ l) (sym (over_less least xs i x lt is old)) ∙ so_far

  pub latest-append : (wanted : ℕ) (xs ys : List A) → latest number wanted (xs ++ ys) ≡ option_or (latest number wanted ys) (latest number wanted xs)
  latest-append wanted [] ys = sym (option_or_none (latest number wanted ys))
  latest-append wanted (x ∷ xs) ys =
      ap (λ (o : Option A). option_or o (if number x == wanted then Some x else None)) (latest-append wanted xs ys)
      ∙ option_or_assoc (latest number wanted ys) (latest number wanted xs) (if number x == wanted then Some x else None)

  -- an entry of another number, and none behind it
  pub latest_other : (wanted : ℕ) (xs : List A) (i : ℕ) (x : A) → i < length xs → x ≡ get_or xs i x → number x ≢ wanted
      → latest number wanted (drop (i + 1) xs) ≡ None → latest number wanted (drop i xs) ≡ None
  latest_other wanted xs i x lt is other none =
      ap (latest number wanted) (drop_item xs i x lt is)
      ∙ ap (λ (o : Option A). option_or o (if number x == wanted then Some x else None)) none
      ∙ cond-false (number x == wanted) (Some x) None (ne_eqb (number x) wanted other)

  -- an entry of this number, and none behind it
  pub latest_here : (wanted : ℕ) (xs : List A) (i : ℕ) (x : A) → i < length xs → x ≡ get_or xs i x → number x ≡ wanted
      → latest number wanted (drop (i + 1) xs) ≡ None → latest number wanted xs ≡ Some x
  latest_here wanted xs i x lt is same none =
      ap (latest number wanted) (sym (take-append-drop i xs))
      ∙ latest-append wanted (take i xs) (drop i xs)
      ∙ ap (λ (l : List A). option_or (latest number wanted l) (latest number wanted (take i xs))) (drop_item xs i x lt is)
      ∙ ap (λ (o : Option A). option_or (option_or o (if number x == wanted then Some x else None)) (latest number wanted (take i xs))) none
      ∙ ap (λ (o : Option A). option_or o (latest number wanted (take i xs))) (cond-true (number x == wanted) (Some x) None (eq-eqb (number x) wanted same))

  all_over : (upto : ℕ) (x : A) (xs : List A) → upto < number x → IsRising number (x ∷ xs) → over number upto xs ≡ xs
  all_over upto x [] new rising = refl
  all_over upto x (y ∷ xs) new rising =
      let next : upto < number y = omega (arith, new, rising.0) in
      cond-true (nat_lt upto (number y)) _ _ (lt-ltb upto (number y) next) ∙ ap (λ (l : List A). y ∷ l) (all_over upto y xs next rising.1)

  rising_rest : (x : A) (xs : List A) → IsRising number (x ∷ xs) → IsRising number xs
  rising_rest x [] rising = tt
  rising_rest x (y ∷ xs) rising = rising.1

  -- where numbers rise, what is over a number comes last
  pub behind_over : (upto : ℕ) (xs : List A) → IsRising number xs → behind number upto xs ≡ over number upto xs
  behind_over upto [] rising = refl
  behind_over upto (x ∷ xs) rising = elim (cases_Bool (nat_le (number x) upto)) [
    | inl old ↦ cond-true _ _ _ old ∙ behind_over upto xs (rising_rest x xs rising) ∙ sym (cond-false (nat_lt upto (number x)) _ _ (not_over old))
    | inr new ↦ cond-false _ _ _ new ∙ ap (λ (l : List A). x ∷ l) (sym (all_over upto x xs (is_over new) rising)) ∙ sym (cond-true (nat_lt upto (number x)) _ _ (lt-ltb upto (number x) (is_over new)))
  ]
    where
      not_over : nat_le (number x) upto ≡ true → nat_lt upto (number x) ≡ false
      not_over e = grind arith

      is_over : nat_le (number x) upto ≡ false → upto < number x
      is_over e = grind arith
