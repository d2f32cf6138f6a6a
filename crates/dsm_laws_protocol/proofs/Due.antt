-- What is due of a course: as it grows, and as bodies are handled.
use Rattle.std.specs.Prelude.{◌≡◌, ℕ, ◌+◌, ◌≤◌, Bool, true, false, nat_lt, List, [], ◌∷◌, ◌++◌, length, Option, Some, None}
use Rattle.std.proofs.Common.{arith, refl, sym, ap, ◌∙◌, subst, inl, inr, append_assoc, append-nil, le_trans}
use Rattle.std.proofs.lemmas.Bool.Decides.{leb_tells}
use Rattle.dsm_laws_protocol.specs.Courses.{upto}
use Rattle.dsm_laws_protocol.specs.Due.{Item, items, due, AreOver, AreWithin, IsFirstDue}
use Rattle.dsm_laws_protocol.proofs.Courses.{upto_grown, upto_all, upto_length}

pub append_empty : {A : Type 0} (xs ys : List A) → xs ++ ys ≡ [] → (xs ≡ []) × (ys ≡ [])
append_empty [] ys e = (refl, e)
append_empty (x ∷ xs) ys e = (cc, cc)

pub cons_parts : {A : Type 0} {x y : A} {xs ys : List A} → x ∷ xs ≡ y ∷ ys → (x ≡ y) × (xs ≡ ys)
cons_parts e = (cc, cc)

module _ {A B : Type 0} (makes : List A → A → Option B) where
  pub due_grown : (k : ℕ) (x : A) (xs : List A) → k ≤ length xs → due makes k (x ∷ xs) ≡ due makes k xs ++ items (length xs + 1) (makes xs x)
  due_grown k x xs le = grind arith

  pub due_all : (k : ℕ) (xs : List A) → length xs ≤ k → due makes k xs ≡ []
  due_all k [] le = refl
  due_all k (x ∷ xs) le = grind arith

  parts_grown : (j k : ℕ) (x : A) (xs : List A) → due makes j xs ≡ due makes j (upto k xs) ++ due makes k xs → due makes j (x ∷ xs) ≡ due makes j xs ++ items (length xs + 1) (makes xs x) →
      due makes k (x ∷ xs) ≡ due makes k xs ++ items (length xs + 1) (makes xs x) → upto k (x ∷ xs) ≡ upto k xs → due makes j (x ∷ xs) ≡ due makes j (upto k (x ∷ xs)) ++ due makes k (x ∷ xs)
  parts_grown j k x xs e now later same = rw (now, later, same, e) (append_assoc (due makes j (upto k xs)) (due makes k xs) (items (length xs + 1) (makes xs x)))

  -- what is due beyond one turn is what is due up to a later one and what is due beyond that
  pub due_parts : (j k : ℕ) (xs : List A) → j ≤ k → due makes j xs ≡ due makes j (upto k xs) ++ due makes k xs
  due_parts j k [] le = refl
  due_parts j k (x ∷ xs) le =
      elim (leb_tells k (length xs)) [
        | inl (_, less) ↦ parts_grown j k x xs (due_parts j k xs le) (due_grown j x xs (omega arith)) (due_grown k x xs less) (upto_grown k x xs less)
        | inr (_, more) ↦ rw (upto_all k (x ∷ xs) (omega arith), due_all k (x ∷ xs) (omega arith)) (sym (append-nil (due makes j (x ∷ xs))))
      ]

  items_within : (n k : ℕ) (o : Option B) (is : List (Item B)) → n ≤ k → AreWithin k is → AreWithin k (is ++ items n o)
  items_within n k None [] le h = tt
  items_within n k (Some body) [] le h = (le, tt)
  items_within n k o (i ∷ is) le h = (h.0, items_within n k o is le h.1)

  within_more : (j k : ℕ) (is : List (Item B)) → j ≤ k → AreWithin j is → AreWithin k is
  within_more j k [] le h = tt
  within_more j k (i ∷ is) le h = (let a = h.0 in omega arith, within_more j k is le h.1)

  pub due_within : (j k : ℕ) (xs : List A) → length xs ≤ k → AreWithin k (due makes j xs)
  due_within j k [] le = tt
  due_within j k (x ∷ xs) le = go (nat_lt (length xs) j) refl (due_within j k xs (omega arith))
    where
      go : (b : Bool) → nat_lt (length xs) j ≡ b → AreWithin k (due makes j xs) → AreWithin k (due makes j (x ∷ xs))
      go true e more = rw e tt
      go false e more = rw e (items_within (length xs + 1) k (makes xs x) (due makes j xs) (omega arith) more)

  none_both : (k : ℕ) (is : List (Item B)) → AreWithin k is → AreOver k is → is ≡ []
  none_both k [] w o = refl
  none_both k (i ∷ is) w o = absurd (let a = w.0 in let b = o.0 in omega arith)

  over_front : (k : ℕ) (is js : List (Item B)) → AreOver k (is ++ js) → AreOver k is
  over_front k [] js h = tt
  over_front k (i ∷ is) js h = (h.0, over_front k is js h.1)

  -- where all that is due is of later turns, nothing is due up to a turn
  pub due_later : (j k : ℕ) (xs : List A) → j ≤ k → k ≤ length xs → AreOver k (due makes j xs) → (due makes j (upto k xs) ≡ []) × (due makes k xs ≡ due makes j xs)
  due_later j k xs le in_it over =
      let parts = due_parts j k xs le in
      let none : due makes j (upto k xs) ≡ [] = none_both k (due makes j (upto k xs)) (due_within j k (upto k xs) (let n = upto_length k xs in_it in omega arith)) (over_front k (due makes j (upto k xs)) (due makes k xs) (subst (AreOver k) parts over)) in
      (none, sym (parts ∙ ap (λ is. is ++ due makes k xs) none))

  later_first : (k : ℕ) (x : A) (xs : List A) (item : Item B) (rest : List (Item B)) → k ≤ length xs → (others : List (Item B)) → others ++ items (length xs + 1) (makes xs x) ≡ rest → IsFirstDue makes k xs item others → IsFirstDue makes k (x ∷ xs) item rest
  later_first k x xs item rest less others e first = record {
    label = first.label;
    before = first.before;
    later = first.later;
    within = le_trans first.within (omega arith);
    is_next = upto_grown item.turn x xs first.within ∙ first.is_next;
    is_body = first.is_body;
    is_quiet = first.is_quiet;
    is_rest = due_grown item.turn x xs first.within ∙ ap (λ is. is ++ items (length xs + 1) (makes xs x)) first.is_rest ∙ e;
    since = first.since;
    same_past = first.same_past ∙ sym (upto_grown k x xs less);
  }

  -- the first that is due
  pub first_due : (k : ℕ) (xs : List A) (item : Item B) (rest : List (Item B)) → k ≤ length xs → due makes k xs ≡ item ∷ rest → IsFirstDue makes k xs item rest
  first_due k [] item rest le e = cc
  first_due k (x ∷ xs) item rest le e =
      elim (leb_tells k (length xs)) [
        | inl (_, less) ↦ go less (due makes k xs) refl (makes xs x) refl (sym (due_grown k x xs less) ∙ e) (first_due k xs)
        | inr (_, more) ↦ let none : due makes k (x ∷ xs) ≡ [] = due_all k (x ∷ xs) (omega arith) in cc
      ]
    where
      go : k ≤ length xs → (was : List (Item B)) → due makes k xs ≡ was → (now : Option B) → makes xs x ≡ now → due makes k xs ++ items (length xs + 1) (makes xs x) ≡ item ∷ rest →
          ((one : Item B) (others : List (Item B)) → k ≤ length xs → due makes k xs ≡ one ∷ others → IsFirstDue makes k xs one others) → IsFirstDue makes k (x ∷ xs) item rest
      go less [] i None j m more = let none : [] ≡ item ∷ rest = rw (i, j) at m in cc
      go less [] i (Some body) j m more =
          let is : (record { turn = length xs + 1; body = body } ≡ item) × ([] ≡ rest) = cons_parts (rw (i, j) at m) in
          let t : item.turn ≡ length xs + 1 = ap (λ y. y.turn) (sym is.0) in
          record {
            label = x;
            before = xs;
            later = omega (arith, t, less);
            within = omega (arith, t);
            is_next = upto_all item.turn (x ∷ xs) (omega (arith, t));
            is_body = j ∙ ap (λ y. Some y.body) is.0;
            is_quiet = i;
            is_rest = due_all item.turn (x ∷ xs) (omega (arith, t)) ∙ is.1;
            since = less;
            same_past = sym (upto_grown k x xs less);
          }
      go less (one ∷ others) i now j m more =
          let is : (one ≡ item) × (others ++ items (length xs + 1) (makes xs x) ≡ rest) = cons_parts (rw i at m) in
          later_first k x xs item rest less others is.1 (more item others less (i ∙ ap (λ y. y ∷ others) is.0))
