-- A list that is parted by a test, item by item.
use Rattle.std.proofs.Common.{◌≡◌, ◌∙◌, ℕ, ◌+◌, ◌<◌, zero, suc, Bool, true, false, List, [], ◌∷◌, ◌++◌, length, get_or, take, drop, filter, remove, refl, sym, ap, append_assoc, arith}
use Rattle.std.proofs.lemmas.Bool.{cond-true, cond-false}
use Rattle.std.proofs.lemmas.List.{take_more}
use Rattle.dsm_segments.proofs.Lists.{drop_item}

module _ {A : Type 0} where
  drop_removed : (at : ℕ) (list : List A) → at < length list → drop at (remove list at) ≡ drop (suc at) list
  drop_removed at [] lt = absurd (omega arith)
  drop_removed zero (x ∷ list) lt = refl
  drop_removed (suc at) (x ∷ list) lt = drop_removed at list (omega arith)

  take_removed : (at : ℕ) (list : List A) → at < length list → take at (remove list at) ≡ take at list
  take_removed at [] lt = absurd (omega arith)
  take_removed zero (x ∷ list) lt = refl
  take_removed (suc at) (x ∷ list) lt = ap (λ (l : List A). x ∷ l) (take_removed at list (omega arith))

  pub drop_removed_from : (at : ℕ) (list : List A) → at < length list → drop at (remove list at) ≡ drop (at + 1) list
  drop_removed_from at list lt = let on : suc at ≡ at + 1 = omega arith in drop_removed at list lt ∙ ap (λ n. drop n list) on

module _ {A : Type 0} (test : A → Bool) (list : List A) (at : ℕ) (x : A) (lt : at < length list) (is : x ≡ get_or list at x) where
  pub filter_in : test x ≡ true → filter test (drop at list) ≡ x ∷ filter test (drop (at + 1) list)
  filter_in in_it = ap (filter test) (drop_item list at x lt is) ∙ cond-true (test x) _ _ in_it

  pub filter_out : test x ≡ false → filter test (drop at list) ≡ filter test (drop (at + 1) list)
  filter_out out = ap (filter test) (drop_item list at x lt is) ∙ cond-false (test x) _ _ out

  -- an item is found
  pub found_more : (found all : List A) → test x ≡ true → found ++ filter test (drop at list) ≡ all → (found ++ x ∷ []) ++ filter test (drop (at + 1) list) ≡ all
  found_more found all in_it so_far =
      append_assoc found (x ∷ []) (filter test (drop (at + 1) list)) ∙ ap (λ (l : List A). found ++ l) (sym (filter_in in_it)) ∙ so_far

  -- an item is passed over
  pub found_same : (found all : List A) → test x ≡ false → found ++ filter test (drop at list) ≡ all → found ++ filter test (drop (at + 1) list) ≡ all
  found_same found all out so_far = ap (λ (l : List A). found ++ l) (sym (filter_out out)) ∙ so_far

  -- an item is taken out of the list
  pub taken_found : (found all : List A) → test x ≡ true → found ++ filter test (drop at list) ≡ all → (found ++ x ∷ []) ++ filter test (drop at (remove list at)) ≡ all
  taken_found found all in_it so_far =
      ap (λ (l : List A). (found ++ x ∷ []) ++ filter test l) (drop_removed_from at list lt) ∙ found_more found all in_it so_far

  -- what is left of the list behind it is what it was
  pub taken_left : (all : List A) → test x ≡ false → take at list ++ filter test (drop at list) ≡ all
      → take at (remove list at) ++ filter test (drop at (remove list at)) ≡ all
  taken_left all out so_far =
      ap (λ (l : List A). l ++ filter test (drop at (remove list at))) (take_removed at list lt)
      ∙ ap (λ (l : List A). take at list ++ filter test l) (drop_removed_from at list lt)
      ∙ ap (λ (l : List A). take at list ++ l) (sym (filter_out out)) ∙ so_far

  -- an item stays in the list
  pub stays_left : (all : List A) → test x ≡ true → take at list ++ filter test (drop at list) ≡ all → take (at + 1) list ++ filter test (drop (at + 1) list) ≡ all
  stays_left all in_it so_far =
      ap (λ (l : List A). l ++ filter test (drop (at + 1) list)) (take_more list at x lt ∙ ap (λ (y : A). take at list ++ y ∷ []) (sym is))
      ∙ append_assoc (take at list) (x ∷ []) (filter test (drop (at + 1) list))
      ∙ ap (λ (l : List A). take at list ++ l) (sym (filter_in in_it)) ∙ so_far
