-- What is made of those of a list that pass a test, and of those that are left.
use Rattle.std.proofs.Common.{◌≡◌, ℕ, ◌+◌, ◌<◌, ◌≤◌, Bool, true, false, List, [], ◌∷◌, ◌++◌, length, get_or, drop, map, filter, add-one, refl, sym, ap, ◌∙◌, append_assoc, append-nil, arith}
use Rattle.std.proofs.Math.Seq.{drop-cons}
use Rattle.std.proofs.lemmas.Grind.{common_steps}

module _ {A B : Type 0} (f : A → B) (test : A → Bool) (items : List A) (all : List B) where
  next : (i : ℕ) (default : A) → i < length items → drop i items ≡ get_or items i default ∷ drop (i + 1) items
  next i default within = drop-cons items i default within ∙ ap (λ n. get_or items i default ∷ drop n items) (sym (add-one i))

  passing : (one : A) (others : List A) → test one ≡ true → map f (filter test (one ∷ others)) ≡ f one ∷ map f (filter test others)
  passing one others passes = rw passes refl

  failing : (one : A) (others : List A) → test one ≡ false → map f (filter test (one ∷ others)) ≡ map f (filter test others)
  failing one others fails = rw fails refl

  -- the next one passes
  pub next_in : (done : List B) (i : ℕ) (default : A) → i < length items → test (get_or items i default) ≡ true
      → done ++ map f (filter test (drop i items)) ≡ all → (done ++ f (get_or items i default) ∷ []) ++ map f (filter test (drop (i + 1) items)) ≡ all
  next_in done i default within passes so_far =
      append_assoc done (f (get_or items i default) ∷ []) (map f (filter test (drop (i + 1) items)))
      ∙ ap (λ more. done ++ more) (sym (ap (λ xs. map f (filter test xs)) (next i default within) ∙ passing (get_or items i default) (drop (i + 1) items) passes))
      ∙ so_far

  -- it doesn't
  pub next_out : (done : List B) (i : ℕ) (default : A) → i < length items → test (get_or items i default) ≡ false
      → done ++ map f (filter test (drop i items)) ≡ all → done ++ map f (filter test (drop (i + 1) items)) ≡ all
  next_out done i default within fails so_far =
      ap (λ more. done ++ more) (sym (ap (λ xs. map f (filter test xs)) (next i default within) ∙ failing (get_or items i default) (drop (i + 1) items) fails))
      ∙ so_far

  -- nothing is left
  pub none_left : (done : List B) (i : ℕ) → length items ≤ i → done ++ map f (filter test (drop i items)) ≡ all → done ≡ all
  none_left done i past so_far =
      let empty : drop i items ≡ [] = grind (arith, common_steps) in
      sym (append-nil done) ∙ ap (λ xs. done ++ map f (filter test xs)) (sym empty) ∙ so_far
