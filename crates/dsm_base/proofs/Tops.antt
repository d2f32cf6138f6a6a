-- What stands topmost in a stack that is kept with its top last.
use borrow.Author.Tests.{ltb-true, ltb-false}
use Rattle.std.proofs.Common.{Bool, true, false, nat_lt, ◌≡◌, ℕ, ◌-◌, ◌<◌, ◌≤◌, List, ◌++◌, length, take, drop, refl, sym, ap, ◌∙◌, arith, length-drop}
use Rattle.std.specs.Prelude.{reverse}
use Rattle.std.proofs.lemmas.List.{reverse-append, length-reverse, take-append-drop, take_all, take_at, drop_at, drop_all, reverse-reverse, take_rest}

module _ {A : Type 0} (items : List A) (count : ℕ) where
  abbrev kept : ℕ
  kept = length items - count

  split : reverse items ≡ reverse (drop kept items) ++ reverse (take kept items)
  split = ap reverse (sym (take-append-drop kept items)) ∙ reverse-append (take kept items) (drop kept items)

  few : count ≤ length items → length (reverse (drop kept items)) ≡ count
  few h = length-reverse (drop kept items) ∙ length-drop kept items ∙ omega arith

  short : length items < count → length (reverse items) ≤ count
  short h = omega (arith, length-reverse items)

  none : length items < count → kept ≡ 0
  none h = omega arith

  pub take_top : take count (reverse items) ≡ reverse (drop kept items)
  take_top = of (nat_lt (length items) count) refl
    where
      of : (test : Bool) → nat_lt (length items) count ≡ test → take count (reverse items) ≡ reverse (drop kept items)
      of true is = let h = ltb-true (length items) count is in take_all count (reverse items) (short h) ∙ ap (λ n. reverse (drop n items)) (sym (none h))
      of false is =
          let h = ltb-false (length items) count is in
          ap (take count) split ∙ take_at (reverse (drop kept items)) (reverse (take kept items)) count (few h)

  pub drop_top : drop count (reverse items) ≡ reverse (take kept items)
  drop_top = of (nat_lt (length items) count) refl
    where
      of : (test : Bool) → nat_lt (length items) count ≡ test → drop count (reverse items) ≡ reverse (take kept items)
      of true is = let h = ltb-true (length items) count is in drop_all count (reverse items) (short h) ∙ ap (λ n. reverse (take n items)) (sym (none h))
      of false is =
          let h = ltb-false (length items) count is in
          ap (drop count) split ∙ drop_at (reverse (drop kept items)) (reverse (take kept items)) count (few h)

-- the same, as the code has it
module _ {A : Type 0} (items shown : List A) (count at : ℕ) (view : reverse items ≡ shown) (place : at ≡ length shown - count) where
  found : at ≡ length items - count
  found = place ∙ ap (λ n. n - count) (ap length (sym view) ∙ length-reverse items)

  pub shown_top : (part : List A) → part ≡ items → take (length part - at) (drop at part) ≡ reverse (take count shown)
  shown_top part same =
      rw (same, found) (take_rest items (length items - count) ∙ sym (reverse-reverse (drop (length items - count) items))
      ∙ ap reverse (sym (take_top items count)) ∙ ap (λ l. reverse (take count l)) view)

  pub shown_rest : (left : List A) → left ≡ take at items → reverse left ≡ drop count shown
  shown_rest left same = rw (same, found) (sym (drop_top items count) ∙ ap (drop count) view)
