-- Exact readers put together, field by field.
use Rattle.std.proofs.Common.{replicate, ◌≡◌, ◌∙◌, ℕ, zero, suc, true, Bool, List, [], ◌∷◌, ◌++◌, length, Option, None, Ok, refl, sym, ap, arith}
use Rattle.std.proofs.lemmas.List.{length-replicate}
use Rattle.dsm_fields.specs.Fields.{Any, Field, number, numbered, AreNumbered, are_fit}
use Rattle.dsm_fields.specs.Reading.{Read, then_with, kept, number_at, numbered_at}
use Rattle.dsm_fields.proofs.Exact.{Exact}
use Rattle.dsm_fields.proofs.Chain.{At, chain}
use Rattle.dsm_fields.proofs.Formats.{Has, reworded, of_part, numbered_exact}
use Rattle.dsm_fields.proofs.Numbers.{number_exact, any_number}

-- any value of the first, and then the second
pub step : {A Z : Type 0} {fa : A → List Field} {ra : List ℕ → Read A} {Is : Z → Type 0} {from : Z → A} {fb : Z → List Field} {rb : A → List ℕ → Read Z}
    → Exact Any fa ra → ((a : A) → Exact (At Is from a) fb (rb a)) → ((a : A) → (z : Z) × At Is from a z)
    → Exact Is (λ z. fa (from z) ++ fb z) (λ bytes. then_with (ra bytes) rb)
step {A} {Z} {fa} {ra} {Is} {from} {fb} {rb} ea eb some = chain Any fa ra Is from fb rb ea (λ a is fit. eb a) (λ a is. some a) (λ z is. tt)

-- some values of the first, and then the second
pub step_of : {A Z : Type 0} {IsA : A → Type 0} {fa : A → List Field} {ra : List ℕ → Read A} {Is : Z → Type 0} {from : Z → A} {fb : Z → List Field} {rb : A → List ℕ → Read Z}
    → Exact IsA fa ra → ((a : A) → IsA a → Exact (At Is from a) fb (rb a)) → ((a : A) → IsA a → (z : Z) × At Is from a z) → ((z : Z) → Is z → IsA (from z))
    → Exact Is (λ z. fa (from z) ++ fb z) (λ bytes. then_with (ra bytes) rb)
step_of {A} {Z} {IsA} {fa} {ra} {Is} {from} {fb} {rb} ea eb some isa = chain IsA fa ra Is from fb rb ea (λ a is fit. eb a is) some isa

-- what is known of a value, and one part more
pub put : {A Z : Type 0} {Is : Z → Type 0} {from : Z → A} {z : Z} → Is z → At Is from (from z) z
put is = record { is = is; same = refl }

-- the last part of a value
pub rest_of : {A Z : Type 0} {IsA : A → Type 0} {fa : A → List Field} {ra : List ℕ → Read A} (Is : Z → Type 0) (from : Z → A) (make : A → Z)
    → Exact IsA fa ra → ((a : A) → IsA a → Is (make a)) → ((a : A) → from (make a) ≡ a) → ((z : Z) → Is z → IsA (from z)) → ((z : Z) → Is z → z ≡ make (from z))
    → Exact Is (λ z. fa (from z)) (λ bytes. then_with (ra bytes) (λ a rest. Ok (make a, rest)))
rest_of {A} {Z} {IsA} {fa} {ra} Is from make = of_part IsA fa ra Is from make

-- the fields of a part that depend on what is known
pub known : {Z : Type 0} {Is : Z → Type 0} (f : Z → List Field) {g : Z → List Field} {read : List ℕ → Read Z} → ((z : Z) → Is z → f z ≡ g z) → Exact Is g read → Exact Is f read
known {Z} {Is} f {g} {read} same e = reworded Is Is g f read (λ z is. is) (λ z is. is) same e

-- ---- lists of a length

any_len : {A : Type 0} (count at : ℕ) (items : List A) → AreNumbered (λ (n : ℕ) (a : A). Any a) at count items → length items ≡ count
any_len zero at [] are = refl
any_len zero at (item ∷ items) are = absurd are
any_len (suc count) at [] are = absurd are
any_len (suc count) at (item ∷ items) are = ap suc (any_len count (suc at) items are.1)

len_any : {A : Type 0} (count at : ℕ) (items : List A) → length items ≡ count → AreNumbered (λ (n : ℕ) (a : A). Any a) at count items
len_any zero at [] len = tt
len_any zero at (item ∷ items) len = absurd (omega (arith, len))
len_any (suc count) at [] len = absurd (omega (arith, len))
len_any (suc count) at (item ∷ items) len = (tt, len_any count (suc at) items (omega (arith, len)))

-- so many entries
pub fixed_exact : {A : Type 0} (default : A) (fields : ℕ → Option A → A → List Field) (item_at : ℕ → Option A → List ℕ → Read A)
    → ((at : ℕ) (last : Option A) → Exact Any (fields at last) (item_at at last))
    → (count : ℕ) → Exact (Has count) (numbered fields 0 None) (numbered_at item_at 0 None count)
fixed_exact {A} default fields item_at each count =
    reworded (AreNumbered (λ (n : ℕ) (a : A). Any a) 0 count) (Has count) (numbered fields 0 None) (numbered fields 0 None) (numbered_at item_at 0 None count)
    (λ items are. any_len count 0 items are) (λ items len. len_any count 0 items len) (λ items len. refl)
    (numbered_exact (λ _. default) (λ (n : ℕ) (a : A). Any a) fields item_at (λ at. tt) each count 0 None)

-- as many entries as a count tells
pub told_exact : {A : Type 0} (default : A) (ok : ℕ → Bool) (read : List ℕ → Read ℕ) (fields : ℕ → Option A → A → List Field) (item_at : ℕ → Option A → List ℕ → Read A)
    → Exact Any (λ n. number 4 n (ok n) ∷ []) read
    → ((at : ℕ) (last : Option A) → Exact Any (fields at last) (item_at at last))
    → Exact Any (λ items. number 4 (length items) (ok (length items)) ∷ numbered fields 0 None items) (λ bytes. then_with (read bytes) (λ count bytes. numbered_at item_at 0 None count bytes))
told_exact {A} default ok read fields item_at count_exact each =
    chain Any (λ n. number 4 n (ok n) ∷ []) read Any length (numbered fields 0 None) (λ count bytes. numbered_at item_at 0 None count bytes) count_exact
    (λ count is fit. reworded (Has count) (At Any length count) (numbered fields 0 None) (numbered fields 0 None) (numbered_at item_at 0 None count)
    (λ a len. record { is = tt; same = len }) (λ a at. at.same) (λ a at. refl) (fixed_exact default fields item_at each count))
    (λ count is. (replicate count default, record { is = tt; same = length-replicate count default }))
    (λ z is. tt)
