-- Lists of zeros, and the first place at which another list isn't one.
use Rattle.std.proofs.Common.{replicate, get_or, ◌+◌, min, ◌≡◌, ◌≢◌, ◌∙◌, ℕ, zero, suc, ◌<◌, ◌≤◌, List, [], ◌∷◌, length, Some, None, refl, sym, ap, arith, inl, inr}
use Rattle.std.specs.Prelude.{slice_get}
use Rattle.std.proofs.lemmas.Bool.{cases_lt}
use Rattle.dsm_image.specs.Frame.{IsFirstOther}

pub zero_at : (n i : ℕ) → i < n → slice_get {X = ℕ} (replicate n 0) i ≡ Some 0
zero_at zero i lt = absurd (omega (arith, lt))
zero_at (suc n) zero lt = refl
zero_at (suc n) (suc i) lt = zero_at n i (omega (arith, lt))

none_behind : (xs : List ℕ) (i : ℕ) → length xs ≤ i → slice_get xs i ≡ None
none_behind [] i le = refl
none_behind (x ∷ xs) zero le = absurd (omega (arith, le))
none_behind (x ∷ xs) (suc i) le = none_behind xs i (omega (arith, le))

zeros_end : (n i : ℕ) → n ≤ i → slice_get {X = ℕ} (replicate n 0) i ≡ None
zeros_end zero i le = refl
zeros_end (suc n) zero le = absurd (omega (arith, le))
zeros_end (suc n) (suc i) le = zeros_end n i (omega (arith, le))

one_at : (xs : List ℕ) (i : ℕ) → i < length xs → (x : ℕ) × (slice_get xs i ≡ Some x)
one_at [] i lt = absurd (omega (arith, lt))
one_at (x ∷ xs) zero lt = (x, refl)
one_at (x ∷ xs) (suc i) lt = one_at xs i (omega (arith, lt))

some_not_none : (x : ℕ) → Some x ≢ None
some_not_none x e = absurd cc

pub all_zeros : (xs : List ℕ) (n : ℕ) → length xs ≡ n → ((i : ℕ) → i < n → slice_get xs i ≡ Some 0) → xs ≡ replicate n 0
all_zeros [] zero len each = refl
all_zeros [] (suc n) len each = absurd (omega (arith, len))
all_zeros (x ∷ xs) zero len each = absurd (omega (arith, len))
all_zeros (x ∷ xs) (suc n) len each =
    let first : Some x ≡ Some 0 = each 0 (omega arith) in
    let is : x ≡ 0 = cc in
    rw (is, all_zeros xs n (omega (arith, len)) (λ i lt. each (suc i) (omega (arith, lt)))) refl

-- a number that isn't 0, behind zeros
pub other_number : (xs : List ℕ) (zeros at x : ℕ) → at < zeros → slice_get xs at ≡ Some x → x ≢ 0 → ((i : ℕ) → i < at → slice_get xs i ≡ Some 0) → IsFirstOther at xs (replicate zeros 0)
other_number xs zeros at x lt here not each = record {
  same = λ i below. each i below ∙ sym (zero_at zeros i (omega (arith, lt, below)));
  other = λ e. let one : Some x ≡ Some 0 = sym here ∙ e ∙ zero_at zeros at lt in not cc;
}

-- another length, behind zeros
pub other_length : (xs : List ℕ) (zeros at : ℕ) → at ≡ min (length xs) zeros → length xs ≢ zeros → ((i : ℕ) → i < at → slice_get xs i ≡ Some 0) → IsFirstOther at xs (replicate zeros 0)
other_length xs zeros at is not each = record {
  same = λ i below. each i below ∙ sym (zero_at zeros i (omega (arith, is, below)));
  other = ends;
}
  where
    ends : slice_get xs at ≢ slice_get {X = ℕ} (replicate zeros 0) at
    ends e =
        elim (cases_lt (length xs) zeros) [
          | inl lt ↦ some_not_none 0 (sym (zero_at zeros at (omega (arith, is, lt))) ∙ sym e ∙ none_behind xs at (omega (arith, is, lt)))
          | inr le ↦ elim (cases_lt zeros (length xs)) [
            | inl more ↦
                let one = one_at xs at (omega (arith, is, more)) in
                some_not_none one.0 (sym one.1 ∙ e ∙ zeros_end zeros at (omega (arith, is, more)))
            | inr less ↦ absurd (not (omega (arith, le, less)))
          ]
        ]

-- zeros differ from another list behind their end at the latest
pub at_most : (xs : List ℕ) (n at : ℕ) → IsFirstOther at xs (replicate n 0) → at ≤ n
at_most xs n at first =
    elim (cases_lt n at) [
      | inl lt ↦ elim (cases_lt n (length xs)) [
        | inl more ↦
            let one = one_at xs n more in
            absurd (some_not_none one.0 (sym one.1 ∙ first.same n lt ∙ zeros_end n n (omega arith)))
        | inr le ↦ absurd (first.other (none_behind xs at (omega (arith, le, lt)) ∙ sym (zeros_end n at (omega (arith, lt)))))
      ]
      | inr le ↦ omega (arith, le)
    ]

-- the number at a place
pub number_at_place : (xs : List ℕ) (i : ℕ) → i < length xs → slice_get xs i ≡ Some (get_or xs i 0)
number_at_place [] i lt = absurd (omega (arith, lt))
number_at_place (x ∷ xs) zero lt = refl
number_at_place (x ∷ xs) (suc i) lt = number_at_place xs i (omega (arith, lt))

-- one zero more
pub zeros_more : (xs : List ℕ) (at : ℕ) → at < length xs → get_or xs at 0 ≡ 0 → ((i : ℕ) → i < at → slice_get xs i ≡ Some 0) → (i : ℕ) → i < at + 1 → slice_get xs i ≡ Some 0
zeros_more xs at lt is each i below =
    elim (cases_lt i at) [
      | inl less ↦ each i less
      | inr le ↦
          let same : i ≡ at = omega (arith, le, below) in
          ap (slice_get xs) same ∙ number_at_place xs at lt ∙ ap (λ (x : ℕ). Some x) is
    ]
