-- All numbers of a range but one.
use Rattle.std.specs.Prelude.{◌≡◌, ◌<◌, ◌≤◌, ◌==◌, ℕ, zero, suc, ◌+◌, ◌-◌, false, not, List, [], ◌∷◌, length, filter}
use Rattle.std.specs.List.{range_with_len, AllByRecursion}
use Rattle.std.proofs.Common.{◌∙◌, ap, refl, arith, get_or, inl, inr, eqb-true}
use Rattle.std.proofs.lemmas.Bool.{cases_Bool}
use Rattle.std.proofs.lemmas.Bool.Decides.{nat_tests}
use Rattle.std.proofs.lemmas.List.FromFn.{length-range_with_len, get_or-range_with_len}

pub differs : (a b : ℕ) → a < b → (a == b) ≡ false
differs a b h = grind (arith, nat_tests)

differs_above : (a b : ℕ) → b < a → (a == b) ≡ false
differs_above a b h = grind (arith, nat_tests)

pub is_not : (a b : ℕ) → (a == b) ≡ false → a ≡ b → ⊥
is_not a b e same = grind (arith, nat_tests)

abbrev pub others_in : ℕ → ℕ → ℕ → List ℕ
others_in proc from count = filter (λ other. not (other == proc)) (range_with_len from count)

above : (proc from count : ℕ) → proc < from → others_in proc from count ≡ range_with_len from count
above proc from zero h = refl
above proc from (suc count) h = rw (differs_above from proc h) (ap (λ rest. from ∷ rest) (above proc (from + 1) count (omega arith)))

-- they are one fewer
pub length-others : (proc from count : ℕ) → from ≤ proc → proc < from + count → length (others_in proc from count) + 1 ≡ count
length-others proc from zero low high = absurd (omega arith)
length-others proc from (suc count) low high = elim (cases_Bool (from == proc)) [
  | inl e ↦
      let is : from ≡ proc = eqb-true from proc e in
      let rest : others_in proc (from + 1) count ≡ range_with_len (from + 1) count = above proc (from + 1) count (omega arith) in
      rw e (rw rest (omega (arith, length-range_with_len (from + 1) count)))
  | inr e ↦
      let less : from < proc = omega (arith, is_not from proc e) in
      let rest : length (others_in proc (from + 1) count) + 1 ≡ count = length-others proc (from + 1) count (omega arith) (omega arith) in
      rw e (omega (arith, rest))
]

-- those below it stand where they stood
pub lower_at : (proc from count j d : ℕ) → from + j < proc → proc < from + count → get_or (others_in proc from count) j d ≡ from + j
lower_at proc from zero j d low high = absurd (omega arith)
lower_at proc from (suc count) zero d low high = rw (differs from proc (omega arith)) (omega arith)
lower_at proc from (suc count) (suc j) d low high =
    let rest : get_or (others_in proc (from + 1) count) j d ≡ from + 1 + j = lower_at proc (from + 1) count j d (omega arith) (omega arith) in
    rw (differs from proc (omega arith)) (rest ∙ omega arith)

further : (from : ℕ) (rest : List ℕ) (j d : ℕ) → 0 < j → get_or rest (j - 1) d ≡ from + 1 + (j - 1) + 1 → get_or (from ∷ rest) j d ≡ from + j + 1
further from rest zero d some is = absurd (omega arith)
further from rest (suc j) d some is =
    let same : suc j - 1 ≡ j = omega arith in
    let there : get_or rest j d ≡ from + 1 + j + 1 = rw same at is in
    there ∙ omega arith

-- those above it stand one place further to the front
pub upper_at : (proc from count j d : ℕ) → from ≤ proc → proc ≤ from + j → j + 1 < count → get_or (others_in proc from count) j d ≡ from + j + 1
upper_at proc from zero j d low high within = absurd (omega arith)
upper_at proc from (suc count) j d low high within = elim (cases_Bool (from == proc)) [
  | inl e ↦
      let is : from ≡ proc = eqb-true from proc e in
      let rest : others_in proc (from + 1) count ≡ range_with_len (from + 1) count = above proc (from + 1) count (omega arith) in
      rw e (rw rest (get_or-range_with_len (from + 1) count j d (omega arith) ∙ omega arith))
  | inr e ↦
      let less : from < proc = omega (arith, is_not from proc e) in
      rw e (further from (others_in proc (from + 1) count) j d (omega (arith, less, high)) (upper_at proc (from + 1) count (j - 1) d (omega (arith, less)) (omega (arith, less, high)) (omega (arith, less, high))))
]

-- each is another number of the range
pub record IsOther (proc from count other : ℕ) : Type 0 where
  pub differs : (proc == other) ≡ false
  pub low : from ≤ other
  pub high : other < from + count

flipped : (a b : ℕ) → (a == b) ≡ false → (b == a) ≡ false
flipped a b e = grind (arith, nat_tests)

wider : (proc from count : ℕ) (list : List ℕ) → AllByRecursion (IsOther proc (from + 1) count) list → AllByRecursion (IsOther proc from (suc count)) list
wider proc from count [] all = tt
wider proc from count (other ∷ list) all =
    (record { differs = all.0.differs; low = omega (arith, all.0.low); high = omega (arith, all.0.high) }, wider proc from count list all.1)

pub are_others : (proc from count : ℕ) → AllByRecursion (IsOther proc from count) (others_in proc from count)
are_others proc from zero = tt
are_others proc from (suc count) =
    let rest : AllByRecursion (IsOther proc from (suc count)) (others_in proc (from + 1) count) = wider proc from count (others_in proc (from + 1) count) (are_others proc (from + 1) count) in
    elim (cases_Bool (from == proc)) [
      | inl e ↦ rw e rest
      | inr e ↦ rw e (record { differs = flipped from proc e; low = omega arith; high = omega arith }, rest)
    ]
