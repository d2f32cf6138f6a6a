-- What passes a test in a range of numbers, one more at a time.
use Rattle.std.proofs.Common.{◌≡◌, ℕ, zero, suc, ◌+◌, ◌-◌, ◌<◌, ◌≤◌, Bool, true, false, [], ◌∷◌, ◌++◌, filter, refl, ap, ◌∙◌, arith, append-nil, Option, Some, None}
use Rattle.std.specs.List.{range_with_len}
use Rattle.std.proofs.lemmas.List.Elements.{filter-append}
use Rattle.dsm_lines.specs.Bits.{IsFirst}

pub range_split : (a m n : ℕ) → range_with_len a (m + n) ≡ range_with_len a m ++ range_with_len (a + m) n
range_split a zero n =
    let count : zero + n ≡ n = omega arith in
    let start : a ≡ a + zero = omega arith in
    λ i. range_with_len (start i) (count i)
range_split a (suc m) n =
    let count : suc m + n ≡ suc (m + n) = omega arith in
    let start : a + 1 + m ≡ a + suc m = omega arith in
    ap (range_with_len a) count ∙ ap (λ ns. a ∷ ns) (range_split (a + 1) m n ∙ ap (λ k. range_with_len (a + 1) m ++ range_with_len k n) start)

none_pass : (test : ℕ → Bool) (a n : ℕ) → ((i : ℕ) → a ≤ i → i < a + n → test i ≡ false) → filter test (range_with_len a n) ≡ []
none_pass test a zero fails = refl
none_pass test a (suc n) fails =
    rw (fails a (omega arith) (omega arith)) (none_pass test (a + 1) n (λ i above below. fails i (omega arith) (omega arith)))

-- none passes from a place on
pub rest_fails : (test : ℕ → Bool) (a m n from end : ℕ) → a + m ≡ from → a + n ≡ end → from ≤ end → ((i : ℕ) → from ≤ i → i < end → test i ≡ false)
    → filter test (range_with_len a n) ≡ filter test (range_with_len a m)
rest_fails test a m n from end start stop within fails =
    let count : n ≡ m + (end - from) = omega arith in
    ap (λ k. filter test (range_with_len a k)) count
    ∙ ap (filter test) (range_split a m (end - from))
    ∙ filter-append test (range_with_len a m) _
    ∙ ap (λ ns. filter test (range_with_len a m) ++ ns) (none_pass test (a + m) (end - from) (λ i above below. fails i (omega arith) (omega arith)))
    ∙ append-nil _

one_passes : (test : ℕ → Bool) (i : ℕ) → test i ≡ true → filter test (i ∷ []) ≡ i ∷ []
one_passes test i passes = rw passes refl

-- the first that passes from a place on is the one that comes next
pub next_passes : (test : ℕ → Bool) (a m n from next : ℕ) → a + m ≡ from → a + n ≡ next + 1 → IsFirst test from (Some next)
    → filter test (range_with_len a n) ≡ filter test (range_with_len a m) ++ next ∷ []
next_passes test a m n from next start stop first =
    let above : from ≤ next = first.0 in
    let count : n ≡ (next - a) + 1 = omega arith in
    let place : a + (next - a) ≡ next = omega arith in
    ap (λ k. filter test (range_with_len a k)) count
    ∙ ap (filter test) (range_split a (next - a) 1)
    ∙ filter-append test (range_with_len a (next - a)) _
    ∙ (λ i. rest_fails test a m (next - a) from next start place above first.2 i ++ filter test (place i ∷ []))
    ∙ ap (λ ns. filter test (range_with_len a m) ++ ns) (one_passes test next first.1)

-- none passes any more
pub none_left : (test : ℕ → Bool) (a m n from end : ℕ) (result : Option ℕ) → a + m ≡ from → a + n ≡ end → from ≤ end → IsFirst test from result → ((next : ℕ) → result ≡ Some next → ⊥)
    → filter test (range_with_len a n) ≡ filter test (range_with_len a m)
none_left test a m n from end None start stop within first none = rest_fails test a m n from end start stop within (λ i above below. first i above)
none_left test a m n from end (Some next) start stop within first none = absurd (none next refl)

-- one number more, which passes or doesn't
pub one_more_passes : (test : ℕ → Bool) (a m n next : ℕ) → a + m ≡ next → a + n ≡ next + 1 → test next ≡ true → filter test (range_with_len a n) ≡ filter test (range_with_len a m) ++ next ∷ []
one_more_passes test a m n next start stop passes =
    next_passes test a m n next next start stop (omega arith, passes, λ i above below. absurd (omega arith))

pub one_more_fails : (test : ℕ → Bool) (a m n next : ℕ) → a + m ≡ next → a + n ≡ next + 1 → test next ≡ false → filter test (range_with_len a n) ≡ filter test (range_with_len a m)
one_more_fails test a m n next start stop fails =
    rest_fails test a m n next (next + 1) start stop (omega arith)
    (λ i above below.
    let same : i ≡ next = omega arith in
    ap test same ∙ fails)
