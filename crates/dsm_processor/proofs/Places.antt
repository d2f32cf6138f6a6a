-- The element that a search finds, and what stays when it is taken out.
use Rattle.std.proofs.Common.{◌≡◌, ◌<◌, ℕ, zero, suc, Bool, true, false, cond, List, [], ◌∷◌, length, get_or, refl, ap, ◌∙◌, arith, Some, None}
use Rattle.std.specs.List.{find, position, position_or_len, filter, remove, slice_get}
use Rattle.std.proofs.lemmas.List.Folds.{find_at}
use Rattle.std.proofs.lemmas.List.Quantifiers.{position-Some}
use Rattle.std.proofs.lemmas.Option.{slice_get_past, slice_get_read}
use Rattle.std.proofs.lemmas.Bool.{ltb-false}

no_place : (passes : Bool) (n : ℕ) → cond passes (Some n) None ≡ None → passes ≡ false
no_place true n e = cc
no_place false n e = refl

the_place : (passes : Bool) (n i : ℕ) → cond passes (Some n) None ≡ Some i → n ≡ i
the_place true n i e = cc
the_place false n i e = cc

pub find_none : {A : Type 0} (test : A → Bool) (items : List A) → position test items ≡ None → find test items ≡ None
find_none test items none =
    find_at test items ∙ slice_get_past items _ (ltb-false (position_or_len test items) (length items) (no_place _ (position_or_len test items) none))

pub find_some : {A : Type 0} (test : A → Bool) (items : List A) (i : ℕ) (item : A) → position test items ≡ Some i → item ≡ get_or items i item → find test items ≡ Some item
find_some test items i item some is =
    find_at test items
    ∙ ap (slice_get items) (the_place _ (position_or_len test items) i some)
    ∙ slice_get_read items (length items) i item refl (position-Some test items i item some).0 is

-- the others stay where an element that doesn't pass is taken out
filter_without : {A : Type 0} (keeps : A → Bool) (items : List A) (i : ℕ) (item : A) → i < length items → keeps (get_or items i item) ≡ false → filter keeps (remove items i) ≡ filter keeps items
filter_without keeps [] i item within fails = absurd (omega arith)
filter_without keeps (first ∷ items) zero item within fails = rw fails refl
filter_without keeps (first ∷ items) (suc i) item within fails =
    elim (keeps first) as (λ b. cond b (first ∷ filter keeps (remove items i)) (filter keeps (remove items i)) ≡ cond b (first ∷ filter keeps items) (filter keeps items)) [
      | true ↦ ap (λ others. first ∷ others) (filter_without keeps items i item (omega arith) fails)
      | false ↦ filter_without keeps items i item (omega arith) fails
    ]

-- the others stay where the first that passes one test is taken out, which another test excludes
pub filter_removed : {A : Type 0} (test keeps : A → Bool) → ((item : A) → test item ≡ true → keeps item ≡ false) → (items : List A) (i : ℕ) (item : A) → position test items ≡ Some i → filter keeps (remove items i) ≡ filter keeps items
filter_removed test keeps excludes items i item some =
    let found = position-Some test items i item some in
    filter_without keeps items i item found.0 (excludes (get_or items i item) found.1)
