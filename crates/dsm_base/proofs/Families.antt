-- Laws of families, of tests of all numbers below a bound, and of lists that are read as families.
use Rattle.std.specs.Prelude.{◌≢◌}
use Rattle.std.proofs.Common.{◌≡◌, ◌<◌, ℕ, zero, suc, Bool, true, false, ◌&&◌, ◌==◌, if◌then◌else◌, List, [], ◌∷◌, ◌++◌, refl, sym, replicate, Option, Some, None, length, get_or, set, inl, inr, ap, ◌∙◌, get_or-set_same, get_or-set_other, arith}
use Rattle.std.proofs.Math.Path.{fun_ext}
use Rattle.std.proofs.lemmas.Option.{unwrap_or-slice_get}
use Rattle.std.specs.Option.{option_flatten}
use Rattle.std.specs.List.{slice_get, list_all, All}
use Rattle.std.proofs.lemmas.List.Elements.{All-append}
use Rattle.std.proofs.lemmas.Bool.Decides.{eqb_tells}
use Rattle.dsm_base.specs.Family.{update, update_at, all_below, family_of}

-- Families with one member replaced.

pub update_same : {A : Type 0} (f : ℕ → A) (k : ℕ) (v : A) → update f k v k ≡ v
update_same f k v = grind arith

pub update_other : {A : Type 0} (f : ℕ → A) (k : ℕ) (v : A) (i : ℕ) → i ≢ k → update f k v i ≡ f i
update_other f k v i ne = grind arith

pub update_twice : {A : Type 0} (f : ℕ → A) (k : ℕ) (v w : A) → update (update f k v) k w ≡ update f k w
update_twice f k v w = fun_ext (λ i. grind arith)

pub update_swap : {A : Type 0} (f : ℕ → A) (k l : ℕ) (v w : A) → k ≢ l → update (update f k v) l w ≡ update (update f l w) k v
update_swap f k l v w ne = fun_ext (λ i. grind arith)

pub update_back : {A : Type 0} (f : ℕ → A) (k : ℕ) → update f k (f k) ≡ f
update_back f k = fun_ext (λ i. grind arith)

pub update_at_same : {A : Type 0} (f : ℕ → ℕ → A) (k l : ℕ) (v : A) → update_at f k l v k l ≡ v
update_at_same f k l v = grind arith

pub update_at_other_first : {A : Type 0} (f : ℕ → ℕ → A) (k l : ℕ) (v : A) (i : ℕ) → i ≢ k → update_at f k l v i ≡ f i
update_at_other_first f k l v i ne = grind arith

pub update_at_other_second : {A : Type 0} (f : ℕ → ℕ → A) (k l : ℕ) (v : A) (i j : ℕ) → j ≢ l → update_at f k l v i j ≡ f i j
update_at_other_second f k l v i j ne = grind arith

-- what a function makes of a family with one member replaced
pub update_under : {A B : Type 0} (f : A → B) (family : ℕ → A) (k : ℕ) (item : A) → (λ i. f (update family k item i)) ≡ update (λ i. f (family i)) k (f item)
update_under f family k item i j = by (j == k) i
  where
    by : (test : Bool) → f (if test then item else family j) ≡ (if test then f item else f (family j))
    by true = refl
    by false = refl

-- Tests of all numbers below a bound.

-- what holds of all below a bound holds of each
pub all_at : (n : ℕ) (test : ℕ → Bool) (k : ℕ) → k < n → all_below n test ≡ true → test k ≡ true
all_at zero test k lt e = absurd (omega arith)
all_at (suc n) test k lt e = grind (arith, all_at n test k)

-- what holds of each below a bound holds of all
pub all_from : (n : ℕ) (test : ℕ → Bool) → ((k : ℕ) → k < n → test k ≡ true) → all_below n test ≡ true
all_from zero test h = refl
all_from (suc n) test h = grind (arith, h n, all_from n test (λ k lt. h k (omega arith)))

-- two tests that are the same below a bound
pub all_same : (n : ℕ) (f g : ℕ → Bool) → ((k : ℕ) → k < n → f k ≡ g k) → all_below n f ≡ all_below n g
all_same zero f g h = refl
all_same (suc n) f g h = grind (arith, h n, all_same n f g (λ k lt. h k (omega arith)))

swapped : (a b c : Bool) → (a && (b && c)) ≡ (b && (a && c))
swapped true b c = refl
swapped false true c = refl
swapped false false c = refl

first_apart : (count : ℕ) (test : ℕ → Bool) → all_below (suc count) test ≡ (test 0 && all_below count (λ k. test (suc k)))
first_apart zero test = refl
first_apart (suc count) test =
    ap (λ b. test (suc count) && b) (first_apart count test) ∙ swapped (test (suc count)) (test 0) (all_below count (λ k. test (suc k)))

-- a test of all items of a list, by their numbers
pub all_items : {A : Type 0} (test : A → Bool) (default : ℕ → A) (items : List A) → list_all test items ≡ all_below (length items) (λ k. test (family_of default items k))
all_items test default [] = refl
all_items test default (item ∷ items) =
    ap (λ b. test item && b) (all_items test (λ k. default (suc k)) items) ∙ sym (first_apart (length items) (λ k. test (family_of default (item ∷ items) k)))

-- Lists that are read as families.

-- one item replaced is one member replaced
pub family_of_set : {A : Type 0} (default : ℕ → A) (items : List A) (k : ℕ) (item : A) → k < length items → family_of default (set items k item) ≡ update (family_of default items) k item
family_of_set default items k item within i j =
    elim (eqb_tells j k) as (λ _. family_of default (set items k item) j ≡ update (family_of default items) k item j) [
      | inl (same, is) ↦ rw same (ap (λ n. get_or (set items k item) n (default j)) is ∙ get_or-set_same items k item (default j) within)
      | inr (other, differs) ↦ rw other (get_or-set_other items k j item (default j) differs)
    ] i

-- the item at an index, where there is one, and else the default
pub ruleset items_or_default = (unwrap_or-slice_get)

-- of items that may be missing, the one at an index
pub flatten_item : {A : Type 0} (items : List (Option A)) (i : ℕ) → option_flatten (slice_get items i) ≡ get_or items i None
flatten_item [] i = refl
flatten_item (item ∷ items) zero = elim item as (λ o. option_flatten (Some o) ≡ o) [ None ↦ refl | Some x ↦ refl ]
flatten_item (item ∷ items) (suc i) = flatten_item items i

-- a list of defaults is the family of them
pub family_of_replicate : {A : Type 0} (count : ℕ) (item : A) → family_of (λ _. item) (replicate count item) ≡ (λ _. item)
family_of_replicate count item i k = items_are count k i
  where
    items_are : (n j : ℕ) → get_or (replicate n item) j item ≡ item
    items_are zero j = refl
    items_are (suc n) zero = refl
    items_are (suc n) (suc j) = items_are n j

-- a family of defaults, one item on
pub family_of_push : {A : Type 0} (default : ℕ → A) (items : List A) (item : A) → item ≡ default (length items) → ((i : ℕ) → family_of default items i ≡ default i) → (i : ℕ) → family_of default (items ++ item ∷ []) i ≡ default i
family_of_push default [] item is before zero = is
family_of_push default [] item is before (suc i) = refl
family_of_push default (first ∷ items) item is before zero = before zero
family_of_push default (first ∷ items) item is before (suc i) = family_of_push (λ k. default (suc k)) items item is (λ k. before (suc k)) i

-- what a function makes of each of a list and of the default, one item on
pub push_under : {A B : Type 0} (f : A → B) (default : A) (items : List A) (item : A) → f item ≡ f default → ((i : ℕ) → f (family_of (λ _. default) items i) ≡ f default)
    → (i : ℕ) → f (family_of (λ _. default) (items ++ item ∷ []) i) ≡ f default
push_under f default [] item is before zero = is
push_under f default [] item is before (suc i) = refl
push_under f default (first ∷ items) item is before zero = before zero
push_under f default (first ∷ items) item is before (suc i) = push_under f default items item is (λ k. before (suc k)) i

-- what holds of all holds of all with one more
pub all_push : {A : Type 0} (P : A → Type 0) (items : List A) (item : A) → All P items → P item → All P (items ++ item ∷ [])
all_push {A} P items item all one = All-append P items (item ∷ []) all (λ k d below. by k d below)
  where
    by : (k : ℕ) (d : A) → k < 1 → P (get_or (item ∷ []) k d)
    by zero d below = one
    by (suc k) d below = absurd (omega arith)
