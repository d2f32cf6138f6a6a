-- Tests that hold together, and what is known of a check that succeeded.
use Rattle.std.proofs.Common.{◌≡◌, ℕ, ◌≤◌, nat_lt, min, Bool, true, false, ◌&&◌, List, [], ◌∷◌, ◌++◌, Ok, Err, refl, subst, if◌then◌else◌, arith}
use Rattle.std.specs.List.{list_all}
use Rattle.std.proofs.lemmas.Bool.Decides.{nat_tests}
use Rattle.dsm_syntax.specs.declared.errors.ProgErr.TheVariants as err
use Rattle.dsm_syntax.specs.declared.errors.Which.{Which}
use Rattle.dsm_check.specs.Checks.{Check, within}
use Rattle.dsm_check.proofs.Successes.{both_true}

pub both : {a b : Bool} → a ≡ true → b ≡ true → (a && b) ≡ true
both {a} {b} one other = rw one other

pub ok_in : {A : Type 0} (P : A → Type 0) (a b : A) → ◌≡◌ {A = Check A} (Ok a) (Ok b) → P a → P b
ok_in P a b h p = let same : a ≡ b = cc in subst P same p

-- a count within its limit stays what it is
pub within_is : (which : Which) (most count made : ℕ) → within which most count ≡ Ok made → (made ≡ count) × (count ≤ most)
within_is which most count made h = by (nat_lt most count) refl h
  where
    by : (over : Bool) → nat_lt most count ≡ over → (if over then Err (err.Limit which (min count 4294967295)) else Ok count) ≡ Ok made
        → (made ≡ count) × (count ≤ most)
    by true e h = (cc, cc)
    by false e h = (cc, grind (arith, nat_tests))

pub all_more : {A : Type 0} (test : A → Bool) (items : List A) (item : A) → list_all test items ≡ true → test item ≡ true
    → list_all test (items ++ item ∷ []) ≡ true
all_more test [] item all one = both one refl
all_more test (first ∷ items) item all one =
    let split = both_true (test first) (list_all test items) all in both split.0 (all_more test items item split.1 one)
