-- What is written.
use Rattle.std.proofs.Common.{◌≡◌, ◌∙◌, ℕ, suc, ◌+◌, List, [], ◌∷◌, ◌++◌, length, Option, Some, refl, sym, ap, append_assoc, arith}
use Rattle.dsm_fields.specs.Fields.{Field, numbered}

-- the last of some, or what was last before them
abbrev pub last_after : {A : Type 0} → Option A → List A → Option A
last_after last [] = last
last_after last (item ∷ items) = last_after (Some item) items

pub numbered_append : {A : Type 0} (fields : ℕ → Option A → A → List Field) (at : ℕ) (last : Option A) (xs ys : List A)
    → numbered fields at last (xs ++ ys) ≡ numbered fields at last xs ++ numbered fields (at + length xs) (last_after last xs) ys
numbered_append fields at last [] ys = ap (λ (n : ℕ). numbered fields n last ys) (omega arith)
numbered_append fields at last (x ∷ xs) ys =
    let place : suc at + length xs ≡ at + suc (length xs) = omega arith in
    ap (λ (w : List Field). fields at last x ++ w) (numbered_append fields (suc at) (Some x) xs ys)
    ∙ sym (append_assoc (fields at last x) (numbered fields (suc at) (Some x) xs) (numbered fields (suc at + length xs) (last_after (Some x) xs) ys))
    ∙ ap (λ (n : ℕ). (fields at last x ++ numbered fields (suc at) (Some x) xs) ++ numbered fields n (last_after (Some x) xs) ys) place

pub last_of_one : {A : Type 0} (xs : List A) (x : A) (last : Option A) → last_after last (xs ++ x ∷ []) ≡ Some x
last_of_one [] x last = refl
last_of_one (first ∷ xs) x last = last_of_one xs x (Some first)
