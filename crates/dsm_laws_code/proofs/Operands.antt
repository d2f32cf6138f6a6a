-- Operands and numbers of members are the same to the tree and to its code.
use Rattle.std.proofs.Common.{◌≡◌, ℕ, ◌+◌, ◌-◌, ℤ, pos, negsuc, List, [], ◌∷◌, ◌++◌, length, Option, Some, None, refl, sym, ap, ◌∙◌}
use Rattle.std.specs.Fmt.{signed_decimal}
use Rattle.dsm_check.specs.declared.resolved.Array as check
use Rattle.dsm_check.specs.Resolved as r
use Rattle.dsm_semantics.specs.States as t
use Rattle.dsm_semantics.specs.States.{LockPlace, one_lock, lock_member}
use Rattle.dsm_semantics.specs.Semantics as s
use Rattle.dsm_code.specs.Instructions as c
use Rattle.dsm_code.specs.Programs as p
use Rattle.dsm_laws_code.specs.Instructions.{array_of, use_of, lock_target}
use Rattle.dsm_laws_code.specs.Statements.{print_of}

pub same_top : (l : List ℤ) → c.top l ≡ t.top l
same_top [] = refl
same_top (v ∷ l) = refl

pub same_below : (l : List ℤ) → c.below l ≡ t.below l
same_below [] = refl
same_below (v ∷ l) = refl

pub same_number : (array : check.Array) (index : ℤ) → c.member_number (array_of array) index ≡ s.member_number array index
same_number array (pos i) = refl
same_number array (negsuc i) = refl

-- of the index on top, and of one below the value on top
pub same_member : (array : check.Array) (l : List ℤ) → c.member_number (array_of array) (c.top l) ≡ s.member_number array (t.top l)
same_member array l = same_number array (c.top l) ∙ ap (s.member_number array) (same_top l)

pub same_second : (l : List ℤ) → c.top (c.below l) ≡ t.top (t.below l)
same_second l = same_top (c.below l) ∙ ap t.top (same_below l)

pub same_rest : (l : List ℤ) → c.below (c.below l) ≡ t.below (t.below l)
same_rest l = same_below (c.below l) ∙ ap t.below (same_below l)

pub same_stored_member : (array : check.Array) (l : List ℤ) → c.member_number (array_of array) (c.top (c.below l)) ≡ s.member_number array (t.top (t.below l))
same_stored_member array l = same_number array (c.top (c.below l)) ∙ ap (s.member_number array) (same_second l)

pub same_loaded : (way : t.Use) (index rest : List ℤ) (v : ℤ) → c.loaded (use_of way) index rest v ≡ s.loaded way index rest v
same_loaded t.for_value index rest v = refl
same_loaded t.for_change index rest v = refl
same_loaded t.for_step_behind index rest v = refl

-- a lock's number, and the operands below its index
pub same_lock : (lock : LockPlace) (l : List ℤ) → c.number_at (lock_target lock) (c.top l) ≡ s.lock_number lock l
same_lock (one_lock lock line) l = refl
same_lock (lock_member array line) l = same_member array l

pub same_lock_rest : (lock : LockPlace) (l : List ℤ) → c.below_index (lock_target lock) l ≡ s.below_index lock l
same_lock_rest (one_lock lock line) l = refl
same_lock_rest (lock_member array line) l = same_below l

-- prints
pub same_count : (parts : List r.Part) → p.values_in (print_of parts) ≡ s.values_in parts
same_count [] = refl
same_count (r.part_text text ∷ rest) = same_count rest
same_count (r.part_value e ∷ rest) = ap (λ n. n + 1) (same_count rest)

pub same_text : (parts : List r.Part) (l : List ℤ) → p.parts_text (print_of parts) l ≡ s.parts_text parts l
same_text [] l = refl
same_text (r.part_text text ∷ rest) l = ap (λ more. text ++ more) (same_text rest l)
same_text (r.part_value e ∷ rest) l =
    (λ i. signed_decimal (same_top l i) ++ p.parts_text (print_of rest) (same_below l i)) ∙ ap (λ more. signed_decimal (t.top l) ++ more) (same_text rest (t.below l))
