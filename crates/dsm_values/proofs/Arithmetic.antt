-- Arithmetic of values.
use Rattle.std.proofs.Common.{◌≡◌, zero, suc, true, false, ℤ, pos, negsuc, ◌-ℤ◌, ◌*ℤ◌, Ok, refl, arith, FitsSigned, w64, to_z, of_z}
use Rattle.std.specs.Prelude.{int_div, int_rem}
use Rattle.std.specs.Ordering.{int_eq}
use Rattle.std.specs.Int.{CanDivide}
use Rattle.std.proofs.lemmas.Int.{quot-rem, ints, to_z-of_z}
use Rattle.std.proofs.lemmas.Bool.Decides.{nat_tests}
use Rattle.dsm_values.specs.Values.{fits_64_bits, unless_zero, remainder, Outcome}

-- a remainder is what the quotient leaves
remainder_is : (a d : ℤ) → a -ℤ int_div a d *ℤ d ≡ int_rem a d
remainder_is a d = omega (arith, ints, quot-rem a d)

fits : (z : ℤ) → FitsSigned w64 z → fits_64_bits z ≡ true
fits (pos n) h = grind (arith, nat_tests)
fits (negsuc n) h = grind (arith, nat_tests)

not_zero : (d : ℤ) → (of_z w64 d ≡ 0 → ⊥) → int_eq d (pos 0) ≡ false
not_zero (pos zero) h = absurd (h refl)
not_zero (pos (suc n)) h = grind (arith, nat_tests)
not_zero (negsuc n) h = refl

pub remainder_fits : (a d rest : ℤ) → (of_z w64 d ≡ 0 → ⊥) → CanDivide w64 a d × (rest ≡ int_rem a d) → FitsSigned w64 rest
    → let outcome : Outcome = Ok (to_z w64 (of_z w64 rest)) in outcome ≡ unless_zero d (remainder a d)
remainder_fits a d rest nonzero divided within = rw (to_z-of_z w64 rest within, not_zero d nonzero, fits (int_div a d) divided.0.1, remainder_is a d, divided.1) refl
