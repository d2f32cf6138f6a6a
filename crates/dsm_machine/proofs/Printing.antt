-- What a print writes.
use Rattle.std.proofs.Common.{◌≡◌, ℕ, suc, ◌<◌, ◌^◌, ℤ, pos, negsuc, List, [], ◌∷◌, ◌++◌, decimal, refl, arith, FitsSigned, w64}
use Rattle.std.specs.Fmt.{signed_decimal}
use Rattle.std.proofs.lemmas.Fmt.{decimal_by_steps}
use Rattle.dsm_base.specs.Output.{ArePrintable}
use Rattle.dsm_code.specs.declared.parts.PrintPart.{PrintPart}
use Rattle.dsm_code.specs.Programs.{parts_text}
use Rattle.dsm_machine.specs.Prints.{part_text, left_after}

pub both_printable : (text more : List ℕ) → ArePrintable text → ArePrintable more → ArePrintable (text ++ more)
both_printable [] more p q = q
both_printable (byte ∷ text) more p q = (p.0, both_printable text more p.1 q)

decimal_printable : (n : ℕ) → n < 2 ^ 64 → ArePrintable (decimal n)
decimal_printable = decimal_by_steps (λ n text. ArePrintable text)
    (λ n small. ((omega arith, omega arith), tt))
    (λ n text big printable. both_printable text _ printable ((omega arith, omega arith), tt))

-- a value in decimal
pub value_printable : (value : ℤ) → FitsSigned w64 value → ArePrintable (signed_decimal value)
value_printable (pos n) fits = decimal_printable n (omega (arith, fits))
value_printable (negsuc n) fits = ((omega arith, omega arith), decimal_printable (suc n) (omega (arith, fits)))

-- a part, and those behind it
pub text_of_parts : (part : PrintPart) (rest : List PrintPart) (values : List ℤ) → parts_text (part ∷ rest) values ≡ part_text part values ++ parts_text rest (left_after part values)
text_of_parts (PrintPart.Text text) rest values = refl
text_of_parts PrintPart.Value rest values = refl
