-- Parts that fit make lines.
use Rattle.std.proofs.Common.{◌≡◌, ℕ, suc, ◌+◌, ◌<◌, ◌≤◌, ◌^◌, ℤ, pos, negsuc, true, List, [], ◌∷◌, ◌++◌, length, length-append, decimal, arith, FitsSigned, w64}
use Rattle.std.specs.Fmt.{signed_decimal}
use Rattle.std.proofs.lemmas.Bool.Decides.{nat_tests}
use Rattle.std.proofs.lemmas.Fmt.{decimal_by_steps, length-decimal-le}
use Rattle.dsm_syntax.specs.Bytes.{is_string_byte}
use Rattle.dsm_syntax.specs.Sound.{is_sound_string}
use Rattle.dsm_check.specs.Resolved as r
use Rattle.dsm_semantics.specs.Within.{Extent, ArePartsWithin, most_bytes, IsPrintWithin}
use Rattle.dsm_check.proofs.Successes.{both_true}
use Rattle.dsm_base.specs.Output.{ArePrintable, IsLine}
use Rattle.dsm_interpreter.specs.Lines.{Grows}

both_printable : (text more : List ℕ) → ArePrintable text → ArePrintable more → ArePrintable (text ++ more)
both_printable [] more p q = q
both_printable (byte ∷ text) more p q = (p.0, both_printable text more p.1 q)

string_printable : (text : List ℕ) → is_sound_string text ≡ true → ArePrintable text
string_printable [] sound = tt
string_printable (byte ∷ text) sound =
    let both = both_true (is_string_byte byte) (is_sound_string text) sound in
    (grind (arith, nat_tests, both.0), string_printable text both.1)

decimal_printable : (n : ℕ) → n < 2 ^ 64 → ArePrintable (decimal n)
decimal_printable = decimal_by_steps (λ n text. ArePrintable text)
    (λ n small. ((omega arith, omega arith), tt))
    (λ n text big printable. both_printable text _ printable ((omega arith, omega arith), tt))

abbrev Fits : ℤ → Type 0
Fits value = FitsSigned w64 value

value_printable : (value : ℤ) → Fits value → ArePrintable (signed_decimal value)
value_printable (pos n) fits = decimal_printable n (omega (arith, fits))
value_printable (negsuc n) fits = ((omega arith, omega arith), decimal_printable (suc n) (omega (arith, fits)))

-- a value in decimal has at most 20 bytes
value_short : (value : ℤ) → Fits value → length (signed_decimal value) ≤ 20
value_short (pos n) fits = length-decimal-le 20 n (omega arith) (omega (arith, fits)) (omega (arith, fits))
value_short (negsuc n) fits = let short = length-decimal-le 19 (suc n) (omega arith) (omega (arith, fits)) (omega (arith, fits)) in omega (arith, short)

-- These parts are left, and so much was written from a text on.
abbrev pub Remain : Extent → List r.Part → List r.Part → List ℕ → List ℕ → Type 0
Remain extent all left text now = ArePartsWithin extent left × Grows (most_bytes all) text now × (length now + most_bytes left ≤ length text + most_bytes all)

pub all_remain : (extent : Extent) (all : List r.Part) (text : List ℕ) → ArePartsWithin extent all → Remain extent all all text text
all_remain extent all text within = (within, (omega arith, λ printable. printable), omega arith)

written : (extent : Extent) (all left : List r.Part) (text now more : List ℕ) → ArePartsWithin extent left → length more + most_bytes left + length now ≤ length text + most_bytes all
    → ArePrintable more → Grows (most_bytes all) text now → Remain extent all left text (now ++ more)
written extent all left text now more within few printable grows =
    let long = length-append now more in
    (within, (omega (arith, long, few), λ before. both_printable now more (grows.1 before) printable), omega (arith, long, few))

pub text_written : (extent : Extent) (all rest : List r.Part) (more text now : List ℕ) → Remain extent all (r.part_text more ∷ rest) text now → Remain extent all rest text (now ++ more)
text_written extent all rest more text now remain =
    written extent all rest text now more remain.0.1 (omega (arith, remain.2)) (string_printable more remain.0.0) remain.1

pub value_written : (extent : Extent) (all rest : List r.Part) (e : r.Expression) (value : ℤ) (text now : List ℕ) → Fits value → Remain extent all (r.part_value e ∷ rest) text now
    → Remain extent all rest text (now ++ signed_decimal value)
value_written extent all rest e value text now fits remain =
    written extent all rest text now (signed_decimal value) remain.0.1 (omega (arith, value_short value fits, remain.2)) (value_printable value fits) remain.1

pub print_fits : (extent : Extent) (parts : List r.Part) (text : List ℕ) → IsPrintWithin extent parts → Grows (most_bytes parts) [] text → IsLine text
print_fits extent parts text within grows = (omega (arith, grows.0, within.1), grows.1 tt)
