use Rattle.std.proofs.Common.{◌&&◌, ◌≡◌, ◌≢◌, ◌∙◌, ◌==◌, ◌||◌, ◌<◌, ◌≤◌, ◌^◌, ℕ, Bool, cond, true, false, not, List, [], ◌∷◌, Some, None, Result, Ok, Err, refl, sym, arith, length, get_or, nat_le, eqb-true}
use Rattle.std.specs.Str.{all_ascii_digits}
use Rattle.std.specs.Str.Parse.{ParsesUnsigned, digits_value}
use Rattle.std.proofs.lemmas.Str.Parse.{IsNumeralModel, numerals_by_value, parse_plain, tells_all_ascii_digits}
use Rattle.std.proofs.lemmas.Bool.Decides.{nat_tests}
use Rattle.dsm_command.specs.Commands.{is_numeral, number_in}
use Rattle.dsm_command.specs.InCode.{bounded}
use Rattle.dsm_command.proofs.reader.number.Goals as goal

own : IsNumeralModel (λ ds. all_ascii_digits ds ≡ true) (digits_value 10)
own = numerals_by_value _ tells_all_ascii_digits

no_zero : (x : ℕ) (xs : List ℕ) → (x ≡ 48 → length (x ∷ xs) ≤ 1) → (not (x == 48) || length xs == 0) ≡ true
no_zero x [] h = go (x == 48)
  where
    go : (b : Bool) → (not b || true) ≡ true
    go true = refl
    go false = refl
no_zero x (y ∷ ys) h = go (x == 48) refl
  where
    go : (b : Bool) → (x == 48) ≡ b → (not b || length (y ∷ ys) == 0) ≡ true
    go true e = let short = h (eqb-true x 48 e) in absurd (omega arith)
    go false e = refl

over : (d most : ℕ) → (d < 2 ^ 32 → ⊥) → most < 2 ^ 32 → nat_le d most ≡ false
over d most large fits = grind (arith, nat_tests)

outside : (a b k : Bool) (d : ℕ) → k ≡ false → cond (a && (b && k)) (Some d) None ≡ None
outside true true k d e = rw e refl
outside true false k d e = refl
outside false b k d e = refl

number_is : {E : Type 0} (least most : ℕ) (bs : List ℕ) (r : Result ℕ E) → ParsesUnsigned 32 10 bs r → most < 2 ^ 32 → 0 < length bs → get_or bs 0 0 ≢ 43
    → (get_or bs 0 0 ≡ 48 → length bs ≤ 1) → bounded least most r ≡ number_in least most bs
number_is {E} least most [] r h fits some plus zero = absurd (omega arith)
number_is {E} least most (x ∷ xs) (Ok n) h fits some plus zero =
    let p = parse_plain own {E = E} 32 (x ∷ xs) (Ok n) h plus in
    rw (p.0.0, no_zero x xs zero, p.1) refl
number_is {E} least most (x ∷ xs) (Err e) h fits some plus zero =
    let p = parse_plain own {E = E} 32 (x ∷ xs) (Err e) h plus in go (all_ascii_digits (x ∷ xs)) refl p
  where
    go : (b : Bool) → all_ascii_digits (x ∷ xs) ≡ b → ((all_ascii_digits (x ∷ xs) ≡ true) × (0 < length (x ∷ xs)) × (digits_value 10 (x ∷ xs) < 2 ^ 32) → ⊥) → None ≡ number_in least most (x ∷ xs)
    go false a p = rw a refl
    go true a p =
        let large : nat_le (digits_value 10 (x ∷ xs)) most ≡ false = over (digits_value 10 (x ∷ xs)) most (λ lt. p (a, some, lt)) fits in
        sym (outside (is_numeral (x ∷ xs)) (nat_le least (digits_value 10 (x ∷ xs))) (nat_le (digits_value 10 (x ∷ xs)) most) (digits_value 10 (x ∷ xs)) large)

pub returns : goal.returns
returns c =
    let same : c.as_bytes-bytes.result.now ≡ c.args.text.now = c.as_bytes-bytes.ensures.value in
    let some : 0 < length c.args.text.now = rw (← same) (omega arith) in
    let plus : get_or c.args.text.now 0 0 ≢ 43 = rw (← same) c.if-bytes-eq43.false in
    let zero : get_or c.args.text.now 0 0 ≡ 48 → length c.args.text.now ≤ 1 = rw (← same) (λ e. omega arith) in
    c.bounded.ensures ∙ number_is c.args.least c.args.most c.args.text.now c.parse-parsed.result c.parse-parsed.ensures.value.0 (omega arith) some plus zero
