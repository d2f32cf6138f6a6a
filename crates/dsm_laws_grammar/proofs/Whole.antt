-- What a reading tells of a program's tokens.
use Rattle.std.proofs.Common.{◌≡◌, ◌≢◌, ◌≤◌, ◌<◌, ◌-◌, ◌⊎◌, inl, inr, ℕ, zero, suc, min, List, [], ◌∷◌, length, get_or, Err, refl, sym, ap, ◌∙◌, subst, arith}
use Rattle.std.proofs.lemmas.List.{length-map}
use Rattle.std.proofs.lemmas.Bool.{cases_lt}
use Rattle.dsm_syntax.specs.declared.errors.ProgErr.{ProgErr}
use Rattle.dsm_syntax.specs.declared.errors.ProgErr.TheVariants as err
use Rattle.dsm_syntax.specs.declared.errors.Which.TheVariants as which
use Rattle.dsm_syntax.specs.declared.token.Token.{Token}
use Rattle.dsm_syntax.specs.Tree.{Item}
use Rattle.dsm_syntax.specs.declared.refusal.Refusal.{Refusal}
use Rattle.dsm_syntax.specs.Gives.{Gives}
use Rattle.dsm_syntax.specs.Lexemes.{Lexeme, lexeme_of, lexemes}
use Rattle.dsm_laws_grammar.specs.Programs.{IsProgramOf}
use Rattle.dsm_laws_grammar.specs.Refusals.{line_from, line_at, IsRefused}
use Rattle.dsm_syntax.specs.Reading.{Read, ok, unexpected, too_high}
use Rattle.dsm_laws_grammar.specs.Items.{items}
use Rattle.dsm_laws_grammar.proofs.Exact.{IsExact, exact, not_unexpected, not_too_high, one_unexpected, one_reason}

-- the line of the token at a place, or of the last one
line_there : (tokens : List Token) (line place i : ℕ) (d : Token) → i < length tokens → (i ≡ place) ⊎ ((suc i ≡ length tokens) × (length tokens ≤ place)) → line_from line tokens place ≡ (get_or tokens i d).line
line_there [] line place i d less at = absurd (omega arith)
line_there (t ∷ tokens) line zero zero d less at = refl
line_there (t ∷ tokens) line zero (suc i) d less (inl e) = absurd (omega arith)
line_there (t ∷ tokens) line zero (suc i) d less (inr h) = absurd (omega (arith, h.1))
line_there (t ∷ []) line (suc place) zero d less at = refl
line_there (t ∷ u ∷ tokens) line (suc place) zero d less (inl e) = absurd (omega arith)
line_there (t ∷ u ∷ tokens) line (suc place) zero d less (inr h) = absurd (omega (arith, h.0))
line_there (t ∷ tokens) line (suc place) (suc i) d less (inl e) = line_there tokens t.line place i d (omega arith) (inl (omega arith))
line_there (t ∷ tokens) line (suc place) (suc i) d less (inr h) = line_there tokens t.line place i d (omega arith) (inr (omega (arith, h.0), omega (arith, h.1)))

pub line_at_min : (tokens : List Token) (place i : ℕ) (d : Token) → 1 ≤ length tokens → i ≡ min place (length tokens - 1) → line_at tokens place ≡ (get_or tokens i d).line
line_at_min tokens place i d some e = elim (cases_lt place (length tokens)) [
  | inl less ↦ line_there tokens 1 place i d (omega arith) (inl (omega arith))
  | inr past ↦ line_there tokens 1 place i d (omega arith) (inr (omega arith, past))
]

module _ (d : ℕ) (most : d ≡ 64) (tokens : List Token) where
  told : (r : Read (List Item)) → items d (lexemes tokens) ≡ r → IsExact (lexemes tokens) r
  told r e = subst (IsExact (lexemes tokens)) e (exact d most (lexemes tokens))

  module _ (cursor left : List Lexeme) (begins : cursor ≡ lexemes tokens) where
    pub is_read : (r : List Lexeme → Read (List Item)) → items d cursor ≡ r left → items d (lexemes tokens) ≡ r left
    is_read r e = ap (items d) (sym begins) ∙ e

    unexpected_of : {A : Type 0} (see : A → List Item) (why : Refusal) → why ≡ Refusal.Unexpected → Gives see (items d cursor) (Err why) left → items d (lexemes tokens) ≡ unexpected left
    unexpected_of see why is e = is_read unexpected (subst (λ w. Gives see (items d cursor) (Err w) left) is e)

    too_high_of : {A : Type 0} (see : A → List Item) (why : Refusal) → why ≡ Refusal.TooHigh → Gives see (items d cursor) (Err why) left → items d (lexemes tokens) ≡ too_high left
    too_high_of see why is e = is_read too_high (subst (λ w. Gives see (items d cursor) (Err w) left) is e)

    pub is_found : (all : List Item) → items d cursor ≡ ok all left → IsProgramOf (lexemes tokens) all
    is_found all e = told (ok all left) (is_read (ok all) e)

    pub left_within : {A : Type 0} (see : A → List Item) (why : Refusal) → why ≡ Refusal.Unexpected → Gives see (items d cursor) (Err why) left → length left ≤ length tokens
    left_within see why is e = let h = told (unexpected left) (unexpected_of see why is e) in omega (arith, h.1, length-map tokens lexeme_of)

    pub is_unexpected : {A : Type 0} (see : A → List Item) (why : Refusal) (line : ℕ) → why ≡ Refusal.Unexpected → Gives see (items d cursor) (Err why) left
        → line ≡ line_at tokens (length tokens - length left) → IsRefused tokens (err.Unexpected line)
    is_unexpected see why line is e at =
        let h = told (unexpected left) (unexpected_of see why is e) in
        let same : length tokens - length left ≡ h.0 = omega (arith, h.1, length-map tokens lexeme_of) in
        (h.0, omega (arith, h.1, length-map tokens lexeme_of), h.2, at ∙ ap (line_at tokens) same)

    pub is_too_high : {A : Type 0} (see : A → List Item) (why : Refusal) (count : ℕ) → why ≡ Refusal.TooHigh → Gives see (items d cursor) (Err why) left → count ≡ 65 → IsRefused tokens (err.Limit which.Nesting count)
    is_too_high see why count is e at = let h = told (too_high left) (too_high_of see why is e) in (h.0, h.2, refl, at)

-- no program is refused
pub not_refused : (tokens : List Token) (all : List Item) (e : ProgErr) → IsProgramOf (lexemes tokens) all → IsRefused tokens e → e ≡ err.Memory
not_refused tokens all (err.Unexpected line) p r = absurd (not_unexpected (lexemes tokens) all r.0 p r.2)
not_refused tokens all (err.Limit limit count) p r = absurd (not_too_high (lexemes tokens) all r.0 p r.1)
not_refused tokens all err.Memory p r = refl
not_refused tokens all _ p r = absurd r

-- there is one reason
pub one_refusal : (tokens : List Token) (e f : ProgErr) → e ≢ err.Memory → IsRefused tokens e → IsRefused tokens f → (f ≡ e) ⊎ (f ≡ err.Memory)
one_refusal tokens e err.Memory some r s = inr refl
one_refusal tokens err.Memory f some r s = absurd (some refl)
one_refusal tokens (err.Unexpected line) (err.Unexpected other) some r s =
    let same = one_unexpected (lexemes tokens) s.0 r.0 (omega (arith, s.1, length-map tokens lexeme_of)) (omega (arith, r.1, length-map tokens lexeme_of)) s.2 r.2 in
    inl (ap err.Unexpected (s.3 ∙ ap (line_at tokens) same ∙ sym r.3))
one_refusal tokens (err.Unexpected line) (err.Limit limit count) some r s = absurd (one_reason (lexemes tokens) r.0 s.0 (omega (arith, r.1, length-map tokens lexeme_of)) r.2 s.1)
one_refusal tokens (err.Limit limit count) (err.Unexpected line) some r s = absurd (one_reason (lexemes tokens) s.0 r.0 (omega (arith, s.1, length-map tokens lexeme_of)) s.2 r.1)
one_refusal tokens (err.Limit limit count) (err.Limit other more) some r s = inl (rw (s.2, s.3, r.2, r.3) refl)
one_refusal tokens (err.Unexpected line) _ some r s = absurd s
one_refusal tokens (err.Limit limit count) _ some r s = absurd s
one_refusal tokens _ f some r s = absurd r
