-- Tokens are those of a program or are refused, once and for good.
use Rattle.std.proofs.Common.{◌≡◌, ◌≢◌, ◌<◌, ◌+◌, ◌⊎◌, inl, inr, max, ℕ, zero, suc, List, [], ◌∷◌, ◌++◌, length, take, slice_get, refl, sym, ap, ◌∙◌, arith, add-one}
use Rattle.std.proofs.lemmas.List.{length-map}
use Rattle.dsm_syntax.specs.declared.errors.ProgErr.{ProgErr}
use Rattle.dsm_syntax.specs.declared.errors.ProgErr.TheVariants as err
use Rattle.dsm_syntax.specs.declared.errors.Which.TheVariants as which
use Rattle.dsm_syntax.specs.declared.token.Token.{Token}
use Rattle.dsm_syntax.specs.Tree.{Item}
use Rattle.dsm_syntax.specs.Lexemes.{Lexeme, lexeme_of, lexemes}
use Rattle.dsm_laws_grammar.specs.Grammar.{spell_program}
use Rattle.dsm_syntax.specs.Heights.{height_program}
use Rattle.dsm_laws_grammar.specs.Programs.{IsProgram, IsProgramOf}
use Rattle.dsm_laws_grammar.specs.Refusals.{GoesOn, IsBegun, IsUnexpected, IsTooHigh, IsStopped, line_at, IsRefused}
use Rattle.dsm_syntax.specs.Reading.{Read, ok, unexpected, too_high}
use Rattle.dsm_laws_grammar.specs.Items.{items}
use Rattle.dsm_laws_grammar.proofs.Spellings.{items_read}
use Rattle.dsm_laws_grammar.proofs.Exact.{IsExact, exact, not_unexpected, not_too_high, one_unexpected, one_too_high, one_reason}
use Rattle.dsm_laws_grammar.proofs.Whole as w

pub one_tree : (a b : List Item) → IsProgram a → IsProgram b → spell_program a ≡ spell_program b → a ≡ b
one_tree a b p q e =
    let most = max (height_program a) (height_program b) in
    let x : items most (spell_program a) ≡ ok a [] = items_read most a p (omega arith) in
    let y : items most (spell_program b) ≡ ok b [] = items_read most b q (omega arith) in
    let same = ap (items most) e in
    cc

pub outcome : (tokens : List Token) → ((all : List Item) × IsProgramOf (lexemes tokens) all) ⊎ ((e : ProgErr) × (e ≢ err.Memory) × IsRefused tokens e)
outcome tokens = at 64 refl
  where
    at : (d : ℕ) → d ≡ 64 → ((all : List Item) × IsProgramOf (lexemes tokens) all) ⊎ ((e : ProgErr) × (e ≢ err.Memory) × IsRefused tokens e)
    at d most = of (items d (lexemes tokens)) (exact d most (lexemes tokens))
      where
        of : (r : Read (List Item)) → IsExact (lexemes tokens) r → ((all : List Item) × IsProgramOf (lexemes tokens) all) ⊎ ((e : ProgErr) × (e ≢ err.Memory) × IsRefused tokens e)
        of (ok all rest) h = inl (all, h)
        of (unexpected rest) h = inr (err.Unexpected (line_at tokens h.0), (λ e. cc), (h.0, omega (arith, h.1, length-map tokens lexeme_of), h.2, refl))
        of (too_high rest) h = inr (err.Limit which.Nesting 65, (λ e. cc), (h.0, h.2, refl, refl))

pub not_both : (tokens : List Token) (all : List Item) (e : ProgErr) → e ≢ err.Memory → IsProgramOf (lexemes tokens) all → IsRefused tokens e → ⊥
not_both tokens all e some p r = some (w.not_refused tokens all e p r)

pub one_refusal : (tokens : List Token) (e f : ProgErr) → e ≢ err.Memory → f ≢ err.Memory → IsRefused tokens e → IsRefused tokens f → e ≡ f
one_refusal tokens e f some other r s = elim (w.one_refusal tokens e f some r s) [ inl same ↦ sym same | inr is ↦ absurd (other is) ]

pub one_place : (ts : List Lexeme) (p q : ℕ) → IsStopped ts p → IsStopped ts q → p ≡ q
one_place ts p q (within, inl u) (there, inl v) = one_unexpected ts p q within there u v
one_place ts p q (within, inr u) (there, inr v) = one_too_high ts p q within there u v
one_place ts p q (within, inl u) (there, inr v) = absurd (one_reason ts p q within u v)
one_place ts p q (within, inr u) (there, inl v) = absurd (one_reason ts q p there v u)

of_begun : (ts : List Lexeme) (p : ℕ) → IsBegun ts p → (missing : List Lexeme) × (all : List Item) × IsProgramOf (take p ts ++ missing) all
of_begun ts p b = (b.2.more, b.0, record { spelled = b.2.begins; fits = b.2.program; low = b.3 })

pub completed : (ts : List Lexeme) (p : ℕ) → IsStopped ts p → (missing : List Lexeme) × (all : List Item) × IsProgramOf (take p ts ++ missing) all
completed ts p (within, inl u) = of_begun ts p u.begun
completed ts p (within, inr u) = of_begun ts p u.begun

-- other tokens behind the one at a place
module _ (more : List Lexeme) where
  front_stays : (ts : List Lexeme) (p : ℕ) → p < length ts → take p (take (suc p) ts ++ more) ≡ take p ts
  front_stays [] p less = absurd (omega arith)
  front_stays (x ∷ ts) zero less = refl
  front_stays (x ∷ ts) (suc p) less = ap (λ l. x ∷ l) (front_stays ts p (omega arith))

  next_stays : (ts : List Lexeme) (p : ℕ) → p < length ts → slice_get (take (suc p) ts ++ more) p ≡ slice_get ts p
  next_stays [] p less = absurd (omega arith)
  next_stays (x ∷ ts) zero less = refl
  next_stays (x ∷ ts) (suc p) less = next_stays ts p (omega arith)

module _ (ts us : List Lexeme) (p : ℕ) (front : take p us ≡ take p ts) (next : slice_get us p ≡ slice_get ts p) where
  goes_on_back : (all : List Item) → GoesOn all (take p us) (slice_get us p) → GoesOn all (take p ts) (slice_get ts p)
  goes_on_back all on = record { program = on.program; more = on.more; begins = on.begins ∙ ap (λ l. l ++ on.more) front; next_is = on.next_is ∙ next }

  begun_there : IsBegun ts p → IsBegun us p
  begun_there b = (b.0, b.1, record { program = b.2.program; more = b.2.more; begins = b.2.begins ∙ ap (λ l. l ++ b.2.more) (sym front); next_is = b.2.next_is }, b.3)

  unexpected_there : IsUnexpected ts p → IsUnexpected us p
  unexpected_there u = record { begun = begun_there u.begun; never = λ all on. u.never all (goes_on_back all on) }

  too_high_there : IsTooHigh ts p → IsTooHigh us p
  too_high_there h = record {
    begun = begun_there h.begun;
    goes_on = let g = h.goes_on in (
      g.0,
      record {
        program = g.1.program;
        more = g.1.more;
        begins = g.1.begins ∙ ap (λ l. l ++ g.1.more) (sym front);
        next_is = g.1.next_is ∙ sym next;
      },
    );
    high = λ all on. h.high all (goes_on_back all on);
  }

pub stays_unexpected : (ts more : List Lexeme) (p : ℕ) → p < length ts → IsUnexpected ts p → IsUnexpected (take (p + 1) ts ++ more) p
stays_unexpected ts more p less u = rw add-one (unexpected_there ts (take (suc p) ts ++ more) p (front_stays more ts p less) (next_stays more ts p less) u)

pub stays_too_high : (ts more : List Lexeme) (p : ℕ) → p < length ts → IsTooHigh ts p → IsTooHigh (take (p + 1) ts ++ more) p
stays_too_high ts more p less h = rw add-one (too_high_there ts (take (suc p) ts ++ more) p (front_stays more ts p less) (next_stays more ts p less) h)

pub hopeless : (ts more : List Lexeme) (p : ℕ) (all : List Item) → p < length ts → IsStopped ts p → IsProgramOf (take (p + 1) ts ++ more) all → ⊥
hopeless ts more p all less (within, inl u) program = not_unexpected (take (p + 1) ts ++ more) all p program (stays_unexpected ts more p less u)
hopeless ts more p all less (within, inr h) program = not_too_high (take (p + 1) ts ++ more) all p program (stays_too_high ts more p less h)
