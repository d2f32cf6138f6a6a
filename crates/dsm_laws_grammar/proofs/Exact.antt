-- The reader of programs is exact.
use Rattle.std.proofs.Common.{◌≡◌, ◌≤◌, ◌<◌, ◌+◌, max, inl, inr, ℕ, suc, false, List, [], ◌∷◌, ◌++◌, length, take, drop, Option, Some, slice_get, refl, sym, ap, ◌∙◌, subst, arith, append-nil, length-append, take-append-drop, take_all, append_assoc, zero}
use Rattle.std.proofs.Math.Seq.{take-append_seam}
use Rattle.std.proofs.lemmas.Bool.{cases_lt}
use Rattle.std.proofs.lemmas.Option.{slice_get_past}
use Rattle.dsm_syntax.specs.Tree.{Item}
use Rattle.dsm_syntax.specs.Lexemes.{Lexeme}
use Rattle.dsm_laws_grammar.specs.Grammar.{spell_item, FitsItem}
use Rattle.dsm_syntax.specs.Heights.{height_item, height_program}
use Rattle.dsm_laws_grammar.specs.Programs.{IsProgramOf}
use Rattle.dsm_laws_grammar.specs.Refusals.{GoesOn, IsBegun, IsUnexpected, IsTooHigh}
use Rattle.dsm_syntax.specs.Reading.{Read, ok, unexpected, too_high, look}
use Rattle.dsm_laws_grammar.specs.Items.{goes_on, items}
use Rattle.dsm_laws_grammar.proofs.Good.{Begins, Outcome}
use Rattle.dsm_laws_grammar.proofs.Repeats.{AllOf, Stopped}
use Rattle.dsm_laws_grammar.proofs.Items.{good_items}
use Rattle.dsm_laws_grammar.proofs.Spellings.{items_read}

-- the token behind a front
get_behind : (pre rest : List Lexeme) → slice_get (pre ++ rest) (length pre) ≡ slice_get rest 0
get_behind [] rest = refl
get_behind (x ∷ pre) rest = get_behind pre rest

none_left : (rest : List Lexeme) → goes_on rest ≡ false → rest ≡ []
none_left [] e = refl
none_left (x ∷ rest) e = absurd cc

-- what a reading tells of the tokens
abbrev pub IsExact : List Lexeme → Read (List Item) → Type 0
IsExact ts (ok all rest) = IsProgramOf ts all
IsExact ts (unexpected rest) = (place : ℕ) × (place + length rest ≡ length ts) × IsUnexpected ts place
IsExact ts (too_high rest) = (place : ℕ) × (place + length rest ≡ length ts) × IsTooHigh ts place

abbrev Programs : ℕ → List Item → List Lexeme → Type 0
Programs = AllOf spell_item FitsItem height_item

module _ (ts pre rest : List Lexeme) (split : ts ≡ pre ++ rest) where
  placed : length pre + length rest ≡ length ts
  placed = omega (arith, ap length split, length-append pre rest)

  front : take (length pre) ts ≡ pre
  front = ap (take (length pre)) split ∙ take-append_seam pre rest

  at : slice_get ts (length pre) ≡ look rest
  at = ap (λ l. slice_get l (length pre)) split ∙ get_behind pre rest

  begun : (d : ℕ) → d ≤ 64 → Begins Programs d pre → IsBegun ts (length pre)
  begun d le b = (
    b.value,
    slice_get b.more 0,
    record {
      program = b.is.fits;
      more = b.more;
      begins = b.is.is ∙ ap (λ l. l ++ b.more) (sym front);
      next_is = refl;
    },
    omega (arith, b.is.low),
  )

  -- a program that goes on so would be read
  never : (all : List Item) (most : ℕ) (refuses : List Lexeme → Read (List Item)) → height_program all ≤ most → ((r : List Lexeme) → refuses r ≡ ok all [] → ⊥)
      → ((r : List Lexeme) → look r ≡ look rest → items most (pre ++ r) ≡ refuses r) → GoesOn all (take (length pre) ts) (slice_get ts (length pre)) → ⊥
  never all most refuses low differs again on =
      differs on.more (sym (again on.more (on.next_is ∙ at)) ∙ ap (items most) (sym (on.begins ∙ ap (λ l. l ++ on.more) front)) ∙ items_read most all on.program low)

pub exact : (d : ℕ) → d ≡ 64 → (ts : List Lexeme) → IsExact ts (items d ts)
exact d e ts = of (items d ts) (good_items d (omega arith) ts).outcome
  where
    of : (r : Read (List Item)) → Outcome Programs (Stopped goes_on) items d ts r → IsExact ts r
    of (ok all rest) g = record {
      spelled = g.is.is ∙ sym (append-nil g.pre) ∙ ap (λ l. g.pre ++ l) (sym (none_left rest (g.next rest refl))) ∙ sym g.split;
      fits = g.is.fits;
      low = omega (arith, g.is.low);
    }
    of (unexpected rest) g = (
      length g.pre,
      placed ts g.pre rest g.split,
      record {
        begun = begun ts g.pre rest g.split d (omega arith) g.begun;
        never = λ all. never ts g.pre rest g.split all (max d (height_program all)) unexpected (omega arith) (λ r e. cc)
            (λ r lk. g.again (max d (height_program all)) r (omega arith) lk);
      },
    )
    of (too_high rest) g = (
      length g.pre,
      placed ts g.pre rest g.split,
      record {
        begun = begun ts g.pre rest g.split d (omega arith) g.begun;
        goes_on = let p = g.past in (
          p.value,
          record {
            program = p.is.fits;
            more = p.token ∷ p.more;
            begins = p.is.is ∙ ap (λ l. l ++ p.token ∷ p.more) (sym (front ts g.pre rest g.split));
            next_is = sym p.next_is ∙ sym (at ts g.pre rest g.split);
          },
        );
        high = λ all on. elim (cases_lt 64 (height_program all)) [
          | inl less ↦ less
          | inr low ↦ absurd (never ts g.pre rest g.split all d too_high (omega arith) (λ r e. cc) (λ r lk. g.again r lk) on)
        ];
      },
    )

-- Programs and refusals exclude one another.

read_again : (d : ℕ) (ts : List Lexeme) (a : List Item) → IsProgramOf ts a → 64 ≤ d → items d ts ≡ ok a []
read_again d ts a p le = ap (items d) (sym p.spelled) ∙ items_read d a p.fits (omega (arith, p.low))

pub one_program : (ts : List Lexeme) (a b : List Item) → IsProgramOf ts a → IsProgramOf ts b → a ≡ b
one_program ts a b p q = of 64 (omega arith)
  where
    of : (d : ℕ) → 64 ≤ d → a ≡ b
    of d le = let x = read_again d ts a p le in let y = read_again d ts b q le in cc

get_dropped : (ts : List Lexeme) (place : ℕ) → slice_get (drop place ts) 0 ≡ slice_get ts place
get_dropped [] zero = refl
get_dropped [] (suc place) = refl
get_dropped (x ∷ ts) zero = refl
get_dropped (x ∷ ts) (suc place) = get_dropped ts place

-- a program's tokens up to any place go on with the token there
goes_on_there : (ts : List Lexeme) (all : List Item) (place : ℕ) → IsProgramOf ts all → GoesOn all (take place ts) (slice_get ts place)
goes_on_there ts all place p = record {
  program = p.fits;
  more = drop place ts;
  begins = p.spelled ∙ sym (take-append-drop place ts);
  next_is = get_dropped ts place;
}

pub not_unexpected : (ts : List Lexeme) (all : List Item) (place : ℕ) → IsProgramOf ts all → IsUnexpected ts place → ⊥
not_unexpected ts all place p u = u.never all (goes_on_there ts all place p)

pub not_too_high : (ts : List Lexeme) (all : List Item) (place : ℕ) → IsProgramOf ts all → IsTooHigh ts place → ⊥
not_too_high ts all place p h = omega (arith, p.low, h.high all (goes_on_there ts all place p))

between : (ts : List Lexeme) (p q : ℕ) → p < q → p < length ts → (x : Lexeme) × (mid : List Lexeme) × (take q ts ≡ take p ts ++ x ∷ mid) × (slice_get ts p ≡ Some x)
between [] p q less within = absurd (omega arith)
between (y ∷ ts) p zero less within = absurd (omega arith)
between (y ∷ ts) zero (suc q) less within = (y, take q ts, refl, refl)
between (y ∷ ts) (suc p) (suc q) less within =
    let b = between ts p q (omega arith) (omega arith) in (b.0, b.1, ap (λ l. y ∷ l) b.2, b.3)

-- what goes on with tokens went on with the earlier ones
earlier : (ts : List Lexeme) (all : List Item) (p q : ℕ) (next : Option Lexeme) → p < q → p < length ts → GoesOn all (take q ts) next → GoesOn all (take p ts) (slice_get ts p)
earlier ts all p q next less within on =
    let b = between ts p q less within in record {
      program = on.program;
      more = b.0 ∷ (b.1 ++ on.more);
      begins = on.begins ∙ ap (λ l. l ++ on.more) b.2 ∙ append_assoc (take p ts) (b.0 ∷ b.1) on.more;
      next_is = sym b.3;
    }

-- all tokens and the end
to_the_end : (ts : List Lexeme) (all : List Item) (p q : ℕ) → length ts ≤ p → p ≤ q → GoesOn all (take q ts) (slice_get ts q) → GoesOn all (take p ts) (slice_get ts p)
to_the_end ts all p q past le on = record {
  program = on.program;
  more = on.more;
  begins = on.begins ∙ ap (λ l. l ++ on.more) (take_all q ts (omega arith) ∙ sym (take_all p ts past));
  next_is = on.next_is ∙ slice_get_past ts q (omega arith) ∙ sym (slice_get_past ts p past);
}

-- a program that begins so far goes on with each earlier token
begun_before : (ts : List Lexeme) (p q : ℕ) → p < q → p < length ts → IsBegun ts q → (all : List Item) × GoesOn all (take p ts) (slice_get ts p) × (height_program all ≤ 64)
begun_before ts p q less within b = (b.0, earlier ts b.0 p q b.1 less within b.2, b.3)

-- Tokens are refused at one place for one reason.

pub one_unexpected : (ts : List Lexeme) (p q : ℕ) → p ≤ length ts → q ≤ length ts → IsUnexpected ts p → IsUnexpected ts q → p ≡ q
one_unexpected ts p q within there u v = elim (cases_lt p q) [
  | inl less ↦ let b = begun_before ts p q less (omega arith) v.begun in absurd (u.never b.0 b.1)
  | inr le ↦ elim (cases_lt q p) [
    | inl less ↦ let b = begun_before ts q p less (omega arith) u.begun in absurd (v.never b.0 b.1)
    | inr ge ↦ omega arith
  ]
]

pub one_too_high : (ts : List Lexeme) (p q : ℕ) → p ≤ length ts → q ≤ length ts → IsTooHigh ts p → IsTooHigh ts q → p ≡ q
one_too_high ts p q within there u v = elim (cases_lt p q) [
  | inl less ↦ let b = begun_before ts p q less (omega arith) v.begun in absurd (omega (arith, u.high b.0 b.1, b.2))
  | inr le ↦ elim (cases_lt q p) [
    | inl less ↦ let b = begun_before ts q p less (omega arith) u.begun in absurd (omega (arith, v.high b.0 b.1, b.2))
    | inr ge ↦ omega arith
  ]
]

pub one_reason : (ts : List Lexeme) (p q : ℕ) → p ≤ length ts → IsUnexpected ts p → IsTooHigh ts q → ⊥
one_reason ts p q within u v = elim (cases_lt q p) [
  | inl less ↦ let b = begun_before ts q p less (omega arith) u.begun in omega (arith, v.high b.0 b.1, b.2)
  | inr le ↦ elim (cases_lt p (length ts)) [
    | inl inside ↦ elim (cases_lt p q) [
      | inl less ↦ u.never v.goes_on.0 (earlier ts v.goes_on.0 p q (slice_get ts q) less inside v.goes_on.1)
      | inr ge ↦ let same : q ≡ p = omega arith in u.never v.goes_on.0 (subst (λ n. GoesOn v.goes_on.0 (take n ts) (slice_get ts n)) same v.goes_on.1)
    ]
    | inr past ↦ u.never v.goes_on.0 (to_the_end ts v.goes_on.0 p q past le v.goes_on.1)
  ]
]
