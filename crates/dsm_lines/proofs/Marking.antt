-- A mark made or taken away keeps the words and their summary together; the first mark from a place on.
use Rattle.std.proofs.Common.{◌≡◌, ◌≢◌, ℕ, zero, suc, replicate, ◌+◌, ◌*◌, ◌/◌, ◌%◌, ◌^◌, ◌<◌, ◌≤◌, Bool, true, false, not, List, length, get_or, refl, sym, ap, ◌∙◌, inl, inr, arith, Option, Some, None}
use Rattle.std.specs.Prelude.{◌==◌}
use Rattle.std.proofs.lemmas.Bool.{cases_lt, false≢true}
use Rattle.std.proofs.lemmas.Bool.Decides.{eqb_tells}
use Rattle.std.proofs.lemmas.List.{get_or_past}
use Rattle.std.proofs.lemmas.Nat.Bits.{bit_at-zero}
use Rattle.dsm_base.specs.Family.{update}
use Rattle.dsm_lines.specs.Bits.{is_bit, is_bit_of, IsFirst}
use Rattle.dsm_lines.specs.Marking.{IsMarking}

-- the family with one member replaced, at that member and at the others
pub update_same : {A : Type 0} (f : ℕ → A) (k : ℕ) (v : A) (i : ℕ) → i ≡ k → update f k v i ≡ v
update_same f k v i is =
    elim (eqb_tells i k) as (λ _. update f k v i ≡ v) [ inl (same, _) ↦ rw same refl | inr (_, differs) ↦ absurd (differs is) ]

pub update_other : {A : Type 0} (f : ℕ → A) (k : ℕ) (v : A) (i : ℕ) → i ≢ k → update f k v i ≡ f i
update_other f k v i differs =
    elim (eqb_tells i k) as (λ _. update f k v i ≡ f i) [ inl (_, is) ↦ absurd (differs is) | inr (other, _) ↦ rw other refl ]

-- a word with a set bit isn't 0, and one that isn't 0 has one
not_zero : (word at : ℕ) → is_bit_of word at ≡ true → not (word == 0) ≡ true
not_zero word at is_set =
    elim (eqb_tells word 0) as (λ _. not (word == 0) ≡ true) [
      | inl (_, is) ↦ let clear : is_bit_of word at ≡ false = ap (λ n. is_bit_of n at) is ∙ ap (λ n. n == 1) (bit_at-zero at) in absurd (cc)
      | inr (other, _) ↦ ap not other
    ]

-- one line more is marked
pub marked : (lines : ℕ) (words summary words' summary' : List ℕ) (line : ℕ) → IsMarking lines words summary → line < lines
    → is_bit words' ≡ update (is_bit words) line true → ((word : ℕ) → word ≢ line / 64 → get_or words' word 0 ≡ get_or words word 0) → length words' ≡ length words
    → is_bit summary' ≡ update (is_bit summary) (line / 64) true → length summary' ≡ length summary → IsMarking lines words' summary'
marked lines words summary words' summary' line kept within bits others long page long' =
    record {
      pages = long ∙ kept.pages;
      groups = omega (arith, kept.groups);
      within = λ at behind. ap (λ f. f at) bits ∙ update_other (is_bit words) line true at (omega arith) ∙ kept.within at behind;
      agrees = λ word. elim (eqb_tells word (line / 64)) as (λ _. is_bit summary' word ≡ not (get_or words' word 0 == 0)) [
        | inl (_, is) ↦
            ap (λ f. f word) page
            ∙ update_same (is_bit summary) (line / 64) true word is
            ∙ sym (ap (λ n. not (get_or words' n 0 == 0)) is ∙ not_zero (get_or words' (line / 64) 0) (line % 64) (ap (λ f. f line) bits ∙ update_same (is_bit words) line true line refl))
        | inr (_, differs) ↦
            ap (λ f. f word) page
            ∙ update_other (is_bit summary) (line / 64) true word differs
            ∙ kept.agrees word
            ∙ ap (λ n. not (n == 0)) (sym (others word differs))
      ];
    }

-- a marked line is marked no longer
pub unmarked : (lines : ℕ) (words summary words' summary' : List ℕ) (line : ℕ) → IsMarking lines words summary
    → is_bit words' ≡ update (is_bit words) line false → ((word : ℕ) → word ≢ line / 64 → get_or words' word 0 ≡ get_or words word 0) → length words' ≡ length words
    → is_bit summary' (line / 64) ≡ not (get_or words' (line / 64) 0 == 0) → ((word : ℕ) → word ≢ line / 64 → is_bit summary' word ≡ is_bit summary word) → length summary' ≡ length summary
    → IsMarking lines words' summary'
unmarked lines words summary words' summary' line kept bits others long page pages long' =
    record {
      pages = long ∙ kept.pages;
      groups = omega (arith, kept.groups);
      within = λ at behind. ap (λ f. f at) bits ∙ cleared at (kept.within at behind);
      agrees = λ word. elim (eqb_tells word (line / 64)) as (λ _. is_bit summary' word ≡ not (get_or words' word 0 == 0)) [
        | inl (_, is) ↦ ap (is_bit summary') is ∙ page ∙ ap (λ n. not (get_or words' n 0 == 0)) (sym is)
        | inr (_, differs) ↦ pages word differs ∙ kept.agrees word ∙ ap (λ n. not (n == 0)) (sym (others word differs))
      ];
    }
  where
    cleared : (at : ℕ) → is_bit words at ≡ false → update (is_bit words) line false at ≡ false
    cleared at is =
        elim (eqb_tells at line) as (λ _. update (is_bit words) line false at ≡ false) [
          | inl (same, _) ↦ rw same refl
          | inr (other, _) ↦ rw other is
        ]

-- the page of a marked line has marks
pub has_marks : (lines : ℕ) (words summary : List ℕ) (line : ℕ) → IsMarking lines words summary → is_bit words line ≡ true → is_bit summary (line / 64) ≡ true
has_marks lines words summary line kept is_set = kept.agrees (line / 64) ∙ not_zero (get_or words (line / 64) 0) (line % 64) is_set

-- its page has no other marks
pub unmarked_last : (lines : ℕ) (words summary words' summary' : List ℕ) (line : ℕ) → IsMarking lines words summary
    → is_bit words' ≡ update (is_bit words) line false → ((word : ℕ) → word ≢ line / 64 → get_or words' word 0 ≡ get_or words word 0) → length words' ≡ length words
    → get_or words' (line / 64) 0 ≡ 0 → is_bit summary' ≡ update (is_bit summary) (line / 64) false → length summary' ≡ length summary → IsMarking lines words' summary'
unmarked_last lines words summary words' summary' line kept bits others long none page long' =
    unmarked lines words summary words' summary' line kept bits others long
    (ap (λ f. f (line / 64)) page ∙ update_same (is_bit summary) (line / 64) false (line / 64) refl ∙ sym (ap (λ n. not (n == 0)) none))
    (λ word differs. ap (λ f. f word) page ∙ update_other (is_bit summary) (line / 64) false word differs)
    long'

-- its page has others
pub unmarked_one : (lines : ℕ) (words summary words' : List ℕ) (line : ℕ) → IsMarking lines words summary → is_bit words line ≡ true
    → is_bit words' ≡ update (is_bit words) line false → ((word : ℕ) → word ≢ line / 64 → get_or words' word 0 ≡ get_or words word 0) → length words' ≡ length words
    → (get_or words' (line / 64) 0 ≢ 0) → IsMarking lines words' summary
unmarked_one lines words summary words' line kept is_set bits others long some =
    unmarked lines words summary words' summary line kept bits others long
    (has_marks lines words summary line kept is_set ∙ sym (is_some (get_or words' (line / 64) 0) some))
    (λ word differs. refl)
    refl
  where
    is_some : (word : ℕ) → word ≢ 0 → not (word == 0) ≡ true
    is_some word some = elim (eqb_tells word 0) as (λ _. not (word == 0) ≡ true) [ inl (_, is) ↦ absurd (some is) | inr (other, _) ↦ ap not other ]

-- marked lines are among the lines
pub within_lines : (lines : ℕ) (words summary : List ℕ) (line : ℕ) → IsMarking lines words summary → is_bit words line ≡ true → line < lines
within_lines lines words summary line kept is_set =
    elim (cases_lt line lines) [ inl below ↦ below | inr above ↦ absurd (let clear = kept.within line above in cc) ]

zero_of_clear : (word : ℕ) → not (word == 0) ≡ false → word ≡ 0
zero_of_clear word clear =
    elim (eqb_tells word 0) [ inl (_, is) ↦ is | inr (other, _) ↦ absurd (let set : not (word == 0) ≡ true = ap not other in cc) ]

-- a page that the summary doesn't tell has no marks
no_marks : (lines : ℕ) (words summary : List ℕ) (at : ℕ) → IsMarking lines words summary → is_bit summary (at / 64) ≡ false → is_bit words at ≡ false
no_marks lines words summary at kept clear =
    ap (λ n. is_bit_of n (at % 64)) (zero_of_clear (get_or words (at / 64) 0) (sym (kept.agrees (at / 64)) ∙ clear))
    ∙ ap (λ n. n == 1) (bit_at-zero (at % 64))

contradiction : (b : Bool) → b ≡ true → b ≡ false → ⊥
contradiction b is_true is_false = false≢true (sym is_false ∙ is_true)

-- no later page has marks
pub none_behind_page : (lines : ℕ) (words summary : List ℕ) (page : ℕ) → IsMarking lines words summary → IsFirst (is_bit summary) (page + 1) None → IsFirst (is_bit words) (64 * (page + 1)) None
none_behind_page lines words summary page kept later at behind = no_marks lines words summary at kept (later (at / 64) (omega arith))

-- a page that the summary tells isn't 0
pub some_mark : (lines : ℕ) (words summary : List ℕ) (page : ℕ) → IsMarking lines words summary → is_bit summary page ≡ true → get_or words page 0 / 2 ^ 0 ≡ 0 → ⊥
some_mark lines words summary page kept told none =
    contradiction _ (sym (kept.agrees page) ∙ told) (ap (λ n. not (n == 0)) (whole (get_or words page 0) ∙ none))
  where
    whole : (n : ℕ) → n ≡ n / 2 ^ 0
    whole n = omega arith

-- the page of a summary bit is one of the words
pub is_page : (lines : ℕ) (words summary : List ℕ) (page : ℕ) → IsMarking lines words summary → is_bit summary page ≡ true → page < length words
is_page lines words summary page kept told =
    elim (cases_lt page (length words)) [
      | inl below ↦ below
      | inr past ↦ absurd (contradiction _ (sym (kept.agrees page) ∙ told) (ap (λ n. not (n == 0)) (get_or_past words page 0 past)))
    ]

-- the first mark behind a page is that of the next page that has one
pub first_behind_page : (lines : ℕ) (words summary : List ℕ) (page next bit : ℕ) → IsMarking lines words summary → bit < 64 → IsFirst (is_bit summary) (page + 1) (Some next)
    → IsFirst (is_bit_of (get_or words next 0)) 0 (Some bit) → IsFirst (is_bit words) (64 * (page + 1)) (Some (64 * next + bit))
first_behind_page lines words summary page next bit kept below later mark = (omega (arith, later.0), is_set ∙ mark.1, none_before)
  where
    at_page : (64 * next + bit) / 64 ≡ next
    at_page = omega arith

    at_bit : (64 * next + bit) % 64 ≡ bit
    at_bit = omega arith

    is_set : is_bit words (64 * next + bit) ≡ is_bit_of (get_or words next 0) bit
    is_set = λ i. is_bit_of (get_or words (at_page i) 0) (at_bit i)

    none_before : (at : ℕ) → 64 * (page + 1) ≤ at → at < 64 * next + bit → is_bit words at ≡ false
    none_before at behind before =
        elim (eqb_tells (at / 64) next) as (λ _. is_bit words at ≡ false) [
          | inl (_, is) ↦ ap (λ n. is_bit_of (get_or words n 0) (at % 64)) is ∙ mark.2 (at % 64) (omega arith) (omega arith)
          | inr (_, differs) ↦ no_marks lines words summary at kept (later.2 (at / 64) (omega arith) (omega arith))
        ]

-- the first mark from a place on, where none is left in its page
pub first_past_page : (words : List ℕ) (from : ℕ) (result : Option ℕ) → IsFirst (is_bit_of (get_or words (from / 64) 0)) (from % 64) None → IsFirst (is_bit words) (64 * (from / 64 + 1)) result
    → IsFirst (is_bit words) from result
first_past_page words from None here later =
    λ at behind. elim (eqb_tells (at / 64) (from / 64)) as (λ _. is_bit words at ≡ false) [
      | inl (_, is) ↦ ap (λ n. is_bit_of (get_or words n 0) (at % 64)) is ∙ here (at % 64) (omega arith)
      | inr (_, differs) ↦ later at (omega arith)
    ]
first_past_page words from (Some first) here later =
    (omega (arith, later.0), later.1, none_before)
  where
    none_before : (at : ℕ) → from ≤ at → at < first → is_bit words at ≡ false
    none_before at behind before =
        elim (eqb_tells (at / 64) (from / 64)) as (λ _. is_bit words at ≡ false) [
          | inl (_, is) ↦ ap (λ n. is_bit_of (get_or words n 0) (at % 64)) is ∙ here (at % 64) (omega arith)
          | inr (_, differs) ↦ later.2 at (omega arith) before
        ]

-- the first mark from a place on is in its page
pub first_in_page : (words : List ℕ) (from bit : ℕ) → bit < 64 → IsFirst (is_bit_of (get_or words (from / 64) 0)) (from % 64) (Some bit) → IsFirst (is_bit words) from (Some (64 * (from / 64) + bit))
first_in_page words from bit below mark = (omega (arith, mark.0), is_set ∙ mark.1, none_before)
  where
    at_page : (64 * (from / 64) + bit) / 64 ≡ from / 64
    at_page = omega arith

    at_bit : (64 * (from / 64) + bit) % 64 ≡ bit
    at_bit = omega arith

    is_set : is_bit words (64 * (from / 64) + bit) ≡ is_bit_of (get_or words (from / 64) 0) bit
    is_set = λ i. is_bit_of (get_or words (at_page i) 0) (at_bit i)

    none_before : (at : ℕ) → from ≤ at → at < 64 * (from / 64) + bit → is_bit words at ≡ false
    none_before at behind before =
        let same : at / 64 ≡ from / 64 = omega arith in
        ap (λ n. is_bit_of (get_or words n 0) (at % 64)) same ∙ mark.2 (at % 64) (omega arith) (omega arith)

-- no bit of zeros is set
pub no_bits : (n : ℕ) → is_bit (replicate {A = ℕ} n 0) ≡ (λ at. false)
no_bits n = λ k at. clear at k
  where
    zero_at : (n at : ℕ) → get_or {A = ℕ} (replicate n 0) at 0 ≡ 0
    zero_at zero at = refl
    zero_at (suc n) zero = refl
    zero_at (suc n) (suc at) = zero_at n at

    clear : (at : ℕ) → is_bit (replicate {A = ℕ} n 0) at ≡ false
    clear at = ap (λ word. is_bit_of word (at % 64)) (zero_at n (at / 64)) ∙ ap (λ n. n == 1) (bit_at-zero (at % 64))
