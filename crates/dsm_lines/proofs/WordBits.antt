-- What a write to one word does to the bits, and where the first bit from a place on is.
use Rattle.std.proofs.Common.{◌≡◌, ◌≢◌, ℕ, ◌+◌, ◌-◌, ◌*◌, ◌/◌, ◌%◌, ◌^◌, ◌<◌, ◌≤◌, Bool, true, false, List, length, get_or, set, get_or-set_same, get_or-set_other, sym, ap, ◌∙◌, inl, inr, arith}
use Rattle.std.specs.Prelude.{◌==◌}
use Rattle.std.specs.Int.{bit_at, w64, bit_not, trailing_zeros}
use Rattle.std.specs.Int.RustNames.{bit_or, bit_and}
use Rattle.std.proofs.lemmas.Bool.Decides.{eqb_tells}
use Rattle.std.proofs.lemmas.Nat.{shr-shr, shr_le}
use Rattle.std.proofs.lemmas.Nat.Bits.{bit_at_set_same, bit_at_set_other, bit_at_clear_same, bit_at_clear_other, bit_at-trailing_zeros, bit_at-zero, bit_at_above}
use Rattle.std.proofs.lemmas.Bool.{cases_lt}
use Rattle.dsm_base.specs.Family.{update}
use Rattle.dsm_lines.specs.Bits.{is_bit, is_bit_of}

-- a word that differs in one bit
word_replaced : (words : List ℕ) (at word : ℕ) (b : Bool) → at / 64 < length words → is_bit_of word (at % 64) ≡ b
    → ((i : ℕ) → i < 64 → i ≢ at % 64 → bit_at word i ≡ bit_at (get_or words (at / 64) 0) i) → is_bit (set words (at / 64) word) ≡ update (is_bit words) at b
word_replaced words at word b within here others k j =
    elim (eqb_tells j at) as (λ _. is_bit (set words (at / 64) word) j ≡ update (is_bit words) at b j) [
      | inl (same, is) ↦
          rw same
          (ap (λ n. is_bit (set words (at / 64) word) n) is
          ∙ ap (λ w. is_bit_of w (at % 64)) (get_or-set_same words (at / 64) word 0 within)
          ∙ here)
      | inr (other, differs) ↦
          rw other
          (elim (eqb_tells (j / 64) (at / 64)) as (λ _. is_bit (set words (at / 64) word) j ≡ is_bit words j) [
            | inl (same, is) ↦
                ap (λ n. is_bit_of (get_or (set words (at / 64) word) n 0) (j % 64)) is
                ∙ ap (λ w. is_bit_of w (j % 64)) (get_or-set_same words (at / 64) word 0 within)
                ∙ ap (λ n. n == 1) (others (j % 64) (omega arith) (omega arith))
                ∙ ap (λ n. is_bit_of (get_or words n 0) (j % 64)) (sym is)
            | inr (other, differs) ↦ ap (λ w. is_bit_of w (j % 64)) (get_or-set_other words (at / 64) (j / 64) word 0 differs)
          ])
    ] k

pub bit_is_set : (words read words' : List ℕ) (at : ℕ) → at / 64 < length words → read ≡ words → words' ≡ set words (at / 64) (bit_or (get_or read (at / 64) 0) (1 * 2 ^ (at % 64) % 2 ^ 64))
    → is_bit words' ≡ update (is_bit words) at true
bit_is_set words read words' at within same is =
    ap is_bit (is ∙ ap (λ ws. set words (at / 64) (bit_or (get_or ws (at / 64) 0) (1 * 2 ^ (at % 64) % 2 ^ 64))) same)
    ∙ word_replaced words at _ true within
    (ap (λ n. n == 1) (bit_at_set_same w64 (get_or words (at / 64) 0) (at % 64) (omega arith)))
    (λ i fits differs. bit_at_set_other w64 (get_or words (at / 64) 0) (at % 64) (omega arith) i differs)

pub bit_is_clear : (words read words' : List ℕ) (at : ℕ) → at / 64 < length words → read ≡ words → words' ≡ set words (at / 64) (bit_and (get_or read (at / 64) 0) (bit_not w64 (1 * 2 ^ (at % 64) % 2 ^ 64)))
    → is_bit words' ≡ update (is_bit words) at false
bit_is_clear words read words' at within same is =
    ap is_bit (is ∙ ap (λ ws. set words (at / 64) (bit_and (get_or ws (at / 64) 0) (bit_not w64 (1 * 2 ^ (at % 64) % 2 ^ 64)))) same)
    ∙ word_replaced words at _ false within
    (ap (λ n. n == 1) (bit_at_clear_same w64 (get_or words (at / 64) 0) (at % 64) (omega arith)))
    (λ i fits differs. bit_at_clear_other w64 (get_or words (at / 64) 0) (at % 64) (omega arith) i fits differs)

-- the bits of a word from a place on
bit_behind : (word from at : ℕ) → from ≤ at → is_bit_of word at ≡ is_bit_of (word / 2 ^ from) (at - from)
bit_behind word from at behind =
    let joined : from + (at - from) ≡ at = omega arith in
    ap (λ n. n % 2 == 1) (sym (shr-shr word from (at - from) ∙ ap (λ n. word / 2 ^ n) joined))

pub none_behind : (word from at : ℕ) → word / 2 ^ from ≡ 0 → from ≤ at → is_bit_of word at ≡ false
none_behind word from at none behind =
    bit_behind word from at behind ∙ ap (λ n. is_bit_of n (at - from)) none ∙ ap (λ n. n == 1) (bit_at-zero (at - from))

-- the lowest bit of what is left of a word behind a shift
pub record IsLowest (word from first : ℕ) : Type 0 where
  pub below : first < 64
  pub is_set : is_bit_of word first ≡ true
  pub none_before : (at : ℕ) → from ≤ at → at < first → is_bit_of word at ≡ false

lowest_at : (word from k : ℕ) → word < 2 ^ 64 → bit_at (word / 2 ^ from) k ≡ 1 → ((i : ℕ) → i < k → bit_at (word / 2 ^ from) i ≡ 0) → IsLowest word from (from + k)
lowest_at word from k fits one zeros =
    let joined : from + k - from ≡ k = omega arith in
    let is_set : is_bit_of word (from + k) ≡ true =
    bit_behind word from (from + k) (omega arith)
    ∙ ap (is_bit_of (word / 2 ^ from)) joined
    ∙ ap (λ n. n == 1) one in
    record {
      below = elim (cases_lt (from + k) 64) [ inl below ↦ below | inr above ↦ absurd (is_not_set word (from + k) fits above is_set) ];
      is_set = is_set;
      none_before = λ at behind before. bit_behind word from at behind ∙ ap (λ n. n == 1) (zeros (at - from) (omega arith));
    }
  where
    is_not_set : (word at : ℕ) → word < 2 ^ 64 → 64 ≤ at → is_bit_of word at ≡ true → ⊥
    is_not_set word at fits above is_set =
        let clear : is_bit_of word at ≡ false = ap (λ n. n == 1) (bit_at_above word 64 at fits above) in
        cc

pub lowest : (word from : ℕ) → word < 2 ^ 64 → (word / 2 ^ from ≢ 0) → IsLowest word from (from + trailing_zeros w64 (word / 2 ^ from))
lowest word from fits some =
    let low = bit_at-trailing_zeros w64 (word / 2 ^ from) (omega (arith, some)) (omega (arith, shr_le word from)) in
    lowest_at word from _ fits low.1 low.2
