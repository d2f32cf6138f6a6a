-- Bits in words of 64.
use Rattle.std.specs.Prelude.{◌≡◌, ℕ, ◌/◌, ◌%◌, ◌<◌, ◌≤◌, Bool, true, false, not, ◌==◌, List, slice_index, Option, Some, None}
use Rattle.std.specs.Int.{bit_at}

-- whether a bit of a word is set
abbrev pub is_bit_of : ℕ → ℕ → Bool
is_bit_of word at = bit_at word at == 1

-- whether a bit is set: each word has 64 of them, and behind the last word none is set
abbrev pub is_bit : List ℕ → ℕ → Bool
is_bit words at = is_bit_of (slice_index words (at / 64)) (at % 64)

-- the first number from here on that passes, where there is one
abbrev pub IsFirst : (ℕ → Bool) → ℕ → Option ℕ → Type 0
IsFirst test from None = (at : ℕ) → from ≤ at → test at ≡ false
IsFirst test from (Some first) = (from ≤ first)
    × (test first ≡ true)
    × ((at : ℕ) → from ≤ at → at < first → test at ≡ false)

-- the summary has a bit for each word, which is set where the word isn't 0
abbrev pub IsSummary : List ℕ → List ℕ → Type 0
IsSummary words summary = (word : ℕ) → is_bit summary word ≡ not (slice_index words word == 0)
