-- The lines of a text, one after another.
use Rattle.std.specs.Prelude.{◌≡◌, ℕ, suc, ◌+◌, ◌<◌, ◌≤◌, ◌==◌, Bool, false, List, [], ◌∷◌, length, map, take, drop}
use Rattle.std.specs.List.{slice_split, onto_first, prefix_len, enumerate_from}
use Rattle.std.specs.Str.Lines.{lines, lines_of_parts, strip_carriage_return}
use Rattle.std.proofs.Common.{refl, ap, ◌∙◌, arith, inl, inr}
use Rattle.std.proofs.lemmas.Bool.{cases_Bool}
use Rattle.std.proofs.lemmas.List.{length-map}
use Rattle.std.proofs.lemmas.List.FromFn.{length-enumerate_from}
use Rattle.std.proofs.lemmas.List.Splits.{slice_split_first, length-slice_split}
use Rattle.std.proofs.lemmas.List.Sums.{length-filter, count_by-le-length}
use Rattle.dsm_sched.specs.Words.{not_newline, rows_from, has_words, row_of}

is_newline : ℕ → Bool
is_newline byte = byte == 10

one_more : (n : ℕ) → 1 + n ≡ suc n
one_more n = omega arith

-- the parts of a text are never none
record HasParts (parts : List (List ℕ)) : Type 0 where
  first : List ℕ
  others : List (List ℕ)
  are : parts ≡ first ∷ others

onto_some : (byte : ℕ) (parts : List (List ℕ)) → HasParts (onto_first byte parts)
onto_some byte [] = record { first = byte ∷ []; others = []; are = refl }
onto_some byte (part ∷ parts) = record { first = byte ∷ part; others = parts; are = refl }

has_parts : (text : List ℕ) → HasParts (slice_split (λ b. b == 10) text)
has_parts [] = record { first = []; others = []; are = refl }
has_parts (byte ∷ bytes) = elim (cases_Bool (byte == 10)) [
  | inl e ↦ rw e record { first = []; others = slice_split (λ b. b == 10) bytes; are = refl }
  | inr e ↦ rw e (onto_some byte (slice_split (λ b. b == 10) bytes))
]

first_line : (line : List ℕ) (parts : List (List ℕ)) → HasParts parts → lines_of_parts (line ∷ parts) ≡ strip_carriage_return line ∷ lines_of_parts parts
first_line line parts some = rw some.are refl

-- the first line ends at the first newline
pub lines-first : (text : List ℕ) → prefix_len not_newline text < length text →
    lines text ≡ strip_carriage_return (take (prefix_len not_newline text) text) ∷ lines (drop (prefix_len not_newline text + 1) text)
lines-first text h =
    ap lines_of_parts (slice_split_first (λ b. b == 10) text 0 h)
    ∙ first_line (take (prefix_len not_newline text) text) (slice_split (λ b. b == 10) (drop (prefix_len not_newline text + 1) text)) (has_parts (drop (prefix_len not_newline text + 1) text))

-- a text without a newline is one part
one_part : (text : List ℕ) → prefix_len not_newline text ≡ length text → slice_split (λ b. b == 10) text ≡ text ∷ []
one_part [] h = refl
one_part (byte ∷ bytes) h = elim (cases_Bool (byte == 10)) [
  | inl e ↦ absurd (omega (arith, rw e at h))
  | inr e ↦ rw e (ap (onto_first byte) (one_part bytes (omega (arith, rw e at h))))
]

whole_part : (byte : ℕ) (bytes : List ℕ) → lines_of_parts ((byte ∷ bytes) ∷ []) ≡ (byte ∷ bytes) ∷ []
whole_part byte bytes =
    let some : (length (byte ∷ bytes) == 0) ≡ false = grind arith in
    rw some refl

-- a text without a newline is one line
pub lines-last : (text : List ℕ) → 0 < length text → prefix_len not_newline text ≡ length text → lines text ≡ text ∷ []
lines-last [] some h = absurd (omega arith)
lines-last (byte ∷ bytes) some h = ap lines_of_parts (one_part (byte ∷ bytes) h) ∙ whole_part byte bytes

few_lines : (parts : List (List ℕ)) → length (lines_of_parts parts) ≤ length parts
few_lines [] = omega arith
few_lines (part ∷ []) = elim (cases_Bool (length part == 0)) [ inl e ↦ rw e (omega arith) | inr e ↦ rw e (omega arith) ]
few_lines (part ∷ next ∷ parts) = let fewer : length (lines_of_parts (next ∷ parts)) ≤ length (next ∷ parts) = few_lines (next ∷ parts) in omega (arith, fewer)

-- a text has at most one row more than bytes
pub few_rows : (line : ℕ) (text : List ℕ) → length (rows_from line text) ≤ length text + 1
few_rows line text =
    let numbered = map row_of (enumerate_from line (lines text)) in
    let kept : length (rows_from line text) ≤ length numbered = rw length-filter (count_by-le-length has_words numbered) in
    let as_lines : length numbered ≡ length (lines text) = length-map (enumerate_from line (lines text)) row_of ∙ length-enumerate_from line (lines text) in
    omega (arith, kept, as_lines, few_lines (slice_split (λ b. b == 10) text), length-slice_split (λ b. b == 10) text, count_by-le-length (λ b. b == 10) text)
