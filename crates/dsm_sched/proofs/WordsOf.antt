-- The words of a line, one after another.
use Rattle.std.specs.Prelude.{◌≡◌, ℕ, ◌+◌, ◌≤◌, ◌<◌, Bool, true, false, List, [], ◌∷◌, ◌++◌, length, filter, take, drop}
use Rattle.std.specs.List.{slice_split, onto_first, prefix_len}
use Rattle.std.proofs.Common.{refl, ap, ◌∙◌, arith, append-nil, inl, inr, suc}
use Rattle.std.proofs.lemmas.Bool.{cases_Bool}
use Rattle.dsm_sched.specs.Words.{is_blank, not_blank, is_something}

-- the words of what stands before a comment
abbrev pub parted : List ℕ → List (List ℕ)
parted line = filter is_something (slice_split is_blank line)

one_more : (n : ℕ) → 1 + n ≡ suc n
one_more n = omega arith

-- blanks in front count for nothing
pub parted-blanks : (line : List ℕ) → parted (drop (prefix_len is_blank line) line) ≡ parted line
parted-blanks [] = refl
parted-blanks (byte ∷ bytes) = elim (cases_Bool (is_blank byte)) [
  | inl e ↦ rw e (rw (one_more (prefix_len is_blank bytes)) (parted-blanks bytes))
  | inr e ↦ rw e (rw e refl)
]

-- no blank is left in front
pub prefix_len-blanks : (line : List ℕ) → prefix_len is_blank (drop (prefix_len is_blank line) line) ≡ 0
prefix_len-blanks [] = refl
prefix_len-blanks (byte ∷ bytes) = elim (cases_Bool (is_blank byte)) [
  | inl e ↦ rw e (rw (one_more (prefix_len is_blank bytes)) (prefix_len-blanks bytes))
  | inr e ↦ rw e (rw e refl)
]

-- a word put in front of the first part
abbrev attached : List ℕ → List (List ℕ) → List (List ℕ)
attached word [] = word ∷ []
attached word (part ∷ parts) = (word ++ part) ∷ parts

onto_attached : (byte : ℕ) (word : List ℕ) (parts : List (List ℕ)) → onto_first byte (attached word parts) ≡ attached (byte ∷ word) parts
onto_attached byte word [] = refl
onto_attached byte word (part ∷ parts) = refl

-- the parts of a line are not none
record IsParted (line : List ℕ) : Type 0 where
  rest : List (List ℕ)
  is : slice_split is_blank line ≡ [] ∷ rest

blank_first : (byte : ℕ) (bytes : List ℕ) → is_blank byte ≡ true → IsParted (byte ∷ bytes)
blank_first byte bytes e = record { rest = slice_split is_blank bytes; is = rw e refl }

-- the bytes up to the first blank stand in the first part
split-word : (line : List ℕ) → slice_split is_blank line ≡ attached (take (prefix_len not_blank line) line) (slice_split is_blank (drop (prefix_len not_blank line) line))
split-word [] = refl
split-word (byte ∷ bytes) = elim (cases_Bool (is_blank byte)) [
  | inl e ↦ rw e (rw e refl)
  | inr e ↦
      rw e (rw (one_more (prefix_len not_blank bytes)) (ap (onto_first byte) (split-word bytes)
      ∙ onto_attached byte (take (prefix_len not_blank bytes) bytes) (slice_split is_blank (drop (prefix_len not_blank bytes) bytes))))
]

-- behind a word a blank comes, or nothing
behind_word : (line : List ℕ) → IsParted (drop (prefix_len not_blank line) line)
behind_word [] = record { rest = []; is = refl }
behind_word (byte ∷ bytes) = elim (cases_Bool (is_blank byte)) [
  | inl e ↦ rw e (blank_first byte bytes e)
  | inr e ↦ rw e (rw (one_more (prefix_len not_blank bytes)) (behind_word bytes))
]

kept_word : (word line : List ℕ) → is_something word ≡ true → IsParted line → filter is_something (attached word (slice_split is_blank line)) ≡ word ∷ parted line
kept_word word line some parts = rw parts.is (rw append-nil (rw some refl))

prefix_len-le : (test : ℕ → Bool) (line : List ℕ) → prefix_len test line ≤ length line
prefix_len-le test [] = omega arith
prefix_len-le test (byte ∷ bytes) = elim (cases_Bool (test byte)) [
  | inl e ↦ rw e (omega (arith, prefix_len-le test bytes))
  | inr e ↦ rw e (omega arith)
]

-- a line that is not empty and begins with no blank: its first word, and what is left
pub record TakesWord (line : List ℕ) : Type 0 where
  pub split : parted line ≡ take (prefix_len not_blank line) line ∷ parted (drop (prefix_len not_blank line) line)
  pub some : 0 < prefix_len not_blank line
  pub within : prefix_len not_blank line ≤ length line

word_some : (byte : ℕ) (bytes : List ℕ) → is_blank byte ≡ false → is_something (take (prefix_len not_blank (byte ∷ bytes)) (byte ∷ bytes)) ≡ true
word_some byte bytes e = rw e (rw (one_more (prefix_len not_blank bytes)) refl)

pub takes_word : (line : List ℕ) → 0 < length line → prefix_len is_blank line ≡ 0 → TakesWord line
takes_word [] some begun = absurd (omega arith)
takes_word (byte ∷ bytes) some begun = elim (cases_Bool (is_blank byte)) [
  | inl e ↦ absurd (omega (arith, rw e at begun))
  | inr e ↦ record {
    split =
        ap (filter is_something) (split-word (byte ∷ bytes))
        ∙ kept_word (take (prefix_len not_blank (byte ∷ bytes)) (byte ∷ bytes)) (drop (prefix_len not_blank (byte ∷ bytes)) (byte ∷ bytes)) (word_some byte bytes e) (behind_word (byte ∷ bytes));
    some = rw e (omega arith);
    within = prefix_len-le not_blank (byte ∷ bytes);
  }
]

pub blanks_within : (line : List ℕ) → prefix_len is_blank line ≤ length line
blanks_within line = prefix_len-le is_blank line
