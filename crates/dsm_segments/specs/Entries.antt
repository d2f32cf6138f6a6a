-- The entries of chains, as callers see them: for each chain its segments, each a list of entries.
use Rattle.std.specs.Prelude.{ℕ, ◌-◌, ◌≤◌, ◌==◌, if◌then◌else◌, nat_le, nat_lt, List, [], ◌∷◌, ◌++◌, filter, length, Option, None, Some, slice_get}
use Rattle.std.specs.List.{slice_index_or}
use Rattle.std.specs.Option.{option_or}

-- lists one behind another
abbrev pub joined : {A : Type 0} → List (List A) → List A
joined [] = []
joined (list ∷ lists) = list ++ joined lists

-- the segments of a chain; one that has had no entry has none
abbrev pub segments : {A : Type 0} → List (List (List A)) → ℕ → List (List A)
segments chains owner = slice_index_or chains owner []

-- the entries of a chain, the oldest first
abbrev pub entries : {A : Type 0} → List (List (List A)) → ℕ → List A
entries chains owner = joined (segments chains owner)

-- the last one
abbrev pub newest : {A : Type 0} → List A → Option A
newest list = slice_get list (length list - 1)

module _ {A : Type 0} (number : A → ℕ) where
  -- those over a number
  abbrev pub over : ℕ → List A → List A
  over least list = filter (λ entry. nat_lt least (number entry)) list

  -- what is left once those at the front go that are not over a number
  abbrev pub behind : ℕ → List A → List A
  behind upto [] = []
  behind upto (entry ∷ list) = if nat_le (number entry) upto then behind upto list else entry ∷ list

  -- the last entry with a number
  abbrev pub latest : ℕ → List A → Option A
  latest wanted [] = None
  latest wanted (entry ∷ list) = option_or (latest wanted list) (if number entry == wanted then Some entry else None)

  -- no number is below that of the entry before
  abbrev pub IsRising : List A → Type 0
  IsRising [] = Unit {0}
  IsRising (entry ∷ []) = Unit {0}
  IsRising (entry ∷ next ∷ list) = (number entry ≤ number next) × IsRising (next ∷ list)
