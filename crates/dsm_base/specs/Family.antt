-- Families: functions of a number, of which one member changes at a time.
use Rattle.std.specs.Prelude.{ℕ, zero, suc, Bool, true, ◌&&◌, ◌==◌, if◌then◌else◌, List}
use Rattle.std.specs.List.{slice_index_or}

-- the family with one member replaced
abbrev pub update : {A : Type 0} → (ℕ → A) → ℕ → A → ℕ → A
update f k v i = if i == k then v else f i

-- the same of a family of families
abbrev pub update_at : {A : Type 0} → (ℕ → ℕ → A) → ℕ → ℕ → A → ℕ → ℕ → A
update_at f k l v = update f k (update (f k) l v)

-- whether a test holds of each number below n
abbrev pub all_below : ℕ → (ℕ → Bool) → Bool
all_below zero test = true
all_below (suc n) test = test n && all_below n test

-- a list as a family: the item at each index, and past the end the default there
abbrev pub family_of : {A : Type 0} → (ℕ → A) → List A → ℕ → A
family_of default items i = slice_index_or items i (default i)
