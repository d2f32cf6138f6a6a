-- Entries of a list by their keys.
use Rattle.std.specs.Prelude.{ℕ, ◌+◌, Bool, ◌&&◌, ◌==◌, if◌then◌else◌, List, [], ◌∷◌, Option, Some, None}

-- whether a key is that of this number and object
abbrev pub is_key : ℕ × ℕ → ℕ → ℕ → Bool
is_key key number object = (key.0 == number) && (key.1 == object)

-- a place for one key alone
abbrev pub one_place : ℕ × ℕ → ℕ → ℕ → ℕ → Option ℕ
one_place key place number object = if is_key key number object then Some place else None

module _ {A : Type 0} (key_of : A → ℕ × ℕ) where
  -- whether an entry has this key
  abbrev pub has_key : ℕ → ℕ → A → Bool
  has_key number object entry = is_key (key_of entry) number object

  -- the place of the first entry with a key, where the first of the list has this place
  abbrev pub first_place : ℕ → ℕ → ℕ → List A → Option ℕ
  first_place number object at [] = None
  first_place number object at (entry ∷ entries) =
      if has_key number object entry then Some at else first_place number object (at + 1) entries
