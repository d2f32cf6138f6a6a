-- What a sink takes.
use Rattle.std.specs.Prelude.{◌≡◌, ℕ, ◌≤◌, ◌<◌, List, ◌++◌, length, take, Option, Some, None, Result, MatchResult}
use Rattle.dsm_base.specs.declared.errors.ReadErr.{ReadErr}

-- what a sink that tells holds once it has taken more
abbrev pub appended : Option (List ℕ) → List ℕ → Option (List ℕ)
appended None more = None
appended (Some held) more = Some (held ++ more)

-- a sink takes a front of the bytes, and some of them where there are any
pub record Takes (before now : Option (List ℕ)) (bytes : List ℕ) (count : ℕ) : Type 0 where
  pub front : count ≤ length bytes
  pub some : 0 < length bytes → 0 < count
  pub taken : now ≡ appended before (take count bytes)

-- a put takes some of the bytes, or fails and takes none
abbrev pub PutTakes : Option (List ℕ) → Option (List ℕ) → List ℕ → Result ℕ ReadErr → Type 0
PutTakes before now bytes result = MatchResult result (Takes before now bytes) (λ _. now ≡ before)

-- some of the bytes were taken from the front, and not all of them
pub record TakesPart (before now : Option (List ℕ)) (bytes : List ℕ) : Type 0 where
  pub count : ℕ
  pub proper : count < length bytes
  pub taken : now ≡ appended before (take count bytes)
