-- The versions that the own copy has.
use Rattle.std.specs.Prelude.{ℕ, List}
use Rattle.dsm_base.specs.Family.{family_of}

-- the version of each lock
abbrev pub versions_of : List ℕ → ℕ → ℕ
versions_of versions = family_of (λ _. 0) versions
