-- What is loaded.
use Rattle.std.specs.Prelude.{◌≡◌, ◌⊎◌, ℕ, ◌≤◌, Option, Result, MatchResult, IfErr}
use Rattle.dsm_base.specs.declared.errors.LoadErr.{LoadErr}
use Rattle.dsm_base.specs.declared.errors.LoadErr.TheVariants.{Damaged, BadImage, StoreFault, Memory}
use Rattle.dsm_base.specs.Causes.{Rose}
use Rattle.dsm_base.specs.Store.{Contents}
use Rattle.dsm_saver.specs.States.{HasMark}

-- what is owed where the store failed; out of memory is free, and a saver finds nothing else wrong
abbrev pub OnStoreFault : LoadErr → Type 0 → Type 0
OnStoreFault (Damaged kept found) P = ⊥
OnStoreFault (BadImage place) P = ⊥
OnStoreFault StoreFault P = P
OnStoreFault Memory P = Unit {0}

-- the count of failures never falls, and a load failed for the store only where it rose
pub record HasLoadCause {T : Type 0} (before now : ℕ) (result : Result T LoadErr) : Type 0 where
  pub later : before ≤ now
  pub rose : IfErr result (λ e. OnStoreFault e (Rose before now))

-- after a load the mark that is known is that of a store that tells; after an error it may still be the one before
abbrev pub Knows : {T : Type 0} → Option (ℕ × ℕ) → Option (ℕ × ℕ) → Option Contents → Result T LoadErr → Type 0
Knows before now holds result = MatchResult result (λ _. HasMark now holds) (λ _. (now ≡ before) ⊎ HasMark now holds)
