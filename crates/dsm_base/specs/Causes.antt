-- Failures have a cause: a count that rose.
use Rattle.std.specs.Prelude.{ℕ, ◌+◌, ◌-◌, ◌^◌, ◌≤◌, min, Result, MatchResult, IfErr}
use Rattle.dsm_base.specs.declared.errors.Failed.{Failed as Failure}
use Rattle.dsm_base.specs.declared.errors.ReadErr.{ReadErr}
use Rattle.dsm_base.specs.declared.errors.ReadErr.TheVariants.{Failed, Memory}

-- the count of failures is greater than before, or stands at its last value
abbrev pub Rose : ℕ → ℕ → Type 0
Rose before now = min (before + 1) (2 ^ 64 - 1) ≤ now

-- what is owed where the object failed
abbrev pub IfFailed : ReadErr → Type 0 → Type 0
IfFailed Failed P = P
IfFailed Memory P = Unit {0}

-- the count never falls, and the object failed only where it rose
pub record HasCause {T : Type 0} (before now : ℕ) (result : Result T ReadErr) : Type 0 where
  pub later : before ≤ now
  pub rose : MatchResult result (λ _. Unit {0}) (λ e. IfFailed e (Rose before now))

-- the same of a call whose only error is a failure
pub record HasFailureCause {T : Type 0} (before now : ℕ) (result : Result T Failure) : Type 0 where
  pub later : before ≤ now
  pub rose : IfErr result (λ _. Rose before now)
