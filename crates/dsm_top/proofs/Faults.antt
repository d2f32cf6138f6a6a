-- Faults of what was handed in.
use Rattle.std.specs.Prelude.{◌≤◌, ℕ, Result, Ok, Err}
use Rattle.std.proofs.Common.{arith}
use Rattle.dsm_base.specs.declared.errors.ReadErr.{ReadErr}
use Rattle.dsm_base.specs.Causes.{Rose, IfFailed, HasCause}

-- a count that rose from a later stand rose from an earlier one
pub rose_before : (before old now : ℕ) → before ≤ old → Rose old now → Rose before now
rose_before before old now earlier rose = omega (arith, earlier, rose)

if_failed_before : (before old now : ℕ) (e : ReadErr) → before ≤ old → IfFailed e (Rose old now) → IfFailed e (Rose before now)
if_failed_before before old now ReadErr.Failed earlier rose = rose_before before old now earlier rose
if_failed_before before old now ReadErr.Memory earlier rose = tt

-- an error that has its cause since a later stand has it since an earlier one
pub cause_before : {T : Type 0} → (before old now : ℕ) (e : ReadErr) → before ≤ old → HasCause {T = T} old now (Err e) → HasCause {T = T} before now (Err e)
cause_before before old now e earlier cause = record {
  later = omega (arith, earlier, cause.later);
  rose = if_failed_before before old now e earlier cause.rose;
}

pub cause_since : {T : Type 0} → (before old now : ℕ) (result : Result T ReadErr) → before ≤ old → HasCause {T = T} old now result → HasCause {T = T} before now result
cause_since before old now (Ok value) earlier cause = record { later = omega (arith, earlier, cause.later); rose = tt }
cause_since before old now (Err e) earlier cause = cause_before before old now e earlier cause
