-- What calls answer.
use Rattle.std.specs.Prelude.{◌≡◌, ◌⊎◌, Result, Ok, Err}
use Rattle.dsm_syntax.specs.declared.errors.ProgErr.{ProgErr}
use Rattle.dsm_syntax.specs.declared.errors.ProgErr.TheVariants as err
use Rattle.dsm_check.specs.Checks.{Check}

-- what a call answers shows what a check makes, or it is refused as the check refuses, or memory ran out
abbrev pub Gives : {A B : Type 0} → (A → B) → Result A ProgErr → Check B → Type 0
Gives see (Ok a) check = check ≡ Ok (see a)
Gives see (Err e) check = (e ≡ err.Memory) ⊎ (check ≡ Err e)
