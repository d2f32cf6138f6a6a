-- What the rights of a processor in the code mean.
use Rattle.std.specs.Prelude.{◌≡◌, ℕ, length, Option, None}
use Rattle.dsm_base.specs.declared.names.Mode.{Mode}
use Rattle.dsm_base.specs.declared.rights.Rights as code
use Rattle.dsm_base.specs.Access.{Rights}
use Rattle.dsm_base.specs.Family.{family_of}

-- the modes in which the locks are held
abbrev pub held_of : code.Rights → ℕ → Option Mode
held_of rights = family_of (λ lock. None) rights.held

-- how often each barrier was come to
abbrev pub arrived_of : code.Rights → ℕ → ℕ
arrived_of rights = family_of (λ bar. 0) rights.arrived

-- how often each barrier was crossed
abbrev pub crossed_of : code.Rights → ℕ → ℕ
crossed_of rights = family_of (λ bar. 0) rights.crossed

-- the rights that the definitions speak of
abbrev pub rights_of : code.Rights → Rights
rights_of rights = record { held = held_of rights; crossed = crossed_of rights }

-- they are rights over so many locks and barriers
pub record HasSizes (locks bars : ℕ) (rights : code.Rights) : Type 0 where
  pub held : length rights.held ≡ locks
  pub arrived : length rights.arrived ≡ bars
  pub crossed : length rights.crossed ≡ bars
