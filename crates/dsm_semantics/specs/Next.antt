-- The next step of a thread that has a label.
use Rattle.std.specs.Prelude.{◌≡◌, ℕ, zero, suc, ℤ, List}
use Rattle.dsm_base.specs.declared.label.Want.{Want}
use Rattle.dsm_check.specs.Resolved as r
use Rattle.dsm_semantics.specs.States.{State}
use Rattle.dsm_base.specs.Steps.{goes, asks}
use Rattle.dsm_semantics.specs.Semantics.{step}

-- so many steps without a label lead from a state to another
abbrev pub LeadTo : List r.Function → ℕ → State → State → Type 0
LeadTo functions zero s t = s ≡ t
LeadTo functions (suc count) s t = (u : State) × (step functions s ≡ goes u) × LeadTo functions count u t

-- steps without a label lead to a state in which something is wanted
pub record IsNext (functions : List r.Function) (s t : State) (want : Want) : Type 0 where
  pub count : ℕ
  pub lead : LeadTo functions count s t
  pub after : ℤ → State
  pub wanted : step functions t ≡ asks want after
