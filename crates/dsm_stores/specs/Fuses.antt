-- What a call of a fuse does.
use Rattle.std.specs.Prelude.{◌≡◌, ℕ, ◌-◌, ◌≤◌, Result, IfOk}

-- the answer is an error
abbrev pub Fails : {T E : Type 0} → Result T E → Type 0
Fails result = IfOk result (λ _. ⊥)

-- one call less is left: where none was, the call fails and the store behind the fuse is as it was; else
-- it is passed on, and fails only for a cause that the store behind has
pub record Burns {S : Type 0} (left later : ℕ) (inner after : S) (HasFailed HasInnerCause : Type 0) :
    Type 0 where
  pub counts : later ≡ left - 1
  pub burnt : left ≡ 0 → HasFailed × (after ≡ inner)
  pub passed : 1 ≤ left → HasInnerCause
