use Rattle.std.proofs.Common.{◌≡◌, ℕ, ap, ◌∙◌}
use Rattle.dsm_base.specs.Family.{family_of}
use Rattle.dsm_base.proofs.Families.{family_of_replicate}
use Rattle.dsm_home.specs.LockStates.{LockState, start_lock}
use Rattle.dsm_home.proofs.home.Home.new.Goals as goal

pub returns-clause-state : goal.returns-clause-state
returns-clause-state c =
    let default : ℕ → LockState = λ _. start_lock in
    let are : ◌≡◌ {A = ℕ → LockState} (family_of default c.in_ok-new_locks.field-0.items) default =
    ap (family_of default) c.in_ok-new_locks.ensures ∙ family_of_replicate _ start_lock in
    λ i. record {
      locks = are i;
      stamps = c.in_ok-new.ensures.stamps i;
      values = c.in_ok-new.ensures.zeros i;
    }
