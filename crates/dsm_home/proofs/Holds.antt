-- The holders of a lock are those of the requests that were granted.
use Rattle.std.proofs.Common.{◌≡◌, ℕ, true, false, not, ◌==◌, List, [], ◌∷◌, map, filter, refl, ap, cond}
use Rattle.dsm_home.specs.declared.waiting.Waiting.{Waiting}
use Rattle.dsm_home.specs.LockStates.{holder_of, without_holder}

pub without_granted : (p : ℕ) (granted : List Waiting) → map holder_of (filter (λ one. not (one.proc.0 == p)) granted) ≡ without_holder p (map holder_of granted)
without_granted p [] = refl
without_granted p (one ∷ others) =
    elim (one.proc.0 == p) as (λ b. map holder_of (cond (not b) (one ∷ filter (λ (w : Waiting). not (w.proc.0 == p)) others) (filter (λ (w : Waiting). not (w.proc.0 == p)) others)) ≡ cond (not b) (holder_of one ∷ without_holder p (map holder_of others)) (without_holder p (map holder_of others))) [
      | true ↦ without_granted p others
      | false ↦ ap (λ rest. holder_of one ∷ rest) (without_granted p others)
    ]
