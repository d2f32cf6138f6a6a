-- A machine whose steps without a label lessen a number comes to a step that wants something, after steps whose number doesn't matter.
use Rattle.std.proofs.Common.{◌≡◌, ℕ, zero, suc, ◌<◌, ◌≤◌, ℤ, refl, sym, ap, ◌∙◌, subst, arith}
use Rattle.dsm_base.specs.declared.label.Want.{Want}
use Rattle.dsm_base.specs.Steps.{Move, goes, asks, goes_on, settle, settled}

-- a step without a label leaves less than n
abbrev pub Falls : {S : Type 0} → (S → ℕ) → ℕ → Move S → Type 0
Falls weight n (goes t) = weight t < n
Falls weight n (asks want after) = Unit {0}

-- a step wants something
abbrev pub Asks : {S : Type 0} → Move S → Type 0
Asks (goes t) = ⊥
Asks (asks want after) = Unit {0}

module _ {S : Type 0} (step : S → Move S) (weight : S → ℕ) (falls : (s : S) → Falls weight (weight s) (step s)) where
  -- more turns than enough make no difference
  settle_enough : (n m : ℕ) (s : S) → weight s ≤ n → weight s ≤ m → settle step n s ≡ settle step m s
  settle_enough zero zero s p q = refl
  settle_enough zero (suc m) s p q = of (step s) (falls s)
    where
      of : (move : Move S) → Falls weight (weight s) move → s ≡ goes_on (settle step m) s move
      of (goes t) f = absurd (omega arith)
      of (asks want after) f = refl
  settle_enough (suc n) zero s p q = of (step s) (falls s)
    where
      of : (move : Move S) → Falls weight (weight s) move → goes_on (settle step n) s move ≡ s
      of (goes t) f = absurd (omega arith)
      of (asks want after) f = refl
  settle_enough (suc n) (suc m) s p q = of (step s) (falls s) (λ t a b. settle_enough n m t a b)
    where
      of : (move : Move S) → Falls weight (weight s) move → ((t : S) → weight t ≤ n → weight t ≤ m → settle step n t ≡ settle step m t)
          → goes_on (settle step n) s move ≡ goes_on (settle step m) s move
      of (goes t) f ih = ih t (omega arith) (omega arith)
      of (asks want after) f ih = refl

  pub settled_goes : (s t : S) → step s ≡ goes t → settled step weight s ≡ settled step weight t
  unfolding settled
  settled_goes s t e =
      let f : weight t < weight s = subst (Falls weight (weight s)) e (falls s) in
      settle_enough (weight s) (suc (weight s)) s (omega arith) (omega arith)
      ∙ ap (goes_on (settle step (weight s)) s) e
      ∙ settle_enough (weight s) (weight t) t (omega arith) (omega arith)

  pub settled_asks : (s : S) (want : Want) (after : ℤ → S) → step s ≡ asks want after → settled step weight s ≡ s
  unfolding settled
  settled_asks s want after e = settle_enough (weight s) (suc (weight s)) s (omega arith) (omega arith) ∙ ap (goes_on (settle step (weight s)) s) e

  -- what each step without a label keeps holds of the state that is settled in
  module _ (P : S → Type 0) (keeps : (s t : S) → P s → step s ≡ goes t → P t) where
    settle_keeps : (n : ℕ) (s : S) → P s → P (settle step n s)
    settle_keeps zero s p = p
    settle_keeps (suc n) s p = of (step s) refl (λ t q. settle_keeps n t q)
      where
        of : (move : Move S) → step s ≡ move → ((t : S) → P t → P (settle step n t)) → P (goes_on (settle step n) s move)
        of (goes t) e ih = ih t (keeps s t p e)
        of (asks want after) e ih = p

    pub settled_keeps : (s : S) → P s → P (settled step weight s)
    unfolding settled
    settled_keeps s p = settle_keeps (weight s) s p

  -- with enough turns a step that wants something is reached
  settle_reaches : (n : ℕ) (s : S) → weight s < n → Asks (step (settle step n s))
  settle_reaches zero s p = absurd (omega arith)
  settle_reaches (suc n) s p = of (step s) refl (falls s) (λ t q. settle_reaches n t q)
    where
      of : (move : Move S) → step s ≡ move → Falls weight (weight s) move → ((t : S) → weight t < n → Asks (step (settle step n t)))
          → Asks (step (goes_on (settle step n) s move))
      of (goes t) e f ih = ih t (omega arith)
      of (asks want after) e f ih = subst Asks (sym e) tt

  -- the state that is settled in wants something
  pub settled_reaches : (s : S) → Asks (step (settled step weight s))
  unfolding settled
  settled_reaches s =
      let e = settle_enough (suc (weight s)) (weight s) s (omega arith) (omega arith) in
      subst (λ t. Asks (step t)) e (settle_reaches (suc (weight s)) s (omega arith))

  -- and is settled in itself
  pub settled_stays : (s : S) → Asks (step s) → settled step weight s ≡ s
  settled_stays s a = of (step s) refl a
    where
      of : (move : Move S) → step s ≡ move → Asks move → settled step weight s ≡ s
      of (goes t) e a = absurd a
      of (asks want after) e a = settled_asks s want after e
