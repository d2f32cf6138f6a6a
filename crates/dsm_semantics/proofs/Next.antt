-- Steps without a label lead to one next step.
use Rattle.std.specs.Prelude.{◌≡◌, ℕ, zero, suc, ℤ, List}
use Rattle.std.proofs.Common.{refl, sym, ◌∙◌, subst}
use Rattle.dsm_base.specs.declared.label.Want.{Want}
use Rattle.dsm_check.specs.Resolved as r
use Rattle.dsm_semantics.specs.States.{State}
use Rattle.dsm_base.specs.Steps.{Move, goes, asks, goes_on, settle, settled, want_of}
use Rattle.dsm_semantics.specs.Weights.{weight}
use Rattle.dsm_semantics.specs.Semantics.{step, ready}
use Rattle.dsm_base.proofs.StepsSettle.{Asks, settled_reaches}
use Rattle.dsm_semantics.proofs.Falls.{weight_at, step_falls}
use Rattle.dsm_semantics.specs.Next.{LeadTo, IsNext}

module _ (functions : List r.Function) where
  record Leads (s t : State) : Type 0 where
    count : ℕ
    lead : LeadTo functions count s t

  settle_leads : (n : ℕ) (s : State) → Leads s (settle (step functions) n s)
  settle_leads zero s = record { count = 0; lead = refl }
  settle_leads (suc n) s = of (step functions s) refl (λ t. settle_leads n t)
    where
      of : (move : Move State) → step functions s ≡ move → ((t : State) → Leads t (settle (step functions) n t)) → Leads s (goes_on (settle (step functions) n) s move)
      of (goes t) e rest = let more = rest t in record { count = suc more.count; lead = (t, e, more.lead) }
      of (asks want after) e rest = record { count = 0; lead = refl }

  ready_leads : (s : State) → Leads s (ready functions s)
  unfolding settled
  ready_leads s = settle_leads (weight s.todo) s

  asks_next : (s t : State) → Leads s t → (move : Move State) → step functions t ≡ move → Asks move → IsNext functions s t (want_of move)
  asks_next s t leads (goes u) e a = absurd a
  asks_next s t leads (asks want after) e a = record { count = leads.count; lead = leads.lead; after = after; wanted = e }

  pub there_is_one : (s : State) → IsNext functions s (ready functions s) (want_of (step functions (ready functions s)))
  there_is_one s = asks_next s (ready functions s) (ready_leads s) (step functions (ready functions s)) refl (settled_reaches (step functions) weight_at (step_falls functions) s)

  both : (n m : ℕ) (s t u : State) (one other : Want) (after then : ℤ → State) → LeadTo functions n s t → LeadTo functions m s u → step functions t ≡ asks one after → step functions u ≡ asks other then → (t ≡ u) × (one ≡ other)
  both zero zero s t u one other after then p q e f = (sym p ∙ q, cc)
  both zero (suc m) s t u one other after then p q e f = absurd cc
  both (suc n) zero s t u one other after then p q e f = absurd cc
  both (suc n) (suc m) s t u one other after then p q e f =
      let same : p.0 ≡ q.0 = cc in
      both n m p.0 t u one other after then p.2 (subst (λ v. LeadTo functions m v u) (sym same) q.2) e f

  pub only_one : (s t u : State) (one other : Want) → IsNext functions s t one → IsNext functions s u other → (t ≡ u) × (one ≡ other)
  only_one s t u one other a b = both a.count b.count s t u one other a.after b.after a.lead b.lead a.wanted b.wanted
