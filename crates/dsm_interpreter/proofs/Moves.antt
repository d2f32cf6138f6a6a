-- What a step of the code says of the state.
use Rattle.std.proofs.Common.{◌≡◌, ◌<◌, List, [], Option, Some, None, refl, sym, ap, ◌∙◌, subst}
use Rattle.dsm_base.specs.declared.label.Want.{Want}
use Rattle.dsm_check.specs.Resolved as r
use Rattle.dsm_base.specs.Steps.{Move, goes, asks, want_of}
use Rattle.dsm_semantics.specs.States.{State}
use Rattle.dsm_semantics.specs.Weights.{weight}
use Rattle.dsm_semantics.specs.Within.{Extent, IsStateWithin}
use Rattle.dsm_semantics.specs.Semantics.{step, ready}
use Rattle.dsm_base.proofs.StepsSettle.{Falls, settled_goes, settled_asks}
use Rattle.dsm_semantics.proofs.Falls.{weight_at, step_falls}
use Rattle.dsm_semantics.proofs.Within.{goes_within}
use Rattle.dsm_interpreter.specs.Threads.{Makes}

module _ (old new : State) (told : Option Want) (makes : (functions : List r.Function) → Makes (step functions old) old new told) where
  -- what is not told was a step without a label
  goes_of : (move : Move State) → told ≡ None → Makes move old new told → move ≡ goes new
  goes_of (goes t) is made = ap goes (sym made.1)
  goes_of (asks want after) is made = cc (is, made.0)

  goes_on : told ≡ None → (functions : List r.Function) → step functions old ≡ goes new
  goes_on is functions = goes_of (step functions old) is (makes functions)

  pub same_ready : told ≡ None → (functions : List r.Function) → ready functions new ≡ ready functions old
  same_ready is functions = sym (settled_goes (step functions) weight_at (step_falls functions) old new (goes_on is functions))

  pub less_left : told ≡ None → weight new.todo < weight old.todo
  less_left is = subst (Falls weight_at (weight_at old)) (goes_on is []) (step_falls [] old)

  pub still_within : told ≡ None → (extent : Extent) → IsStateWithin extent old → IsStateWithin extent new
  still_within is extent within = goes_within extent [] tt old new within (goes_on is [])

  -- what is told is wanted, and all is as it was
  wants_of : (functions : List r.Function) (want : Want) (move : Move State) → told ≡ Some want → step functions old ≡ move → Makes move old new told
      → (want ≡ want_of move) × (ready functions old ≡ old) × (new ≡ old)
  wants_of functions want (goes t) is steps made = cc (is, made.0)
  wants_of functions want (asks wanted after) is steps made =
      let same : want ≡ wanted = cc (is, made.0) in
      (same, settled_asks (step functions) weight_at (step_falls functions) old wanted after steps, made.1)

  wants : (functions : List r.Function) (want : Want) → told ≡ Some want → (want ≡ want_of (step functions old)) × (ready functions old ≡ old) × (new ≡ old)
  wants functions want is = wants_of functions want (step functions old) is refl (makes functions)

  pub same_state : (want : Want) → told ≡ Some want → new ≡ old
  same_state want is = (wants [] want is).2

  pub is_wanted : (want : Want) → told ≡ Some want → (functions : List r.Function) → want ≡ want_of (step functions new)
  is_wanted want is functions = (wants functions want is).0 ∙ ap (λ s. want_of (step functions s)) (sym (same_state want is))

  pub is_settled : (want : Want) → told ≡ Some want → (functions : List r.Function) → new ≡ ready functions old
  is_settled want is functions = same_state want is ∙ sym (wants functions want is).1
