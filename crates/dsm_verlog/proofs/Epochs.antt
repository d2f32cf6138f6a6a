-- Arrivals below an epoch are those up to the epoch before it.
use Rattle.std.proofs.Common.{◌≡◌, ◌∙◌, inl, inr, ℕ, zero, suc, ◌≤◌, ◌+◌, ◌-◌, Bool, true, false, nat_le, nat_lt, List, [], ◌∷◌, Option, Some, None, filter, refl, sym, ap, arith}
use Rattle.std.proofs.Math.Path.{fun_ext}
use Rattle.std.proofs.lemmas.Bool.{cases_Bool, cond-true, cond-false}
use Rattle.std.specs.Prelude.{SomeIff}
use Rattle.dsm_lines.specs.declared.of_objects.Arrival.{Arrival}
use Rattle.dsm_segments.specs.Entries.{behind, over}
use Rattle.dsm_verlog.specs.Logs.{arrivals_from}

module _ (below last : ℕ) (next : below ≡ last + 1) where
  below_too : (epoch : ℕ) → nat_le epoch last ≡ true → nat_lt epoch below ≡ true
  below_too epoch old = grind arith

  not_below : (epoch : ℕ) → nat_le epoch last ≡ false → nat_lt epoch below ≡ false
  not_below epoch new = grind arith

  same_test : (epoch : ℕ) → nat_lt last epoch ≡ nat_le below epoch
  same_test epoch = grind arith

  pub from_behind : (list : List Arrival) → behind (λ arrival. arrival.epoch) last list ≡ arrivals_from below list
  from_behind [] = refl
  from_behind (arrival ∷ list) = elim (cases_Bool (nat_le arrival.epoch last)) [
    | inl old ↦ cond-true _ _ _ old ∙ from_behind list ∙ sym (cond-true (nat_lt arrival.epoch below) _ _ (below_too arrival.epoch old))
    | inr new ↦ cond-false _ _ _ new ∙ sym (cond-false (nat_lt arrival.epoch below) _ _ (not_below arrival.epoch new))
  ]

  pub over_from : (list : List Arrival) → over (λ arrival. arrival.epoch) last list ≡ filter (λ arrival. nat_le below arrival.epoch) list
  over_from list = ap (λ (test : Arrival → Bool). filter test list) (fun_ext (λ arrival. same_test arrival.epoch))

-- only the first epoch has none before it
pub none_before : (below : ℕ) (last : Option ℕ) → SomeIff last (1 ≤ below) (below - 1) → ((epoch : ℕ) → last ≡ Some epoch → ⊥) → below ≡ 0
none_before zero None none absent = refl
none_before (suc below) None none absent = absurd (none (omega arith))
none_before below (Some epoch) is absent = absurd (absent epoch refl)

-- none is below the first epoch
pub from_zero : (list : List Arrival) → arrivals_from 0 list ≡ list
from_zero [] = refl
from_zero (arrival ∷ list) = cond-false (nat_lt arrival.epoch 0) _ _ (none_below arrival.epoch)
  where
    none_below : (epoch : ℕ) → nat_lt epoch 0 ≡ false
    none_below epoch = grind arith

pub all_from_zero : (list : List Arrival) → filter (λ arrival. nat_le 0 arrival.epoch) list ≡ list
all_from_zero [] = refl
all_from_zero (arrival ∷ list) =
    cond-true (nat_le 0 arrival.epoch) _ _ (all_above arrival.epoch) ∙ ap (λ (l : List Arrival). arrival ∷ l) (all_from_zero list)
  where
    all_above : (epoch : ℕ) → nat_le 0 epoch ≡ true
    all_above epoch = grind arith
