-- Records that are kept one after another.
use Rattle.std.proofs.Common.{◌≡◌, ◌∙◌, inl, inr, ℕ, true, false, List, [], ◌∷◌, ◌++◌, Option, Some, sym, ap, append_assoc, append-nil, arith}
use Rattle.std.specs.Option.{option_map}
use Rattle.std.proofs.lemmas.Bool.{cases_Bool, cond-true, cond-false}
use Rattle.dsm_base.specs.declared.lists.Record.{Record}
use Rattle.dsm_base.specs.Family.{update}
use Rattle.dsm_base.proofs.Families.{update_same, update_twice, update_back}
use Rattle.dsm_segments.proofs.Lists.{newest-append}
use Rattle.dsm_acqlog.specs.Logs.{is_later, last_turn, later, with_records}

last_turn_push : (kept : List Record) (taken : Record) → last_turn (kept ++ taken ∷ []) ≡ Some taken.turn
last_turn_push kept taken = ap (option_map (λ (one : Record). one.turn)) (newest-append kept (taken ∷ []) (omega arith))

-- a later record is kept
pub with_later : (kept : List Record) (taken : Record) → is_later (last_turn kept) taken.turn ≡ true → with_records kept (taken ∷ []) ≡ kept ++ taken ∷ []
with_later kept taken is = ap (λ (l : List Record). kept ++ l) (cond-true (is_later (last_turn kept) taken.turn) (taken ∷ []) [] is)

-- another one isn't
pub without : (kept : List Record) (taken : Record) → is_later (last_turn kept) taken.turn ≡ false → with_records kept (taken ∷ []) ≡ kept
without kept taken is = ap (λ (l : List Record). kept ++ l) (cond-false (is_later (last_turn kept) taken.turn) (taken ∷ []) [] is) ∙ append-nil kept

-- one record and then the others are all of them
pub with_records_step : (kept : List Record) (taken : Record) (records : List Record)
    → with_records (with_records kept (taken ∷ [])) records ≡ with_records kept (taken ∷ records)
with_records_step kept taken records = elim (cases_Bool (is_later (last_turn kept) taken.turn)) [
  | inl is ↦
      ap (λ (k : List Record). with_records k records) (with_later kept taken is)
      ∙ ap (λ (o : Option ℕ). (kept ++ taken ∷ []) ++ later o records) (last_turn_push kept taken)
      ∙ append_assoc kept (taken ∷ []) (later (Some taken.turn) records)
      ∙ sym (ap (λ (l : List Record). kept ++ l) (cond-true (is_later (last_turn kept) taken.turn) (taken ∷ later (Some taken.turn) records) (later (last_turn kept) records) is))
  | inr is ↦
      ap (λ (k : List Record). with_records k records) (without kept taken is)
      ∙ sym (ap (λ (l : List Record). kept ++ l) (cond-false (is_later (last_turn kept) taken.turn) (taken ∷ later (Some taken.turn) records) (later (last_turn kept) records) is))
]

module _ (first old new : ℕ → List Record) (p : ℕ) (taken : Record) (step : new ≡ update old p (with_records (old p) (taken ∷ []))) where
  now_is : new p ≡ with_records (old p) (taken ∷ [])
  now_is = ap (λ (f : ℕ → List Record). f p) step ∙ update_same old p (with_records (old p) (taken ∷ []))

  pub own_kept : (rest all : List Record) → with_records (old p) (taken ∷ rest) ≡ all → with_records (new p) rest ≡ all
  own_kept rest all is = ap (λ (k : List Record). with_records k rest) now_is ∙ with_records_step (old p) taken rest ∙ is

  pub others_kept : old ≡ update first p (old p) → new ≡ update first p (new p)
  others_kept is =
      step
      ∙ ap (λ (f : ℕ → List Record). update f p (with_records (old p) (taken ∷ []))) is
      ∙ update_twice first p (old p) (with_records (old p) (taken ∷ []))
      ∙ ap (λ (k : List Record). update first p k) (sym now_is)

-- a record that isn't later changes nothing
pub left_alone : (f : ℕ → List Record) (p : ℕ) (taken : Record) → is_later (last_turn (f p)) taken.turn ≡ false → f ≡ update f p (with_records (f p) (taken ∷ []))
left_alone f p taken is = sym (ap (λ (k : List Record). update f p k) (without (f p) taken is) ∙ update_back f p)

-- when all have been gone over
pub all_kept : (first now : ℕ → List Record) (p : ℕ) (records : List Record) → now ≡ update first p (now p) → with_records (now p) [] ≡ with_records (first p) records
    → now ≡ update first p (with_records (first p) records)
all_kept first now p records others own = others ∙ ap (λ (k : List Record). update first p k) (sym (append-nil (now p)) ∙ own)
