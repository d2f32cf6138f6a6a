-- What was written.
use Rattle.std.proofs.Common.{◌≡◌, ℕ, Bool, List, Option, None, subst}
use Rattle.dsm_fields.specs.Fields.{Field, numbered, Appends}
use Rattle.dsm_image_parts.specs.Spelling.{listed_with}

-- a list with its count, under its other name
pub of_listed : {A : Type 0} (passes : ℕ → Bool) (fields : ℕ → Option A → A → List Field) {was now : List A} {old new : List ℕ} → was ≡ now → Appends (listed_with passes fields was) old new → Appends (listed_with passes fields now) old new
of_listed {A} passes fields {was} {now} {old} {new} same one = subst (λ (items : List A). Appends (listed_with passes fields items) old new) same one

-- a list without one
pub of_numbered : {A : Type 0} (fields : ℕ → Option A → A → List Field) {was now : List A} {old new : List ℕ} → was ≡ now → Appends (numbered fields 0 None was) old new → Appends (numbered fields 0 None now) old new
of_numbered {A} fields {was} {now} {old} {new} same one = subst (λ (items : List A). Appends (numbered fields 0 None items) old new) same one
