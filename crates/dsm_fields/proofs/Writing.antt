-- What was written, field by field.
use Rattle.std.proofs.Common.{◌≡◌, ◌∙◌, ℕ, true, List, [], ◌∷◌, ◌++◌, Option, refl, ap, subst, append_assoc}
use Rattle.dsm_fields.specs.Fields.{Field, bytes_of, counted, are_fit, are_held, are_kept, Appends}
use Rattle.dsm_fields.proofs.Exact.{both_true}
use Rattle.dsm_fields.proofs.Loops.{appends_then}

-- one field, and then others
pub field_first : (field : Field) {back : List Field} {old mid new : List ℕ} → mid ≡ old ++ field.bytes → field.holds ≡ true → Appends back mid new → Appends (field ∷ back) old new
field_first field {back} {old} {mid} {new} written held behind = record {
  bytes = behind.bytes ∙ ap (λ (w : List ℕ). w ++ bytes_of back) written ∙ append_assoc old field.bytes (bytes_of back);
  held = rw held behind.held;
}

-- some fields, and then others
pub fields_first : {front back : List Field} {old mid new : List ℕ} → Appends front old mid → Appends back mid new → Appends (front ++ back) old new
fields_first {front} {back} {old} {mid} {new} one two = appends_then front back old mid new one two

-- the list that was written, under its other name
pub of_list : {A : Type 0} (fields : Option A → A → List Field) {was now : List A} {old new : List ℕ} → was ≡ now → Appends (counted fields was) old new → Appends (counted fields now) old new
of_list {A} fields {was} {now} {old} {new} same one = subst (λ (items : List A). Appends (counted fields items) old new) same one

-- fields that keep their ranges and have room are fit
pub fit_fields : (fields : List Field) → are_held fields ≡ true → are_kept fields ≡ true → are_fit fields ≡ true
fit_fields [] held kept = refl
fit_fields (field ∷ fields) held kept =
    let h = both_true field.holds (are_held fields) held in
    let k = both_true field.keeps (are_kept fields) kept in
    rw (h.0, k.0, fit_fields fields h.1 k.1) refl
