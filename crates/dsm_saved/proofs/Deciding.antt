-- Values of which one decides whether an instruction stops.
use Rattle.std.proofs.Common.{◌≡◌, ◌∙◌, ℕ, suc, ℤ, ◌+◌, ◌≤◌, Bool, true, ◌&&◌, List, [], ◌∷◌, ◌++◌, length, Option, Some, None, refl, sym, ap, subst, arith}
use Rattle.std.specs.Prelude.{◌||◌, not}
use Rattle.std.proofs.lemmas.Bool.{eq-eqb, ne_eqb}
use Rattle.std.proofs.lemmas.List.Folds.{list_all-append}
use Rattle.dsm_fields.specs.Fields.{Field, is_fit, are_fit, are_kept, is_signed, numbered}
use Rattle.dsm_fields.proofs.Exact.{both_true}
use Rattle.dsm_code.specs.declared.parts.Row.{Row}
use Rattle.dsm_saved.specs.Stops.{decider, stops, under, is_value}
use Rattle.dsm_saved.specs.Spelling.{value_fields}
use Rattle.dsm_saved.proofs.Writing.{last_after, numbered_append}

pub kept_append : (xs ys : List Field) → are_kept xs ≡ true → are_kept ys ≡ true → are_kept (xs ++ ys) ≡ true
kept_append xs ys one two = list_all-append (λ f. f.keeps) xs ys ∙ rw (one, two) refl

pub fit_append : (xs ys : List Field) → are_fit (xs ++ ys) ≡ true → (are_fit xs ≡ true) × (are_fit ys ≡ true)
fit_append xs ys both = both_true (are_fit xs) (are_fit ys) (sym (list_all-append is_fit xs ys) ∙ both)

-- private cells are any values
pub any_values : (count at : ℕ) (last : Option ℤ) (values : List ℤ) → are_kept (numbered (value_fields None count) at last values) ≡ true
any_values count at last [] = refl
any_values count at last (value ∷ values) = any_values count (suc at) (Some value) values

module _ (row : Row) (count : ℕ) where
  -- a value that doesn't decide is kept
  idle_value : (at : ℕ) (last : Option ℤ) (value : ℤ) → (at + decider row.instr ≡ count → ⊥) → is_value (Some row) count at last value ≡ true
  idle_value at last value never = rw (ne_eqb (at + decider row.instr) count never) refl

  -- values before the one that decides
  pub early_values : (at : ℕ) (last : Option ℤ) (values : List ℤ) → at + length values + decider row.instr ≤ count → are_kept (numbered (value_fields (Some row) count) at last values) ≡ true
  early_values at last [] le = refl
  early_values at last (value ∷ values) le =
      let idle = idle_value at last value (λ e. omega (arith, le, e)) in
      let rest = early_values (suc at) (Some value) values (omega (arith, le)) in
      rw (idle, rest) refl

  -- the one that decides, and stops
  stopping_value : (at : ℕ) (last : Option ℤ) (value : ℤ) → at + decider row.instr ≡ count → stops row.instr (under last) value ≡ true → is_value (Some row) count at last value ≡ true
  stopping_value at last value is stop = rw (eq-eqb (at + decider row.instr) count is, stop) refl

  decides : (at : ℕ) (last : Option ℤ) (value : ℤ) → at + decider row.instr ≡ count → is_value (Some row) count at last value ≡ true → stops row.instr (under last) value ≡ true
  decides at last value is fit = subst (λ (b : Bool). (not b || stops row.instr (under last) value) ≡ true) (eq-eqb (at + decider row.instr) count is) fit

  -- the last value decides
  pub last_stops : (xs : List ℤ) (value : ℤ) → decider row.instr ≡ 1 → length xs + 1 ≡ count → stops row.instr (under (last_after None xs)) value ≡ true → are_kept (numbered (value_fields (Some row) count) 0 None (xs ++ value ∷ [])) ≡ true
  last_stops xs value one len stop =
      let fields = value_fields (Some row) count in
      let early = early_values 0 None xs (omega (arith, one, len)) in
      let late = stopping_value (0 + length xs) (last_after None xs) value (omega (arith, one, len)) stop in
      ap are_kept (numbered_append fields 0 None xs (value ∷ [])) ∙ kept_append (numbered fields 0 None xs) (numbered fields (0 + length xs) (last_after None xs) (value ∷ [])) early (rw late refl)

  pub fit_last_stops : (xs : List ℤ) (value : ℤ) → decider row.instr ≡ 1 → length xs + 1 ≡ count → are_fit (numbered (value_fields (Some row) count) 0 None (xs ++ value ∷ [])) ≡ true → stops row.instr (under (last_after None xs)) value ≡ true
  fit_last_stops xs value one len fit =
      let fields = value_fields (Some row) count in
      let parts = fit_append (numbered fields 0 None xs) (numbered fields (0 + length xs) (last_after None xs) (value ∷ [])) (ap are_fit (sym (numbered_append fields 0 None xs (value ∷ []))) ∙ fit) in
      let first = both_true (is_signed value && is_value (Some row) count (0 + length xs) (last_after None xs) value) true parts.1 in
      let both = both_true (is_signed value) (is_value (Some row) count (0 + length xs) (last_after None xs) value) first.0 in
      decides (0 + length xs) (last_after None xs) value (omega (arith, one, len)) both.1

  -- the last but one decides
  pub last_but_one_stops : (xs : List ℤ) (index value : ℤ) → decider row.instr ≡ 2 → length xs + 2 ≡ count → stops row.instr (under (last_after None xs)) index ≡ true
      → are_kept (numbered (value_fields (Some row) count) 0 None (xs ++ index ∷ value ∷ [])) ≡ true
  last_but_one_stops xs index value two len stop =
      let fields = value_fields (Some row) count in
      let early = early_values 0 None xs (omega (arith, two, len)) in
      let late = stopping_value (0 + length xs) (last_after None xs) index (omega (arith, two, len)) stop in
      let idle = idle_value (suc (0 + length xs)) (Some index) value (λ e. omega (arith, two, len, e)) in
      ap are_kept (numbered_append fields 0 None xs (index ∷ value ∷ [])) ∙ kept_append (numbered fields 0 None xs) (numbered fields (0 + length xs) (last_after None xs) (index ∷ value ∷ [])) early (rw (late, idle) refl)

  pub fit_last_but_one_stops : (xs : List ℤ) (index value : ℤ) → decider row.instr ≡ 2 → length xs + 2 ≡ count → are_fit (numbered (value_fields (Some row) count) 0 None (xs ++ index ∷ value ∷ [])) ≡ true
      → stops row.instr (under (last_after None xs)) index ≡ true
  fit_last_but_one_stops xs index value two len fit =
      let fields = value_fields (Some row) count in
      let parts = fit_append (numbered fields 0 None xs) (numbered fields (0 + length xs) (last_after None xs) (index ∷ value ∷ [])) (ap are_fit (sym (numbered_append fields 0 None xs (index ∷ value ∷ []))) ∙ fit) in
      let last = is_fit (record { bytes = []; holds = is_signed value; keeps = is_value (Some row) count (suc (0 + length xs)) (Some index) value }) in
      let first = both_true (is_signed index && is_value (Some row) count (0 + length xs) (last_after None xs) index) (last && true) parts.1 in
      let both = both_true (is_signed index) (is_value (Some row) count (0 + length xs) (last_after None xs) index) first.0 in
      decides (0 + length xs) (last_after None xs) index (omega (arith, two, len)) both.1
