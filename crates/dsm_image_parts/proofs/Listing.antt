-- What passes a test among numbered keys, one more at a time; the lines of spans.
use Rattle.std.proofs.Common.{◌≡◌, ◌∙◌, ℕ, zero, suc, ◌+◌, ◌<◌, ◌≤◌, Bool, true, false, List, [], ◌∷◌, ◌++◌, length, get_or, take, map, filter, cond, refl, sym, ap, arith, append-nil, append_assoc, ◌-◌}
use Rattle.std.specs.List.{range_with_len, All}
use Rattle.std.specs.Prelude.{if◌then◌else◌}
use Rattle.std.proofs.lemmas.List.Elements.{All-nil, All-cons}
use Rattle.std.proofs.lemmas.List.FromFn.{filter_of_map_range_with_len_more}
use Rattle.dsm_base.specs.declared.setup.Object.{Object}
use Rattle.dsm_base.specs.declared.setup.Piece.{Piece}
use Rattle.dsm_lines.proofs.Ranges.{range_split}
use Rattle.dsm_lines.specs.Places.{lines, line_count, spans_from, same_object}
use Rattle.dsm_lines.specs.declared.place.Span.{Span}

-- ---- keys by their numbers

pub one_passes : {K : Type 0} (passes : K → Bool) (key_of : ℕ → K) (n : ℕ) (before : List K) → before ≡ filter passes (map key_of (range_with_len 0 n)) → passes (key_of n) ≡ true
    → before ++ key_of n ∷ [] ≡ filter passes (map key_of (range_with_len 0 (n + 1)))
one_passes {K} passes key_of n before listed test =
    ap (λ (w : List K). w ++ key_of n ∷ []) listed
    ∙ sym (filter_of_map_range_with_len_more passes key_of 0 n n (omega arith) ∙ ap (λ (b : Bool). filter passes (map key_of (range_with_len 0 n)) ++ cond b (key_of n ∷ []) []) test)

pub one_fails : {K : Type 0} (passes : K → Bool) (key_of : ℕ → K) (n : ℕ) (before : List K) → before ≡ filter passes (map key_of (range_with_len 0 n)) → passes (key_of n) ≡ false
    → before ≡ filter passes (map key_of (range_with_len 0 (n + 1)))
one_fails {K} passes key_of n before listed test =
    listed
    ∙ sym (filter_of_map_range_with_len_more passes key_of 0 n n (omega arith) ∙ ap (λ (b : Bool). filter passes (map key_of (range_with_len 0 n)) ++ cond b (key_of n ∷ []) []) test ∙ append-nil _)

-- ---- spans

-- it ends with so many lines at the latest
abbrev pub EndsBy : ℕ → Span → Type 0
EndsBy count span = span.first + span.count ≤ count

-- the spans of an object are lines of its table
pub spans_within : (start end : ℕ) (pieces : List Piece) (object : Object) → start + lines pieces ≤ end → All (EndsBy end) (spans_from start pieces object)
spans_within start end [] object le = All-nil (EndsBy end)
spans_within start end (piece ∷ others) object le =
    let more = spans_within (start + line_count piece) end others object (omega (arith, le)) in
    elim (same_object piece.object object) as
    (λ b. All (EndsBy end) ((if b then (record { first = start; count = line_count piece }) ∷ [] else []) ++ spans_from (start + line_count piece) others object)) [
      | true ↦ All-cons (EndsBy end) (record { first = start; count = line_count piece }) (spans_from (start + line_count piece) others object) (omega (arith, le)) more
      | false ↦ more
    ]

-- one line more behind those listed
pub one_line_more : (first line : ℕ) (old before : List ℕ) → first ≤ line → before ≡ old ++ range_with_len first (line - first) → before ++ line ∷ [] ≡ old ++ range_with_len first (line + 1 - first)
one_line_more first line old before le listed =
    let count : line + 1 - first ≡ (line - first) + 1 = omega arith in
    let place : first + (line - first) ≡ line = omega arith in
    let more : range_with_len first (line + 1 - first) ≡ range_with_len first (line - first) ++ line ∷ [] =
    ap (range_with_len first) count ∙ range_split first (line - first) 1 ∙ ap (λ (n : ℕ). range_with_len first (line - first) ++ n ∷ []) place in
    ap (λ (w : List ℕ). w ++ line ∷ []) listed ∙ append_assoc old (range_with_len first (line - first)) (line ∷ []) ∙ ap (λ (w : List ℕ). old ++ w) (sym more)
