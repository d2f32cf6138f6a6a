-- The lines of an object are lines of the table.
use Rattle.std.proofs.Common.{◌<◌, ◌≤◌, ℕ, ℤ, ◌+◌, Bool, true, false, if◌then◌else◌, List, [], ◌∷◌, filter, arith}
use Rattle.std.specs.List.{All, range_with_len}
use Rattle.std.proofs.lemmas.List.Elements.{All-map, All-filter, All-append, All-nil}
use Rattle.std.proofs.lemmas.List.FromFn.{get_or-range_with_len, length-range_with_len}
use Rattle.dsm_base.specs.declared.setup.Object.{Object}
use Rattle.dsm_base.specs.declared.setup.Piece.{Piece}
use Rattle.dsm_lines.specs.declared.list.Line.{Line}
use Rattle.dsm_lines.specs.Places.{lines, line_count, same_object, lines_from}
use Rattle.dsm_lines.specs.Copies.{AreNumbered, line_with, lines_where}

pub range_within : (start count end : ℕ) → start + count ≤ end → All (λ line. line < end) (range_with_len start count)
range_within start count end within k d below =
    let inside : k < count = omega (arith, length-range_with_len start count) in
    rw (get_or-range_with_len start count k d inside) (omega arith)

numbers_within : (start end : ℕ) (pieces : List Piece) (object : Object) → start + lines pieces ≤ end → All (λ line. line < end) (lines_from start pieces object)
numbers_within start end [] object within = All-nil (λ (line : ℕ). line < end)
numbers_within start end (piece ∷ others) object within =
    All-append (λ line. line < end) (if same_object piece.object object then range_with_len start (line_count piece) else []) (lines_from (start + line_count piece) others object)
    (elim (same_object piece.object object) as (λ b. All (λ line. line < end) (if b then range_with_len start (line_count piece) else [])) [
      | true ↦ range_within start (line_count piece) end (omega arith)
      | false ↦ All-nil (λ (line : ℕ). line < end)
    ])
    (numbers_within (start + line_count piece) end others object (omega arith))

pub are_numbered : (pieces : List Piece) (test : ℕ → Bool) (memory : ℕ → ℤ) (object : Object) → AreNumbered pieces (lines_where pieces test memory object)
are_numbered pieces test memory object =
    All-map (λ (line : Line). line.number < lines pieces) (line_with pieces memory) (filter test (lines_from 0 pieces object))
    (All-filter test (λ line. line < lines pieces) (lines_from 0 pieces object) (numbers_within 0 (lines pieces) pieces object (omega arith)))
