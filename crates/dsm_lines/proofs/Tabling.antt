-- Places, widths and spans of pieces, one piece more at a time.
use Rattle.std.proofs.Common.{◌≡◌, ℕ, zero, suc, ◌+◌, ◌-◌, ◌/◌, ◌%◌, ◌<◌, ◌≤◌, true, false, List, [], ◌∷◌, ◌++◌, length, get_or, take, drop, map, refl, sym, ap, ◌∙◌, arith, append_assoc, append-nil, Option, Some, None}
use Rattle.std.specs.Prelude.{if◌then◌else◌}
use Rattle.std.specs.List.{range_with_len}
use Rattle.std.specs.Option.{option_map}
use Rattle.dsm_base.specs.declared.setup.Object.{Object}
use Rattle.dsm_base.specs.declared.setup.Piece.{Piece}
use Rattle.dsm_base.specs.Access.{has_cell, piece_of}
use Rattle.dsm_lines.specs.declared.place.Place.{Place}
use Rattle.dsm_lines.specs.declared.place.Span.{Span}
use Rattle.std.proofs.lemmas.List.{drop_more}
use Rattle.dsm_lines.specs.Building.{widths_of, piece_widths, noted}
use Rattle.dsm_lines.specs.Places.{line_count, lines, place_from, place_of, spans_from, same_object, one_if, object_of}
use Rattle.std.proofs.lemmas.List.FromFn.{map-range_with_len_more}

-- what a read of pieces has past their end
abbrev pub blank : Piece
blank = record { object = Object.Lock record { 0 = 0 }; first = record { 0 = 0 }; count = 0; owner = 0; phase = 0; period = 0 }

pub lines_more : (pieces : List Piece) (i : ℕ) (piece : Piece) → i < length pieces → lines (take (i + 1) pieces) ≡ lines (take i pieces) + line_count (get_or pieces i piece)
lines_more [] i piece within = absurd (omega arith)
lines_more (first ∷ others) zero piece within = omega arith
lines_more (first ∷ others) (suc i) piece within =
    let count : suc i + 1 ≡ suc (i + 1) = omega arith in
    let more = lines_more others i piece (omega arith) in
    ap (λ n. lines (take n (first ∷ others))) count ∙ omega (arith, more)

-- some of the lines are at most all
pub lines_most : (pieces : List Piece) (i : ℕ) → lines (take i pieces) ≤ lines pieces
lines_most pieces zero = omega arith
lines_most [] (suc i) = omega arith
lines_most (first ∷ others) (suc i) = omega (arith, lines_most others i)

pub widths_more : (pieces : List Piece) (i : ℕ) (piece : Piece) → i < length pieces → widths_of (take (i + 1) pieces) ≡ widths_of (take i pieces) ++ piece_widths (get_or pieces i piece)
widths_more [] i piece within = absurd (omega arith)
widths_more (first ∷ others) zero piece within = append-nil (piece_widths first)
widths_more (first ∷ others) (suc i) piece within =
    let count : suc i + 1 ≡ suc (i + 1) = omega arith in
    ap (λ n. widths_of (take n (first ∷ others))) count
    ∙ ap (λ ws. piece_widths first ++ ws) (widths_more others i piece (omega arith))
    ∙ sym (append_assoc (piece_widths first) (widths_of (take i others)) (piece_widths (get_or others i piece)))

pub spans_more : (start : ℕ) (pieces : List Piece) (object : Object) (i : ℕ) (piece : Piece) → i < length pieces
    → spans_from start (take (i + 1) pieces) object
    ≡ spans_from start (take i pieces) object ++ one_if (same_object (get_or pieces i piece).object object) (record { first = start + lines (take i pieces); count = line_count (get_or pieces i piece) })
spans_more start [] object i piece within = absurd (omega arith)
spans_more start (first ∷ others) object zero piece within =
    let here : start ≡ start + zero = omega arith in
    append-nil _ ∙ ap (λ n. one_if (same_object first.object object) (record { first = n; count = line_count first })) here
spans_more start (first ∷ others) object (suc i) piece within =
    let count : suc i + 1 ≡ suc (i + 1) = omega arith in
    let here : start + line_count first + lines (take i others) ≡ start + (line_count first + lines (take i others)) = omega arith in
    ap (λ n. spans_from start (take n (first ∷ others)) object) count
    ∙ ap (λ ss. one_if (same_object first.object object) (record { first = start; count = line_count first }) ++ ss)
    (spans_more (start + line_count first) others object i piece (omega arith)
    ∙ ap (λ n. spans_from (start + line_count first) (take i others) object ++ one_if (same_object (get_or others i piece).object object) (record { first = n; count = line_count (get_or others i piece) })) here)
    ∙ sym (append_assoc _ (spans_from (start + line_count first) (take i others) object) _)

-- the piece of a cell is that of its place
pub piece_of_place : (start : ℕ) (pieces : List Piece) (cell : ℕ) → piece_of pieces cell ≡ option_map (λ place. place.piece) (place_from start pieces cell)
piece_of_place start [] cell = refl
piece_of_place start (piece ∷ others) cell =
    elim (has_cell cell piece) as
    (λ b. (if b then Some piece else piece_of others cell)
    ≡ option_map (λ (place : Place). place.piece) (if b then Some (record { piece = piece; line = start + (cell - piece.first.0) / 8; at = (cell - piece.first.0) % 8 }) else place_from (start + line_count piece) others cell)) [
      | true ↦ refl
      | false ↦ piece_of_place (start + line_count piece) others cell
    ]

-- one more of a list by index
pub push_more : {A : Type 0} (f : ℕ → A) (n : ℕ) (start before now : List A) (item : A) → before ≡ start ++ map f (range_with_len 0 n) → now ≡ before ++ item ∷ [] → item ≡ f n
    → now ≡ start ++ map f (range_with_len 0 (n + 1))
push_more f n start before now item listed pushed is =
    pushed
    ∙ (λ i. listed i ++ is i ∷ [])
    ∙ append_assoc start (map f (range_with_len 0 n)) (f n ∷ [])
    ∙ ap (λ xs. start ++ xs) (sym (map-range_with_len_more f 0 n n (omega arith)))

pub span_pushed : (pieces : List Piece) (object : Object) (i : ℕ) (piece : Piece) (before now : List Span) (first count : ℕ) → i < length pieces
    → before ≡ spans_from 0 (take i pieces) object → first ≡ lines (take i pieces) → count ≡ line_count (get_or pieces i piece) → same_object (get_or pieces i piece).object object ≡ true
    → now ≡ before ++ record { first = first; count = count } ∷ [] → now ≡ spans_from 0 (take (i + 1) pieces) object
span_pushed pieces object i piece before now first count within listed start many same pushed =
    let here : first ≡ 0 + lines (take i pieces) = omega (arith, start) in
    pushed
    ∙ (λ k. listed k ++ (record { first = here k; count = many k }) ∷ [])
    ∙ ap (λ b. spans_from 0 (take i pieces) object ++ one_if b (record { first = 0 + lines (take i pieces); count = line_count (get_or pieces i piece) })) (sym same)
    ∙ sym (spans_more 0 pieces object i piece within)

pub span_passed : (pieces : List Piece) (object : Object) (i : ℕ) (piece : Piece) (before : List Span) → i < length pieces
    → before ≡ spans_from 0 (take i pieces) object → same_object (get_or pieces i piece).object object ≡ false → before ≡ spans_from 0 (take (i + 1) pieces) object
span_passed pieces object i piece before within listed other =
    listed
    ∙ sym (append-nil _)
    ∙ ap (λ b. spans_from 0 (take i pieces) object ++ one_if b (record { first = 0 + lines (take i pieces); count = line_count (get_or pieces i piece) })) (sym other)
    ∙ sym (spans_more 0 pieces object i piece within)

-- the object of a cell is that of its place
pub object_of_place : (pieces : List Piece) (cell : ℕ) → object_of pieces cell ≡ option_map (λ place. place.piece.object) (place_of pieces cell)
object_of_place pieces cell = ap (option_map (λ (piece : Piece). piece.object)) (piece_of_place 0 pieces cell) ∙ twice (place_of pieces cell)
  where
    twice : (o : Option Place) → option_map (λ (piece : Piece). piece.object) (option_map (λ (place : Place). place.piece) o) ≡ option_map (λ (place : Place). place.piece.object) o
    twice None = refl
    twice (Some place) = refl

-- the lines of the pieces before one
pub lines_less : (pieces : List Piece) (i : ℕ) (piece : Piece) → 0 < i → i ≤ length pieces → lines (take i pieces) ≡ lines (take (i - 1) pieces) + line_count (get_or pieces (i - 1) piece)
lines_less pieces i piece some within =
    let count : i ≡ (i - 1) + 1 = omega arith in
    ap (λ n. lines (take n pieces)) count ∙ lines_more pieces (i - 1) piece (omega arith)

-- one piece more is noted, from the back
pub placed_more : (pieces : List Piece) (at start count : ℕ) (default piece : Piece) (before after : List (Option Place)) → 0 < at → at ≤ length pieces → piece ≡ get_or pieces (at - 1) default
    → count ≡ line_count piece → count ≤ start → ((cell : ℕ) → get_or before cell None ≡ place_from start (drop at pieces) cell)
    → ((cell : ℕ) → get_or after cell None ≡ noted (start - count) piece (get_or before cell None) cell) → (cell : ℕ) → get_or after cell None ≡ place_from (start - count) (drop (at - 1) pieces) cell
placed_more pieces at start count default piece before after some within read many fits placed more cell =
    let next : (at - 1) + 1 ≡ at = omega arith in
    let back : start ≡ (start - count) + line_count piece = omega (arith, many) in
    more cell
    ∙ ap (λ o. noted (start - count) piece o cell) (placed cell ∙ (λ i. place_from (back i) (drop (sym next i) pieces) cell))
    ∙ ap (λ p. place_from (start - count) (p ∷ drop ((at - 1) + 1) pieces) cell) read
    ∙ ap (λ ps. place_from (start - count) ps cell) (sym (drop_more pieces (at - 1) default (omega arith)))
