-- Cells and their places: the cells of a line have the places in it, in order, and no others have.
use Rattle.std.proofs.Common.{◌≡◌, ℕ, zero, suc, ◌+◌, ◌-◌, ◌*◌, ◌/◌, ◌%◌, ◌<◌, ◌≤◌, Bool, true, false, List, [], ◌∷◌, length, get_or, refl, sym, ap, ◌∙◌, arith, subst, inl, inr, Option, Some, None, ◌⊎◌}
use Rattle.std.specs.Prelude.{is_some, ◌&&◌, nat_lt, nat_le, min}
use Rattle.std.specs.List.{range_with_len, list_all}
use Rattle.std.specs.Option.{option_map}
use Rattle.std.proofs.lemmas.Bool.{true≢false}
use Rattle.std.proofs.lemmas.Bool.Decides.{leb_tells, nat_tests}
use Rattle.std.proofs.lemmas.Grind.{common_steps}
use Rattle.std.proofs.lemmas.List.FromFn.{get_or-range_with_len, length-range_with_len}
use Rattle.dsm_base.specs.declared.setup.Piece.{Piece}
use Rattle.dsm_base.specs.Access.{has_cell, piece_of}
use Rattle.dsm_base.specs.Setups.{is_apart, are_apart}
use Rattle.dsm_lines.specs.declared.place.Place.{Place}
use Rattle.dsm_lines.specs.Places.{line_count, lines, place_from, place_of, cells_in}
use Rattle.dsm_lines.proofs.Pieces.{both_first, both_second, in_no_other}
use Rattle.dsm_lines.proofs.Tabling.{piece_of_place}

is_or_not : (b : Bool) → (b ≡ true) ⊎ (b ≡ false)
is_or_not true = inl refl
is_or_not false = inr refl

-- what a test for less tells
pub is_below : (a b : ℕ) → a < b → nat_lt a b ≡ true
is_below a b h = grind (arith, nat_tests)

pub is_above : (a b : ℕ) → b ≤ a → nat_lt a b ≡ false
is_above a b h = grind (arith, nat_tests)

-- the cells of a line of the first piece, and of others
own_cells : (piece : Piece) (others : List Piece) (line : ℕ) → nat_lt line (line_count piece) ≡ true
    → cells_in (piece ∷ others) line ≡ range_with_len (piece.first.0 + 8 * line) (min 8 (piece.count - 8 * line))
own_cells piece others line below = rw below refl

other_cells : (piece : Piece) (others : List Piece) (line : ℕ) → nat_lt line (line_count piece) ≡ false → cells_in (piece ∷ others) line ≡ cells_in others (line - line_count piece)
other_cells piece others line above = rw above refl

-- a line with cells is one of the lines, and has at most eight
pub record IsLine (pieces : List Piece) (line at : ℕ) : Type 0 where
  pub line_within : line < lines pieces
  pub place_within : at < 8

pub is_line : (pieces : List Piece) (line at : ℕ) → at < length (cells_in pieces line) → IsLine pieces line at
is_line [] line at within = absurd (omega arith)
is_line (piece ∷ others) line at within =
    elim (leb_tells (suc line) (line_count piece)) [
      | inl (yes', below) ↦
          let few : at < min 8 (piece.count - 8 * line) =
          omega (arith, within, ap length (own_cells piece others line yes'), length-range_with_len (piece.first.0 + 8 * line) (min 8 (piece.count - 8 * line))) in
          record { line_within = omega arith; place_within = omega arith }
      | inr (no', above) ↦
          let rest = is_line others (line - line_count piece) at (omega (arith, within, ap length (other_cells piece others line no'))) in
          record { line_within = omega (arith, rest.line_within); place_within = rest.place_within }
    ]

pub width_most : (pieces : List Piece) (line : ℕ) → length (cells_in pieces line) ≤ 8
width_most pieces line = most (length (cells_in pieces line)) (λ at within. (is_line pieces line at within).place_within)
  where
    most : (n : ℕ) → ((at : ℕ) → at < n → at < 8) → n ≤ 8
    most zero small = omega arith
    most (suc n) small = small n (omega arith)

-- the place of a cell of a line
record HasPlace (start : ℕ) (pieces : List Piece) (line at cell : ℕ) : Type 0 where
  piece : Piece
  is : place_from start pieces cell ≡ Some (record { piece = piece; line = start + line; at = at })

at_piece : (start : ℕ) (piece : Piece) (others : List Piece) (line at : ℕ) → at < min 8 (piece.count - 8 * line)
    → place_from start (piece ∷ others) (piece.first.0 + 8 * line + at) ≡ Some (record { piece = piece; line = start + line; at = at })
at_piece start piece others line at few =
    let quotient : (piece.first.0 + 8 * line + at - piece.first.0) / 8 ≡ line = omega arith in
    let remainder : (piece.first.0 + 8 * line + at - piece.first.0) % 8 ≡ at = omega arith in
    rw (has piece.first.0 piece.count few) (λ i. Some (record { piece = piece; line = start + quotient i; at = remainder i }))
  where
    has : (first count : ℕ) → at < min 8 (count - 8 * line) → (nat_le first (first + 8 * line + at) && nat_lt (first + 8 * line + at) (first + count)) ≡ true
    has first count few = grind (arith, nat_tests, common_steps)

place_of_cell : (start : ℕ) (pieces : List Piece) (line at : ℕ) → are_apart pieces ≡ true → at < length (cells_in pieces line)
    → HasPlace start pieces line at (get_or (cells_in pieces line) at 0)
place_of_cell start [] line at apart within = absurd (omega arith)
place_of_cell start (piece ∷ others) line at apart within =
    elim (leb_tells (suc line) (line_count piece)) [
      | inl (yes', below) ↦
          let few : at < min 8 (piece.count - 8 * line) =
          omega (arith, within, ap length (own_cells piece others line yes'), length-range_with_len (piece.first.0 + 8 * line) (min 8 (piece.count - 8 * line))) in
          let cell : get_or (cells_in (piece ∷ others) line) at 0 ≡ piece.first.0 + 8 * line + at =
          ap (λ cs. get_or cs at 0) (own_cells piece others line yes')
          ∙ get_or-range_with_len (piece.first.0 + 8 * line) (min 8 (piece.count - 8 * line)) at 0 few in
          record { piece = piece; is = ap (place_from start (piece ∷ others)) cell ∙ at_piece start piece others line at few }
      | inr (no', above) ↦
          let rest = place_of_cell (start + line_count piece) others (line - line_count piece) at (both_second (list_all (is_apart piece) others) _ apart)
          (omega (arith, within, ap length (other_cells piece others line no'))) in
          let there : start + line_count piece + (line - line_count piece) ≡ start + line = omega arith in
          record {
            piece = rest.piece;
            is =
                ap (λ cs. place_from start (piece ∷ others) (get_or cs at 0)) (other_cells piece others line no')
                ∙ rw (not_own (get_or (cells_in others (line - line_count piece)) at 0) rest.piece _ rest.is refl)
                (rest.is ∙ (λ i. Some (record { piece = rest.piece; line = there i; at = at })));
          }
    ]
  where
    not_own : (cell : ℕ) (other : Piece) (place : Place) → place_from (start + line_count piece) others cell ≡ Some place → place.piece ≡ other → has_cell cell piece ≡ false
    not_own cell other place is same =
        elim (is_or_not (has_cell cell piece)) [
          | inl has ↦
              let none : piece_of others cell ≡ None = in_no_other piece others cell (both_first _ (are_apart others) apart) has in
              let some : piece_of others cell ≡ Some place.piece =
              piece_of_place (start + line_count piece) others cell
              ∙ ap (option_map (λ (place : Place). place.piece)) is in
              absurd (cc)
          | inr has_not ↦ has_not
        ]

-- a cell is the one at its place
pub record IsAt (pieces : List Piece) (line at cell : ℕ) : Type 0 where
  pub within : at < length (cells_in pieces line)
  pub is : get_or (cells_in pieces line) at 0 ≡ cell

record StandsAt (start : ℕ) (pieces : List Piece) (cell : ℕ) (place : Place) : Type 0 where
  behind : start ≤ place.line
  at : IsAt pieces (place.line - start) place.at cell

own_place : (start : ℕ) (piece : Piece) (others : List Piece) (cell : ℕ) → has_cell cell piece ≡ true
    → StandsAt start (piece ∷ others) cell (record { piece = piece; line = start + (cell - piece.first.0) / 8; at = (cell - piece.first.0) % 8 })
own_place start piece others cell has =
    let back : (cell - piece.first.0) / 8 ≡ start + (cell - piece.first.0) / 8 - start = omega arith in
    record {
      behind = omega arith;
      at = subst (λ (line : ℕ). IsAt (piece ∷ others) line ((cell - piece.first.0) % 8) cell) back
          (here (bounds piece.first.0 piece.count has));
    }
  where
    bounds : (first count : ℕ) → (nat_le first cell && nat_lt cell (first + count)) ≡ true → (first ≤ cell) × (cell < first + count)
    bounds first count h = grind (arith, nat_tests, common_steps)

    here : (piece.first.0 ≤ cell) × (cell < piece.first.0 + piece.count) → IsAt (piece ∷ others) ((cell - piece.first.0) / 8) ((cell - piece.first.0) % 8) cell
    here fits =
        let above : piece.first.0 ≤ cell = fits.0 in
        let below : cell < piece.first.0 + piece.count = fits.1 in
        let few : (cell - piece.first.0) % 8 < min 8 (piece.count - 8 * ((cell - piece.first.0) / 8)) = omega arith in
        let one_of : nat_lt ((cell - piece.first.0) / 8) (line_count piece) ≡ true = is_below ((cell - piece.first.0) / 8) (line_count piece) (omega arith) in
        let whole : piece.first.0 + 8 * ((cell - piece.first.0) / 8) + (cell - piece.first.0) % 8 ≡ cell = omega arith in
        record {
          within = omega (arith, ap length (own_cells piece others ((cell - piece.first.0) / 8) one_of), length-range_with_len (piece.first.0 + 8 * ((cell - piece.first.0) / 8)) (min 8 (piece.count - 8 * ((cell - piece.first.0) / 8))));
          is =
              ap (λ cs. get_or cs ((cell - piece.first.0) % 8) 0) (own_cells piece others ((cell - piece.first.0) / 8) one_of)
              ∙ get_or-range_with_len (piece.first.0 + 8 * ((cell - piece.first.0) / 8)) (min 8 (piece.count - 8 * ((cell - piece.first.0) / 8))) ((cell - piece.first.0) % 8) 0 few
              ∙ whole;
        }

stands_at : (start : ℕ) (pieces : List Piece) (cell : ℕ) (place : Place) → place_from start pieces cell ≡ Some place → StandsAt start pieces cell place
stands_at start [] cell place is = absurd (cc)
stands_at start (piece ∷ others) cell place is =
    elim (is_or_not (has_cell cell piece)) [
      | inl has ↦
          let found : Some (record { piece = piece; line = start + (cell - piece.first.0) / 8; at = (cell - piece.first.0) % 8 }) ≡ Some place = rw has at is in
          subst (λ (p : Place). StandsAt start (piece ∷ others) cell p) (same _ _ found) (own_place start piece others cell has)
      | inr has_not ↦
          let rest = stands_at (start + line_count piece) others cell place (rw has_not at is) in
          let behind : start + line_count piece ≤ place.line = rest.behind in
          let above : nat_lt (place.line - start) (line_count piece) ≡ false = is_above (place.line - start) (line_count piece) (omega arith) in
          let there : place.line - start - line_count piece ≡ place.line - (start + line_count piece) = omega arith in
          let cells : cells_in (piece ∷ others) (place.line - start) ≡ cells_in others (place.line - (start + line_count piece)) =
          other_cells piece others (place.line - start) above
          ∙ ap (cells_in others) there in
          record {
            behind = omega arith;
            at = record {
              within = omega (arith, rest.at.within, ap length cells);
              is = ap (λ cs. get_or cs place.at 0) cells ∙ rest.at.is;
            };
          }
    ]
  where
    same : (p q : Place) → Some p ≡ Some q → p ≡ q
    same p q e = cc

-- the place of a cell of a line is that in the line
pub record IsPlaced (pieces : List Piece) (line at : ℕ) : Type 0 where
  pub piece : Piece
  pub is : place_of pieces (get_or (cells_in pieces line) at 0) ≡ Some (record { piece = piece; line = line; at = at })

pub placed : (pieces : List Piece) (line at : ℕ) → are_apart pieces ≡ true → at < length (cells_in pieces line) → IsPlaced pieces line at
placed pieces line at apart within =
    let place = place_of_cell 0 pieces line at apart within in
    let there : 0 + line ≡ line = omega arith in
    record { piece = place.piece; is = place.is ∙ (λ i. Some (record { piece = place.piece; line = there i; at = at })) }

-- a cell with a place is the cell there
pub stands : (pieces : List Piece) (cell : ℕ) (place : Place) → place_of pieces cell ≡ Some place → IsAt pieces place.line place.at cell
stands pieces cell place is =
    let there : place.line - 0 ≡ place.line = omega arith in
    subst (λ (line : ℕ). IsAt pieces line place.at cell) there (stands_at 0 pieces cell place is).at

-- a bound cell has a place
pub has_place : (pieces : List Piece) (cell : ℕ) → is_some (piece_of pieces cell) ≡ true → ((place : Place) → place_of pieces cell ≡ Some place → ⊥) → ⊥
has_place pieces cell bound none = at (place_of pieces cell) refl
  where
    at : (place : Option Place) → place_of pieces cell ≡ place → ⊥
    at None is =
        let unbound : is_some (piece_of pieces cell) ≡ false = ap is_some (piece_of_place 0 pieces cell ∙ ap (option_map (λ (place : Place). place.piece)) is) in
        true≢false (sym bound ∙ unbound)
    at (Some place) is = none place is
