-- The first cell that is bound already, found piece by piece.
use Rattle.std.proofs.Common.{◌≡◌, ℕ, zero, suc, ◌+◌, ◌≤◌, ◌<◌, min, max, Bool, true, false, ◌||◌, ◌&&◌, ltb, leb, List, [], ◌∷◌, ◌++◌, Option, Some, None, IfSome, is_some, refl, sym, ap, ◌∙◌, cond, if◌then◌else◌, arith}
use Rattle.std.proofs.lemmas.Bool.{lt-ltb, le-ltb, ltb-true, ltb-false, leb-true, leb-false}
use Rattle.dsm_base.specs.declared.setup.Piece.{Piece}
use Rattle.dsm_base.specs.Access.{has_cell, piece_of}
use Rattle.dsm_check.specs.Bindings.{first_bound}
use Rattle.dsm_check.specs.Overlaps.{overlap, earlier}

of_one : (here : Bool) (piece : Piece) → is_some (cond here (Some piece) None) ≡ here
of_one true piece = refl
of_one false piece = refl

overlap-here : (piece : Piece) (cell end : ℕ) → piece.first.0 ≤ cell → cell < piece.first.0 + piece.count → cell < end → overlap piece cell end ≡ Some cell
overlap-here piece cell end low high before =
    let same : max cell piece.first.0 ≡ cell = omega arith in
    let last = min end (piece.first.0 + piece.count) in
    ap (λ start. if ltb start last then Some start else None) same
    ∙ ap (λ test. if test then Some cell else None) (lt-ltb cell last (omega arith))

overlap-none : (piece : Piece) (cell end : ℕ) → min end (piece.first.0 + piece.count) ≤ max cell piece.first.0 → overlap piece cell end ≡ None
overlap-none piece cell end h =
    ap (λ test. if test then Some (max cell piece.first.0) else None) (le-ltb (max cell piece.first.0) (min end (piece.first.0 + piece.count)) h)

overlap-later : (piece : Piece) (cell end : ℕ) → cell < piece.first.0 → overlap piece (cell + 1) end ≡ overlap piece cell end
overlap-later piece cell end h =
    let same : max (cell + 1) piece.first.0 ≡ max cell piece.first.0 = omega arith in
    ap (λ start. if ltb start (min end (piece.first.0 + piece.count)) then Some start else None) same

-- of one piece
pub first_bound-one : (piece : Piece) (cell count : ℕ) → first_bound (piece ∷ []) cell count ≡ overlap piece cell (cell + count)
first_bound-one piece cell zero = sym (overlap-none piece cell (cell + 0) (omega arith))
first_bound-one piece cell (suc count) =
    ap (λ here. if here then Some cell else first_bound (piece ∷ []) (cell + 1) count) (of_one (has_cell cell piece) piece)
    ∙ by (leb piece.first.0 cell) (ltb cell (piece.first.0 + piece.count)) refl refl (first_bound-one piece (cell + 1) count)
  where
    shifted : cell + 1 + count ≡ cell + suc count
    shifted = omega arith

    by : (low high : Bool) → leb piece.first.0 cell ≡ low → ltb cell (piece.first.0 + piece.count) ≡ high
        → first_bound (piece ∷ []) (cell + 1) count ≡ overlap piece (cell + 1) (cell + 1 + count)
        → (if low && high then Some cell else first_bound (piece ∷ []) (cell + 1) count) ≡ overlap piece cell (cell + suc count)
    by true true l h later = sym (overlap-here piece cell (cell + suc count) (leb-true _ _ l) (ltb-true _ _ h) (omega arith))
    by true false l h later =
        let over : piece.first.0 + piece.count ≤ cell = ltb-false _ _ h in
        later ∙ overlap-none piece (cell + 1) (cell + 1 + count) (omega arith) ∙ sym (overlap-none piece cell (cell + suc count) (omega arith))
    by false high l h later =
        later ∙ ap (overlap piece (cell + 1)) shifted ∙ overlap-later piece cell (cell + suc count) (leb-false _ _ l)

above : (pieces : List Piece) (cell count : ℕ) → IfSome (first_bound pieces cell count) (λ found. cell ≤ found)
above pieces cell zero = tt
above pieces cell (suc count) = by (is_some (piece_of pieces cell)) (first_bound pieces (cell + 1) count) (above pieces (cell + 1) count)
  where
    by : (here : Bool) (later : Option ℕ) → IfSome later (λ found. cell + 1 ≤ found) → IfSome (if here then Some cell else later) (λ found. cell ≤ found)
    by true later h = omega arith
    by false None h = tt
    by false (Some found) h = omega (arith, h)

pub piece_of-more : (pieces : List Piece) (piece : Piece) (cell : ℕ)
    → is_some (piece_of (pieces ++ piece ∷ []) cell) ≡ (is_some (piece_of pieces cell) || is_some (piece_of (piece ∷ []) cell))
piece_of-more [] piece cell = refl
piece_of-more (first ∷ pieces) piece cell = by (has_cell cell first) (piece_of-more pieces piece cell)
  where
    by : (here : Bool) → is_some (piece_of (pieces ++ piece ∷ []) cell) ≡ (is_some (piece_of pieces cell) || is_some (piece_of (piece ∷ []) cell))
        → is_some (cond here (Some first) (piece_of (pieces ++ piece ∷ []) cell)) ≡ (is_some (cond here (Some first) (piece_of pieces cell)) || is_some (piece_of (piece ∷ []) cell))
    by true h = refl
    by false h = h

-- and of one piece more
pub first_bound-more : (pieces : List Piece) (piece : Piece) (cell count : ℕ)
    → first_bound (pieces ++ piece ∷ []) cell count ≡ earlier (first_bound pieces cell count) (first_bound (piece ∷ []) cell count)
first_bound-more pieces piece cell zero = refl
first_bound-more pieces piece cell (suc count) =
    ap (λ here. if here then Some cell else first_bound (pieces ++ piece ∷ []) (cell + 1) count) (piece_of-more pieces piece cell)
    ∙ by (is_some (piece_of pieces cell)) (is_some (piece_of (piece ∷ []) cell)) _ _ _ (first_bound-more pieces piece (cell + 1) count) (above pieces (cell + 1) count) (above (piece ∷ []) (cell + 1) count)
  where
    by : (a b : Bool) (all left right : Option ℕ) → all ≡ earlier left right
        → IfSome left (λ found. cell + 1 ≤ found) → IfSome right (λ found. cell + 1 ≤ found)
        → (if a || b then Some cell else all) ≡ earlier (if a then Some cell else left) (if b then Some cell else right)
    by true true all left right h x y = ap (λ n. Some n) (omega arith)
    by true false all left None h x y = refl
    by true false all left (Some found) h x y = ap (λ n. Some n) (omega (arith, y))
    by false true all None right h x y = refl
    by false true all (Some found) right h x y = ap (λ n. Some n) (omega (arith, x))
    by false false all left right h x y = h

pub first_bound-none : (cell count : ℕ) → first_bound [] cell count ≡ None
first_bound-none cell zero = refl
first_bound-none cell (suc count) = first_bound-none (cell + 1) count
