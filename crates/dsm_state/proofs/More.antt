-- What one number more adds to a text of numbers.
use Rattle.std.proofs.Common.{◌≡◌, ℕ, ℤ, ◌+◌, true, false, List, [], ◌∷◌, ◌++◌, append-nil, sym, ap, ◌∙◌, arith}
use Rattle.std.specs.List.{range_with_len, flat_map}
use Rattle.std.proofs.lemmas.Grind.{flat_map-append}
use Rattle.dsm_base.specs.declared.setup.Piece.{Piece}
use Rattle.dsm_lines.proofs.Ranges.{range_split, one_more_passes, one_more_fails}
use Rattle.dsm_state.specs.States.{is_of_lock, cells_of, cell_text}

one_item : {A B : Type 0} (f : A → List B) (items : List A) (item : A) → flat_map f (items ++ item ∷ []) ≡ flat_map f items ++ f item
one_item f items item = flat_map-append f items (item ∷ []) ∙ ap (λ bs. flat_map f items ++ bs) (append-nil (f item))

-- the next number
pub next_number : {B : Type 0} (f : ℕ → List B) (n : ℕ) → flat_map f (range_with_len 0 (n + 1)) ≡ flat_map f (range_with_len 0 n) ++ f n
next_number f n =
    let start : 0 + n ≡ n = omega arith in
    ap (flat_map f) (range_split 0 n 1 ∙ ap (λ k. range_with_len 0 n ++ k ∷ []) start) ∙ one_item f (range_with_len 0 n) n

-- the next cell, where it is bound to the lock, and where it isn't
pub next_cell : (values : ℕ → ℤ) (pieces : List Piece) (lock n : ℕ) → is_of_lock pieces lock n ≡ true
    → flat_map (cell_text values) (cells_of pieces (n + 1) lock) ≡ flat_map (cell_text values) (cells_of pieces n lock) ++ cell_text values n
next_cell values pieces lock n passes =
    ap (flat_map (cell_text values)) (one_more_passes (is_of_lock pieces lock) 0 n (n + 1) n (omega arith) (omega arith) passes)
    ∙ one_item (cell_text values) (cells_of pieces n lock) n

pub other_cell : (values : ℕ → ℤ) (pieces : List Piece) (lock n : ℕ) → is_of_lock pieces lock n ≡ false
    → flat_map (cell_text values) (cells_of pieces (n + 1) lock) ≡ flat_map (cell_text values) (cells_of pieces n lock)
other_cell values pieces lock n fails =
    ap (flat_map (cell_text values)) (one_more_fails (is_of_lock pieces lock) 0 n (n + 1) n (omega arith) (omega arith) fails)
