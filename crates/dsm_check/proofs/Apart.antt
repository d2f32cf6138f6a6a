-- Pieces of which no cell is in two.
use Rattle.std.proofs.Common.{◌≡◌, ℕ, zero, suc, ◌+◌, ◌*◌, ◌≤◌, ◌<◌, min, max, Bool, true, false, ◌||◌, ◌&&◌, ltb, List, [], ◌∷◌, ◌++◌, Some, None, is_some, refl, sym, ap, subst, ◌∙◌, append_assoc, true≢false, cond, if◌then◌else◌, arith}
use Rattle.std.specs.List.{list_all}
use Rattle.std.proofs.lemmas.List.{append-nil}
use Rattle.std.proofs.lemmas.Bool.{lt-ltb, le-leb, ltb-true, ltb-false, leb-false}
use Rattle.std.proofs.lemmas.Bool.Decides.{nat_tests}
use Rattle.std.proofs.Math.Nat.{suc-mul}
use Rattle.dsm_base.specs.declared.setup.Piece.{Piece}
use Rattle.dsm_base.specs.Access.{has_cell, piece_of}
use Rattle.dsm_base.specs.Setups.{end_of, is_piece, is_apart, are_apart}
use Rattle.dsm_check.specs.Bindings.{first_bound, lock_piece, lock_pieces}
use Rattle.dsm_check.proofs.Bounds.{piece_of-more}

-- what a setup keeps of its pieces
pub record ArePieces (locks bars cells : ℕ) (pieces : List Piece) : Type 0 where
  pub each : list_all (is_piece locks bars cells) pieces ≡ true
  pub apart : are_apart pieces ≡ true

-- no piece has a cell of a range
abbrev pub IsFree : List Piece → ℕ → ℕ → Type 0
IsFree pieces first count = (cell : ℕ) → first ≤ cell → cell < first + count → is_some (piece_of pieces cell) ≡ false

pub free : (pieces : List Piece) (first count : ℕ) → first_bound pieces first count ≡ None → IsFree pieces first count
free pieces first zero h cell low high = absurd (omega (arith, low, high))
free pieces first (suc count) h cell low high = by (is_some (piece_of pieces first)) refl h (λ none. free pieces (first + 1) count none) (ltb first cell) refl
  where
    by : (here : Bool) → is_some (piece_of pieces first) ≡ here → (if here then Some first else first_bound pieces (first + 1) count) ≡ None
        → (first_bound pieces (first + 1) count ≡ None → IsFree pieces (first + 1) count)
        → (later : Bool) → ltb first cell ≡ later → is_some (piece_of pieces cell) ≡ false
    by true e none rest later l = absurd (true≢false (ap is_some none))
    by false e none rest true l = rest none cell (omega (arith, ltb-true first cell l)) (omega arith)
    by false e none rest false l =
        let same : first ≡ cell = omega (arith, ltb-false first cell l) in
        ap (λ n. is_some (piece_of pieces n)) (sym same) ∙ e

-- without its first piece
tail_free : (first : Piece) (pieces : List Piece) (from count : ℕ) → IsFree (first ∷ pieces) from count → IsFree pieces from count
tail_free first pieces from count free cell low high = by (has_cell cell first) (free cell low high)
  where
    by : (here : Bool) → is_some (cond here (Some first) (piece_of pieces cell)) ≡ false → is_some (piece_of pieces cell) ≡ false
    by true gone = absurd (true≢false gone)
    by false gone = gone

head_free : (first : Piece) (pieces : List Piece) (from count : ℕ) → IsFree (first ∷ pieces) from count
    → (cell : ℕ) → from ≤ cell → cell < from + count → has_cell cell first ≡ true → ⊥
head_free first pieces from count free cell low high here =
    true≢false (sym (ap (λ h. is_some (cond h (Some first) (piece_of pieces cell))) here) ∙ free cell low high)

in_range : (piece : Piece) (cell : ℕ) → has_cell cell piece ≡ true → (piece.first.0 ≤ cell) × (cell < piece.first.0 + piece.count)
in_range piece cell h = (grind (arith, nat_tests), grind (arith, nat_tests))

here : (piece : Piece) (cell : ℕ) → piece.first.0 ≤ cell → cell < piece.first.0 + piece.count → has_cell cell piece ≡ true
here piece cell low high = ap (λ test. test && ltb cell (piece.first.0 + piece.count)) (le-leb piece.first.0 cell low) ∙ lt-ltb cell (piece.first.0 + piece.count) high

apart_of : (other piece : Piece) → ((cell : ℕ) → piece.first.0 ≤ cell → cell < piece.first.0 + piece.count → has_cell cell other ≡ true → ⊥) → is_apart other piece ≡ true
apart_of other piece h = by (is_apart other piece) refl
  where
    by : (test : Bool) → is_apart other piece ≡ test → test ≡ true
    by true e = refl
    by false e =
        let both = leb-false (min (end_of other) (end_of piece)) (max other.first.0 piece.first.0) e in
        let cell = max other.first.0 piece.first.0 in
        absurd (h cell (omega arith) (omega arith) (here other cell (omega arith) (omega arith)))

apart_from : (pieces : List Piece) (piece : Piece) → IsFree pieces piece.first.0 piece.count → list_all (λ other. is_apart other piece) pieces ≡ true
apart_from [] piece free = refl
apart_from (first ∷ pieces) piece free =
    ap (λ test. test && list_all (λ other. is_apart other piece) pieces) (apart_of first piece (head_free first pieces piece.first.0 piece.count free))
    ∙ apart_from pieces piece (tail_free first pieces piece.first.0 piece.count free)

both_true : (a b : Bool) → (a && b) ≡ true → (a ≡ true) × (b ≡ true)
both_true true b h = (refl, h)
both_true false b h = absurd (true≢false (sym h))

pub both : (a b : Bool) → a ≡ true → b ≡ true → (a && b) ≡ true
both a b x y = ap (λ test. test && b) x ∙ y

all_more : {A : Type 0} (test : A → Bool) (all : List A) (a : A) → list_all test all ≡ true → test a ≡ true → list_all test (all ++ a ∷ []) ≡ true
all_more test [] a h x = both (test a) true x refl
all_more test (first ∷ all) a h x =
    let parts = both_true (test first) (list_all test all) h in
    both (test first) (list_all test (all ++ a ∷ [])) parts.0 (all_more test all a parts.1 x)

apart_more : (pieces : List Piece) (piece : Piece) → are_apart pieces ≡ true → list_all (λ other. is_apart other piece) pieces ≡ true → are_apart (pieces ++ piece ∷ []) ≡ true
apart_more [] piece h x = refl
apart_more (first ∷ pieces) piece h x =
    let parts = both_true (list_all (is_apart first) pieces) (are_apart pieces) h in
    let tests = both_true (is_apart first piece) (list_all (λ other. is_apart other piece) pieces) x in
    both (list_all (is_apart first) (pieces ++ piece ∷ [])) (are_apart (pieces ++ piece ∷ [])) (all_more (is_apart first) pieces piece parts.0 tests.0) (apart_more pieces piece parts.1 tests.1)

pub one : (locks bars cells : ℕ) (pieces : List Piece) (piece : Piece) → ArePieces locks bars cells pieces
    → is_piece locks bars cells piece ≡ true → IsFree pieces piece.first.0 piece.count
    → ArePieces locks bars cells (pieces ++ piece ∷ [])
one locks bars cells pieces piece before is free = record {
  each = all_more (is_piece locks bars cells) pieces piece before.each is;
  apart = apart_more pieces piece before.apart (apart_from pieces piece free);
}

pub lock_piece_is : (locks bars cells lock cell count : ℕ) → lock < locks → cell + count ≤ cells → is_piece locks bars cells (lock_piece lock cell count) ≡ true
lock_piece_is locks bars cells lock cell count few within = grind (arith, nat_tests)

outside : (piece : Piece) (cell : ℕ) → piece.first.0 + piece.count ≤ cell → is_some (piece_of (piece ∷ []) cell) ≡ false
outside piece cell h = by (has_cell cell piece) refl
  where
    by : (here : Bool) → has_cell cell piece ≡ here → is_some (cond here (Some piece) None) ≡ false
    by true e = absurd (omega (arith, (in_range piece cell e).1))
    by false e = refl

-- pieces of one length, one after the other
pub row : (locks bars cells lock cell count : ℕ) (n : ℕ) (pieces : List Piece) → ArePieces locks bars cells pieces
    → lock + n ≤ locks → cell + n * count ≤ cells → IsFree pieces cell (n * count)
    → ArePieces locks bars cells (pieces ++ lock_pieces lock cell count n)
row locks bars cells lock cell count zero pieces before few within free = subst (ArePieces locks bars cells) (sym (append-nil pieces)) before
row locks bars cells lock cell count (suc n) pieces before few within free =
    let all : suc n * count ≡ n * count + count = suc-mul n count in
    let piece = lock_piece lock cell count in
    let now = one locks bars cells pieces piece before (lock_piece_is locks bars cells lock cell count (omega arith) (omega (arith, within, all))) (λ x low high. free x low (omega (arith, high, all))) in
    let rest : IsFree (pieces ++ piece ∷ []) (cell + count) (n * count) = λ x low high.
    piece_of-more pieces piece x ∙ ap (λ b. b || is_some (piece_of (piece ∷ []) x)) (free x (omega (arith, low)) (omega (arith, high, all))) ∙ outside piece x low in
    subst (ArePieces locks bars cells) (append_assoc pieces (piece ∷ []) (lock_pieces (lock + 1) (cell + count) count n))
    (row locks bars cells (lock + 1) (cell + count) count n (pieces ++ piece ∷ []) now (omega arith) (omega (arith, within, all)) rest)
