-- Lists that are put together of pieces of one length.
use Rattle.std.specs.Prelude.{◌≡◌, ◌<◌, ◌≤◌, ℕ, zero, suc, ◌+◌, ◌*◌, List, ◌++◌, length}
use Rattle.std.specs.List.{flat_map, range_with_len}
use Rattle.std.proofs.Common.{◌∙◌, ap, arith, get_or, length-append}
use Rattle.std.proofs.Math.Nat.{mul-le-mul}
use Rattle.std.proofs.lemmas.List.{get_or_append_left, get_or-append-add}

one_more_piece : (count size : ℕ) → size + count * size ≡ suc count * size
one_more_piece count size = omega arith

none_at_first : (size j : ℕ) → zero * size + j ≡ j
none_at_first size j = omega arith

one_further : (i size j : ℕ) → suc i * size + j ≡ size + (i * size + j)
one_further i size j = omega arith

-- a place in a piece is one in the whole
pub within_pieces : (i count j size : ℕ) → i < count → j < size → i * size + j < count * size
within_pieces i count j size h k =
    let whole : suc i * size ≤ count * size = mul-le-mul (omega arith) (omega arith) in
    omega (arith, whole, one_more_piece i size)

module _ {A : Type 0} (piece : ℕ → List A) (size : ℕ) where
  abbrev pub AreOfSize : ℕ → ℕ → Type 0
  AreOfSize from count = (i : ℕ) → from ≤ i → i < from + count → length (piece i) ≡ size

  later : (from count : ℕ) → AreOfSize from (suc count) → AreOfSize (from + 1) count
  later from count all i low high = all i (omega arith) (omega arith)

  first : (from count : ℕ) → AreOfSize from (suc count) → length (piece from) ≡ size
  first from count all = all from (omega arith) (omega arith)

  pub length-pieces : (from count : ℕ) → AreOfSize from count → length (flat_map piece (range_with_len from count)) ≡ count * size
  length-pieces from zero all = omega arith
  length-pieces from (suc count) all =
      let others : length (flat_map piece (range_with_len (from + 1) count)) ≡ count * size = length-pieces (from + 1) count (later from count all) in
      let both : length (piece from ++ flat_map piece (range_with_len (from + 1) count)) ≡ length (piece from) + length (flat_map piece (range_with_len (from + 1) count)) = length-append (piece from) (flat_map piece (range_with_len (from + 1) count)) in
      let here : length (piece from) ≡ size = first from count all in
      both ∙ omega (arith, here, others, one_more_piece count size)

  pub get_or-pieces : (from count i j : ℕ) (d : A) → AreOfSize from count → i < count → j < size
      → get_or (flat_map piece (range_with_len from count)) (i * size + j) d ≡ get_or (piece (from + i)) j d
  get_or-pieces from zero i j d all h k = absurd (omega arith)
  get_or-pieces from (suc count) zero j d all h k =
      let here : from ≡ from + zero = omega arith in
      let within : j < length (piece from) = omega (arith, first from count all, k) in
      ap (λ n. get_or (piece from ++ flat_map piece (range_with_len (from + 1) count)) n d) (none_at_first size j)
      ∙ get_or_append_left (piece from) (flat_map piece (range_with_len (from + 1) count)) d j within ∙ ap (λ p. get_or (piece p) j d) here
  get_or-pieces from (suc count) (suc i) j d all h k =
      let there : from + 1 + i ≡ from + suc i = omega arith in
      let at : suc i * size + j ≡ length (piece from) + (i * size + j) = omega (arith, first from count all, one_further i size j) in
      ap (λ n. get_or (piece from ++ flat_map piece (range_with_len (from + 1) count)) n d) at
      ∙ get_or-append-add (piece from) (flat_map piece (range_with_len (from + 1) count)) (i * size + j) d
      ∙ get_or-pieces (from + 1) count i j d (later from count all) (omega arith) k ∙ ap (λ p. get_or (piece p) j d) there
