-- Packed segments: what stays so, and that they are few.
use Rattle.std.proofs.Common.{◌≡◌, ℕ, ◌+◌, ◌*◌, ◌/◌, ◌<◌, ◌≤◌, List, [], ◌∷◌, ◌++◌, length, arith, length-append}
use Rattle.std.proofs.lemmas.Nat.{le-div}
use Rattle.dsm_segments.specs.Entries.{joined}
use Rattle.dsm_segments.specs.Sound.{AreFull, IsPacked, IsClosed}

module _ {A : Type 0} where
  full_last : (front : List (List A)) (s t : List A) → AreFull (front ++ s ∷ []) → AreFull (front ++ t ∷ [])
  full_last [] s t full = tt
  full_last (x ∷ []) s t full = (full.0, tt)
  full_last (x ∷ y ∷ front) s t full = (full.0, full_last (y ∷ front) s t full.1)

  -- the last segment changes
  pub packed_last : (front : List (List A)) (s t : List A) → IsPacked (front ++ s ∷ []) → IsPacked (front ++ t ∷ [])
  packed_last [] s t packed = tt
  packed_last (x ∷ front) s t packed = full_last front s t packed

  full_more : (list : List (List A)) (t : List A) → AreFull list → IsClosed list → AreFull (list ++ t ∷ [])
  full_more [] t full closed = tt
  full_more (x ∷ []) t full closed = (closed, tt)
  full_more (x ∷ y ∷ list) t full closed = (full.0, full_more (y ∷ list) t full.1 closed)

  -- one more segment behind a full one
  pub packed_more : (list : List (List A)) (t : List A) → IsPacked list → IsClosed list → IsPacked (list ++ t ∷ [])
  packed_more [] t packed closed = tt
  packed_more (x ∷ []) t packed closed = tt
  packed_more (x ∷ y ∷ list) t packed closed = full_more (y ∷ list) t packed closed

  -- the first segment goes
  pub packed_rest : (list : List (List A)) → AreFull list → IsPacked list
  packed_rest [] full = tt
  packed_rest (x ∷ []) full = tt
  packed_rest (x ∷ y ∷ list) full = full.1

  -- a full last segment
  pub closed_last : (front : List (List A)) (s : List A) → 64 ≤ length s → IsClosed (front ++ s ∷ [])
  closed_last [] s full = full
  closed_last (x ∷ []) s full = full
  closed_last (x ∷ y ∷ front) s full = closed_last (y ∷ front) s full

  full_count : (s : List A) (list : List (List A)) → AreFull (s ∷ list) → length list * 64 ≤ length (joined (s ∷ list))
  full_count s [] full = omega arith
  full_count s (next ∷ list) full =
      let rest = full_count next list full.1 in
      let size = length-append s (joined (next ∷ list)) in
      omega (arith, full.0, rest, size)

  pub few_segments : (list : List (List A)) → IsPacked list → length list ≤ length (joined list) / 64 + 2
  few_segments [] packed = omega arith
  few_segments (s ∷ []) packed = omega arith
  few_segments (s ∷ next ∷ list) packed =
      let rest = full_count next list packed in
      let size = length-append s (joined (next ∷ list)) in
      let count = le-div (length list) (length (joined (s ∷ next ∷ list))) 64 (omega arith) (omega (arith, rest, size)) in
      omega (arith, count)
