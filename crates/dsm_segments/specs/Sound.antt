-- Chains with few segments, of which one changes at a time.
use Rattle.std.specs.Prelude.{◌≡◌, ℕ, ◌≤◌, List, [], ◌∷◌, length}
use Rattle.std.specs.List.{slice_index_or}
use Rattle.slab.specs.Slab.{Slab}
use Rattle.dsm_segments.specs.declared.segment.Segment.{Segment}
use Rattle.dsm_segments.specs.Chains.{segments_of, IsChain, KeepsOthers}

module _ {A : Type 0} where
  -- all segments but the last are full
  abbrev pub AreFull : List (List A) → Type 0
  AreFull [] = Unit {0}
  AreFull (segment ∷ []) = Unit {0}
  AreFull (segment ∷ next ∷ segments) = (64 ≤ length segment) × AreFull (next ∷ segments)

  -- all segments but the first and the last are full
  abbrev pub IsPacked : List (List A) → Type 0
  IsPacked [] = Unit {0}
  IsPacked (segment ∷ segments) = AreFull segments

  -- the last segment is full, if there is one
  abbrev pub IsClosed : List (List A) → Type 0
  IsClosed [] = Unit {0}
  IsClosed (segment ∷ []) = 64 ≤ length segment
  IsClosed (segment ∷ next ∷ segments) = IsClosed (next ∷ segments)

  pub record IsSound (slab : Slab (Segment A)) (owner : ℕ) (keys : List ℕ) : Type 0 where
    pub chain : IsChain slab owner keys
    pub packed : IsPacked (segments_of slab keys)

  -- each chain is sound, under its own number
  abbrev pub AreSound : Slab (Segment A) → List (List ℕ) → Type 0
  AreSound slab chains = (owner : ℕ) → IsSound slab owner (slice_index_or chains owner [])

  -- one chain changes and stays sound, and the others stay as they were
  pub record Changes (owner : ℕ) (old new : Slab (Segment A)) (now : List ℕ) : Type 0 where
    pub sound : IsSound new owner now
    pub others : KeepsOthers owner old new
