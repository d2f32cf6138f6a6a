-- A chain of segments in a slab, by the keys of its segments.
use Rattle.std.specs.Prelude.{◌≡◌, ◌≢◌, ℕ, ◌<◌, ◌≤◌, List, [], ◌∷◌, length, Option, Some, None, IfSome, MatchOption}
use Rattle.slab.specs.Slab.{Slab, get}
use Rattle.dsm_segments.specs.declared.segment.Segment.{Segment}
use Rattle.dsm_segments.specs.Entries.{joined}

-- the key isn't in the list
abbrev pub IsApart : ℕ → List ℕ → Type 0
IsApart key [] = Unit {0}
IsApart key (other ∷ keys) = (other ≢ key) × IsApart key keys

module _ {A : Type 0} where
  abbrev pub entries_at : Option (Segment A) → List A
  entries_at None = []
  entries_at (Some segment) = segment.entries

  -- the segments under these keys
  abbrev pub segments_of : Slab (Segment A) → List ℕ → List (List A)
  segments_of slab [] = []
  segments_of slab (key ∷ keys) = entries_at (get slab key) ∷ segments_of slab keys

  -- the entries under these keys
  abbrev pub entries_of : Slab (Segment A) → List ℕ → List A
  entries_of slab keys = joined (segments_of slab keys)

  -- the segments of each chain
  abbrev pub chains_of : Slab (Segment A) → List (List ℕ) → List (List (List A))
  chains_of slab [] = []
  chains_of slab (keys ∷ chains) = segments_of slab keys ∷ chains_of slab chains

  -- each key has a segment with entries
  abbrev pub AreThere : Slab (Segment A) → List ℕ → Type 0
  AreThere slab [] = Unit {0}
  AreThere slab (key ∷ keys) = MatchOption (get slab key) ⊥ (λ segment. 0 < length segment.entries) × AreThere slab keys

  -- a segment belongs to its owner, and has 1 to 64 entries
  pub record IsOwned (owner : ℕ) (segment : Segment A) : Type 0 where
    pub owned : segment.owner ≡ owner
    pub some : 0 < length segment.entries
    pub size : length segment.entries ≤ 64

  -- the key has a segment of this owner
  abbrev pub IsOwn : Slab (Segment A) → ℕ → ℕ → Type 0
  IsOwn slab owner key = MatchOption (get slab key) ⊥ (IsOwned owner)

  -- each key has a segment of the owner, and none stands twice
  abbrev pub IsChain : Slab (Segment A) → ℕ → List ℕ → Type 0
  IsChain slab owner [] = Unit {0}
  IsChain slab owner (key ∷ keys) = IsOwn slab owner key × IsApart key keys × IsChain slab owner keys

  -- a segment of another owner stays as it was
  abbrev pub KeepsOthers : ℕ → Slab (Segment A) → Slab (Segment A) → Type 0
  KeepsOthers owner old new =
      (key : ℕ) → IfSome (get old key) (λ segment. segment.owner ≢ owner → get new key ≡ get old key)
