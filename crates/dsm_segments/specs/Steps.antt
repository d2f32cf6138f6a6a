-- What is done to one segment.
use Rattle.std.specs.Prelude.{◌≡◌, ℕ, ◌<◌, ◌≤◌, List, [], ◌∷◌, ◌++◌, length, Some, None}
use Rattle.slab.specs.Slab.{Slab, get, Updates}
use Rattle.dsm_segments.specs.declared.segment.Segment.{Segment}
use Rattle.dsm_segments.specs.Entries.{behind}
use Rattle.dsm_segments.specs.Chains.{entries_at}

module _ {A : Type 0} where
  -- this is the last key, and its segment has room
  pub record HasRoomAt (slab : Slab (Segment A)) (keys : List ℕ) (last : ℕ) : Type 0 where
    pub front : List ℕ
    pub is : keys ≡ front ++ last ∷ []
    pub room : length (entries_at (get slab last)) < 64

  -- the segment under a key has one more entry
  pub record Fills (old new : Slab (Segment A)) (key : ℕ) (entry : A) : Type 0 where
    pub was : Segment A
    pub now : Segment A
    pub found : get old key ≡ Some was
    pub updates : Updates old new key (Some now)
    pub owner : now.owner ≡ was.owner
    pub more : now.entries ≡ was.entries ++ entry ∷ []

  -- a segment is let go as a whole
  pub record Empties (number : A → ℕ) (upto : ℕ) (old new : Slab (Segment A)) (key : ℕ) : Type 0 where
    pub updates : Updates old new key None
    pub none : behind number upto (entries_at (get old key)) ≡ []

  -- a segment loses entries at its front, and not all
  pub record Trims (number : A → ℕ) (upto : ℕ) (old new : Slab (Segment A)) (key : ℕ) : Type 0 where
    pub was : Segment A
    pub now : Segment A
    pub found : get old key ≡ Some was
    pub updates : Updates old new key (Some now)
    pub owner : now.owner ≡ was.owner
    pub entries : now.entries ≡ behind number upto was.entries
    pub some : 0 < length now.entries
    pub fewer : length now.entries ≤ length was.entries
