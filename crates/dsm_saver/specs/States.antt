-- What a saver keeps, and what it knows of its store.
use Rattle.std.specs.Prelude.{◌≡◌, ◌≢◌, ℕ, ◌≤◌, ◌==◌, if◌then◌else◌, List, Option, Some, None, IfSome}
use Rattle.std.specs.Option.{ForSome}
use Rattle.dsm_base.specs.Store.{Contents, IsSlot, IsMarkOrNone}
use Rattle.dsm_saver.specs.Blocks.{IsImage, block_count, front, first_blocks}

-- an image under way: its bytes, its turn, the slot that it goes into, and how many of its blocks are written
pub record Image : Type 0 where
  pub bytes : List ℕ
  pub turn : ℕ
  pub slot : ℕ
  pub written : ℕ

-- the mark that a saver knows, and its image under way
pub record State : Type 0 where
  pub marked : Option (ℕ × ℕ)
  pub image : Option Image

-- an image under way has whole blocks, and no more of them are written than there are
pub record IsUnderWay (image : Image) : Type 0 where
  pub bytes : IsImage image.bytes
  pub slot : IsSlot image.slot
  pub written : image.written ≤ block_count image.bytes

-- an image under way goes into a slot that isn't marked
abbrev pub IsApart : Option (ℕ × ℕ) → Option Image → Type 0
IsApart marked image = ForSome image (λ image. ForSome marked (λ mark. mark.0 ≢ image.slot))

-- the lowest slot that isn't marked
abbrev pub free_slot : Option (ℕ × ℕ) → ℕ
free_slot None = 0
free_slot (Some mark) = if mark.0 == 0 then 1 else 0

-- a store that tells has the mark that is known
abbrev pub HasMark : Option (ℕ × ℕ) → Option Contents → Type 0
HasMark marked holds = IfSome holds (λ contents. contents.mark ≡ marked)

-- in a store that tells, the blocks written so far read as they were written
abbrev pub HasWritten : Image → Option Contents → Type 0
HasWritten image holds = IfSome holds (λ contents. first_blocks image.slot image.written contents ≡ front image.written image.bytes)

-- what a store has of an image under way: room for it, and the blocks written so far
pub record HasImage (image : Image) (holds : Option Contents) (rooms : ℕ → ℕ) : Type 0 where
  pub room : block_count image.bytes ≤ rooms image.slot
  pub written : HasWritten image holds

-- a store stands as a saver left it
pub record Fits (state : State) (holds : Option Contents) (rooms : ℕ → ℕ) : Type 0 where
  pub mark : HasMark state.marked holds
  pub image : IfSome state.image (λ image. HasImage image holds rooms)
