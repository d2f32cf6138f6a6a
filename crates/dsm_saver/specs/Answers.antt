-- What a saver answers, and what it leaves then.
use Rattle.std.specs.Prelude.{◌≡◌, ℕ, ◌+◌, ◌≤◌, ◌<◌, List, Option, Some, None, IfSome, IsSomeAnd}
use Rattle.std.specs.Option.{option_map}
use Rattle.dsm_base.specs.Causes.{Rose}
use Rattle.dsm_base.specs.Store.{Contents, with_block, with_mark, ChangesBlock}
use Rattle.dsm_saver.specs.declared.answers.Begun.{Begun}
use Rattle.dsm_saver.specs.declared.answers.Begun.TheVariants as begun
use Rattle.dsm_saver.specs.declared.answers.Wrote.{Wrote}
use Rattle.dsm_saver.specs.declared.answers.Wrote.TheVariants.{Nothing, Block, Marked, GaveUp}
use Rattle.dsm_saver.specs.Blocks.{block_count}
use Rattle.dsm_saver.specs.States.{State, Image, free_slot}

-- an image couldn't be begun only where the count of failures rose
abbrev pub NotBegunFor : ℕ → ℕ → Begun → Type 0
NotBegunFor before now (begun.Started blocks) = Unit {0}
NotBegunFor before now begun.GaveUp = Rose before now

-- what is owed where an image was given up
abbrev pub OnGaveUp : Wrote → Type 0 → Type 0
OnGaveUp Nothing P = Unit {0}
OnGaveUp (Block block) P = Unit {0}
OnGaveUp (Marked turn) P = Unit {0}
OnGaveUp GaveUp P = P

-- the count of failures never falls, and an image was given up only where it rose
pub record GivesUpFor (before now : ℕ) (answer : Wrote) : Type 0 where
  pub later : before ≤ now
  pub rose : OnGaveUp answer (Rose before now)

-- an image of which nothing is written yet, on its way into the lowest slot that isn't marked
abbrev pub started : Option (ℕ × ℕ) → List ℕ → ℕ → Image
started marked bytes turn = record { bytes = bytes; turn = turn; slot = free_slot marked; written = 0 }

-- an image of so many blocks is under way, or all is as it was
abbrev pub Begins : State → State → List ℕ → ℕ → Begun → Type 0
Begins before now bytes turn (begun.Started blocks) = (blocks ≡ block_count bytes) × (now ≡ record before { image = Some (started before.marked bytes turn) })
Begins before now bytes turn begun.GaveUp = now ≡ before

-- an image with one block more written
abbrev pub advanced : Image → Image
advanced image = record image { written = image.written + 1 }

-- the mark of an image
abbrev pub mark_of : Image → ℕ × ℕ
mark_of image = (image.slot, block_count image.bytes)

-- nothing is under way any more
abbrev pub stopped : State → State
stopped state = record state { image = None }

-- the next block was written, or where none is left the image was marked, or it was given up
abbrev pub Advances : State → State → Wrote → Type 0
Advances before now Nothing = (before.image ≡ None) × (now ≡ before)
Advances before now (Block block) = IsSomeAnd before.image (λ image. (block ≡ image.written) × (block < block_count image.bytes) × (now ≡ record before { image = Some (advanced image) }))
Advances before now (Marked turn) = IsSomeAnd before.image (λ image. (turn ≡ image.turn) × (image.written ≡ block_count image.bytes) × (now ≡ record { marked = Some (mark_of image); image = None }))
Advances before now GaveUp = IsSomeAnd before.image (λ image. now ≡ stopped before)

-- the next block was torn or the image given up, and nothing is under way then; it never is marked
abbrev pub Tears : State → State → Wrote → Type 0
Tears before now Nothing = IfSome before.image (λ image. image.written ≡ block_count image.bytes) × (now ≡ before)
Tears before now (Block block) = IsSomeAnd before.image (λ image. (block ≡ image.written) × (block < block_count image.bytes) × (now ≡ stopped before))
Tears before now (Marked turn) = ⊥
Tears before now GaveUp = IsSomeAnd before.image (λ image. (image.written < block_count image.bytes) × (now ≡ stopped before))

-- after a failure: nothing has changed where the mark was to be set, and else at most the next block
pub record GivenUp (image : Image) (before now : Contents) : Type 0 where
  pub unmarked : image.written ≡ block_count image.bytes → now ≡ before
  pub one_block : ChangesBlock image.slot image.written before now

-- the contents once an image was answered for whose next block was to be these bytes
abbrev pub Leaves : Image → List ℕ → Wrote → Contents → Contents → Type 0
Leaves image bytes Nothing before now = now ≡ before
Leaves image bytes (Block block) before now = now ≡ with_block image.slot image.written bytes before
Leaves image bytes (Marked turn) before now = now ≡ with_mark (Some (mark_of image)) before
Leaves image bytes GaveUp before now = GivenUp image before now

-- what is saved then: the image under way where it was marked, and else what was saved before
abbrev pub saved_after : State → Wrote → Option (List ℕ) → Option (List ℕ)
saved_after state Nothing before = before
saved_after state (Block block) before = before
saved_after state (Marked turn) before = option_map (λ image. image.bytes) state.image
saved_after state GaveUp before = before
