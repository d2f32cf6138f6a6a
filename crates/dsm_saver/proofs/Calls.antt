-- What a saver knows before a call of its store, and what the two are after it.
use Rattle.std.proofs.Common.{◌≡◌, ℕ, ◌≤◌, ◌<◌, List, [], Option, Some, None, refl, sym, ◌∙◌, ap, subst, arith}
use Rattle.std.specs.Prelude.{IfSome, MatchOption}
use Rattle.std.specs.Option.{option_map}
use Rattle.dsm_base.specs.Store.{Contents, with_block, with_mark, IsUnmarked, ChangesSlot, ChangesBlock, Stands}
use Rattle.dsm_saver.specs.declared.answers.Wrote.{Wrote}
use Rattle.dsm_saver.specs.declared.answers.Wrote.TheVariants.{Nothing, Block, Marked, GaveUp}
use Rattle.dsm_saver.specs.Blocks.{IsImage, block_count, block_of, torn_after, saved}
use Rattle.dsm_saver.specs.States.{State, Image, IsApart, HasMark, HasWritten, HasImage, Fits, free_slot}
use Rattle.dsm_saver.specs.Answers.{Advances, GivenUp, Leaves, advanced, mark_of, stopped, saved_after}
use Rattle.dsm_saver.proofs.Slots.{IsElsewhere, unmarked, elsewhere, free_elsewhere, kept-slot, kept-block, kept-write, written-more, saved-marked}

-- room in the lowest slot that isn't marked leaves what is saved
pub saved-free : (slot : ℕ) (marked : Option (ℕ × ℕ)) (holds now : Option Contents) → slot ≡ free_slot marked → HasMark marked holds
    → Stands holds now (ChangesSlot slot) → Stands holds now (λ old new. saved new ≡ saved old)
saved-free slot marked holds now free has stands =
    let apart : IsElsewhere slot marked = subst (λ (s : ℕ). IsElsewhere s marked) (sym free) (free_elsewhere marked) in
    (kept-slot slot marked holds now has apart stands).1

-- a saver with an image under way, over a store that stands as the saver left it
pub record IsOpen (marked : Option (ℕ × ℕ)) (held : Option Image) (state : State) (image : Image) (holds : Option Contents) (rooms : ℕ → ℕ) : Type 0 where
  pub view : record { marked = marked; image = held } ≡ state
  pub is : held ≡ Some image
  pub apart : IsApart marked held
  pub fits : Fits state holds rooms

pub opened : {marked : Option (ℕ × ℕ)} {held : Option Image} {state : State} {image : Image} {holds : Option Contents} {rooms : ℕ → ℕ}
    → record { marked = marked; image = held } ≡ state → held ≡ Some image → IsApart marked held → Fits state holds rooms
    → IsOpen marked held state image holds rooms
opened view is apart fits = record { view = view; is = is; apart = apart; fits = fits }

-- the block that is handed to the store is the next one, with the bytes that are due
pub record IsDue (image : Image) (due : List ℕ) (slot block : ℕ) (bytes : List ℕ) : Type 0 where
  pub slot_is : slot ≡ image.slot
  pub block_is : block ≡ image.written
  pub bytes_are : bytes ≡ due

-- a whole block
pub due-whole : (image : Image) (slot block : ℕ) (bytes : List ℕ) → slot ≡ image.slot → block ≡ image.written → bytes ≡ block_of block image.bytes
    → IsDue image (block_of image.written image.bytes) slot block bytes
due-whole image slot block bytes slots blocks are = record {
  slot_is = slots;
  block_is = blocks;
  bytes_are = are ∙ ap (λ (b : ℕ). block_of b image.bytes) blocks;
}

-- a torn one
pub due-torn : (kept : ℕ) (image : Image) (slot block : ℕ) (bytes torn : List ℕ) → slot ≡ image.slot → block ≡ image.written → bytes ≡ block_of block image.bytes
    → torn ≡ torn_after kept bytes → IsDue image (torn_after kept (block_of image.written image.bytes)) slot block torn
due-torn kept image slot block bytes torn slots blocks are is_torn = record {
  slot_is = slots;
  block_is = blocks;
  bytes_are = is_torn ∙ ap (torn_after kept) (are ∙ ap (λ (b : ℕ). block_of b image.bytes) blocks);
}

-- a write of a block that is due, as a store that tells shows it
leaves-due : (image : Image) (due : List ℕ) (slot block : ℕ) (bytes : List ℕ) (holds now : Option Contents) → IsDue image due slot block bytes
    → now ≡ option_map (with_block slot block bytes) holds → Stands holds now (Leaves image due (Wrote.Block block))
leaves-due image due slot block bytes None now is written = written
leaves-due image due slot block bytes (Some old) now is written =
    rw written
    (ap (λ (s : ℕ). with_block s block bytes old) is.slot_is
    ∙ ap (λ (b : ℕ). with_block image.slot b bytes old) is.block_is
    ∙ ap (λ (xs : List ℕ). with_block image.slot image.written xs old) is.bytes_are)

-- a failure while blocks are left
given-up : (image : Image) (holds now : Option Contents) → image.written < block_count image.bytes → Stands holds now (ChangesBlock image.slot image.written) → Stands holds now (GivenUp image)
given-up image None now below stands = stands
given-up image (Some old) None below stands = absurd stands
given-up image (Some old) (Some new) below stands = record { unmarked = λ all. absurd (omega (arith, below, all)); one_block = stands }

one-block : (image : Image) (holds now : Option Contents) → Stands holds now (GivenUp image) → Stands holds now (ChangesBlock image.slot image.written)
one-block image None now stands = stands
one-block image (Some old) None stands = absurd stands
one-block image (Some old) (Some new) stands = stands.one_block

-- a failed mark changes nothing
pub mark-failed : (image : Image) (holds now : Option Contents) → now ≡ holds → Stands holds now (Leaves image [] Wrote.GaveUp)
mark-failed image None now same = same
mark-failed image (Some old) now same =
    rw same record { unmarked = λ all. refl; one_block = record { same_mark = refl; others = λ s b other. refl } }

-- a mark, as a store that tells shows it
marked-mark : (image : Image) (turn : ℕ) (holds now : Option Contents) → Stands holds now (Leaves image [] (Wrote.Marked turn))
    → now ≡ option_map (with_mark (Some (mark_of image))) holds
marked-mark image turn None now leaves = leaves
marked-mark image turn (Some old) None leaves = absurd leaves
marked-mark image turn (Some old) (Some new) leaves = ap Some leaves

module _ {marked : Option (ℕ × ℕ)} {held : Option Image} {state : State} {image : Image} {holds : Option Contents} {rooms : ℕ → ℕ} (before : IsOpen marked held state image holds rooms) where
  pub state-image : state.image ≡ Some image
  state-image = ap (λ (s : State). s.image) (sym before.view) ∙ before.is

  known-mark : HasMark marked holds
  known-mark = subst (λ (s : State). HasMark s.marked holds) (sym before.view) before.fits.mark

  has-image : HasImage image holds rooms
  has-image =
      let has : IfSome (Some image) (λ i. HasImage i holds rooms) = subst (λ (o : Option Image). IfSome o (λ i. HasImage i holds rooms)) state-image before.fits.image in
      has

  apart-image : (slot : ℕ) → slot ≡ image.slot → IsElsewhere slot marked
  apart-image slot same = elsewhere marked held image slot before.apart before.is same

  -- so its slot may be written to
  pub may-write : (slot : ℕ) → slot ≡ image.slot → IsUnmarked slot holds
  may-write slot same = unmarked slot marked holds known-mark (apart-image slot same)

  -- and there is room for the block
  pub has-room : (slot block : ℕ) → slot ≡ image.slot → block < block_count image.bytes → block < rooms slot
  has-room slot block same below = subst (λ (s : ℕ). block < rooms s) (sym same) (omega (arith, has-image.room, below))

  -- what it is once it has stopped
  pub stopped-open : stopped state ≡ record { marked = marked; image = None }
  stopped-open = ap stopped (sym before.view)

  module _ (now : Option Contents) (due : Image → List ℕ) {slot block : ℕ} {bytes : List ℕ} (is : IsDue image (due image) slot block bytes) where
    -- after a write
    pub leaves-written : now ≡ option_map (with_block slot block bytes) holds → MatchOption state.image (now ≡ holds) (λ i. Stands holds now (Leaves i (due i) (Wrote.Block block)))
    leaves-written written =
        subst (λ (o : Option Image). MatchOption o (now ≡ holds) (λ i. Stands holds now (Leaves i (due i) (Wrote.Block block)))) (sym state-image)
        (leaves-due image (due image) slot block bytes holds now is written)

    kept-written : now ≡ option_map (with_block slot block bytes) holds → HasMark marked now × Stands holds now (λ old new. saved new ≡ saved old)
    kept-written written = kept-write slot block bytes marked holds now known-mark (apart-image slot is.slot_is) written

    pub saved-written : now ≡ option_map (with_block slot block bytes) holds → Stands holds now (λ old new. saved new ≡ saved old)
    saved-written written = (kept-written written).1

    pub stops-written : (after : State) (later : ℕ → ℕ) → after ≡ record { marked = marked; image = None } → now ≡ option_map (with_block slot block bytes) holds → Fits after now later
    stops-written after later is_after written =
        subst (λ (s : State). Fits s now later) (sym is_after) (record { mark = (kept-written written).0; image = tt })

    -- after a failure
    pub leaves-failed : block < block_count image.bytes → Stands holds now (ChangesBlock slot block) → MatchOption state.image (now ≡ holds) (λ i. Stands holds now (Leaves i (due i) Wrote.GaveUp))
    leaves-failed below stands =
        let in_slot : Stands holds now (ChangesBlock image.slot block) = subst (λ (s : ℕ). Stands holds now (ChangesBlock s block)) is.slot_is stands in
        let in_block : Stands holds now (ChangesBlock image.slot image.written) = subst (λ (b : ℕ). Stands holds now (ChangesBlock image.slot b)) is.block_is in_slot in
        let given : Stands holds now (GivenUp image) = given-up image holds now (subst (λ (b : ℕ). b < block_count image.bytes) is.block_is below) in_block in
        subst (λ (o : Option Image). MatchOption o (now ≡ holds) (λ i. Stands holds now (Leaves i (due i) Wrote.GaveUp))) (sym state-image) given

    kept-failed : Stands holds now (ChangesBlock slot block) → HasMark marked now × Stands holds now (λ old new. saved new ≡ saved old)
    kept-failed stands = kept-block slot block marked holds now known-mark (apart-image slot is.slot_is) stands

    pub saved-failed : Stands holds now (ChangesBlock slot block) → Stands holds now (λ old new. saved new ≡ saved old)
    saved-failed stands = (kept-failed stands).1

    pub stops-failed : (after : State) (later : ℕ → ℕ) → after ≡ record { marked = marked; image = None } → Stands holds now (ChangesBlock slot block) → Fits after now later
    stops-failed after later is_after stands =
        subst (λ (s : State). Fits s now later) (sym is_after) (record { mark = (kept-failed stands).0; image = tt })

  -- after the next block was written, the image has one block more
  pub fits-written : (now : Option Contents) (later : ℕ → ℕ) (next : Image) {slot block : ℕ} {bytes : List ℕ} → IsDue image (block_of image.written image.bytes) slot block bytes
      → now ≡ option_map (with_block slot block bytes) holds → later ≡ rooms → next ≡ advanced image → Fits (record { marked = marked; image = Some next }) now later
  fits-written now later next {slot} {block} {bytes} is written same next_is =
      let exact : now ≡ option_map (with_block image.slot image.written (block_of image.written image.bytes)) holds =
      written
      ∙ ap (λ (s : ℕ). option_map (with_block s block bytes) holds) is.slot_is
      ∙ ap (λ (b : ℕ). option_map (with_block image.slot b bytes) holds) is.block_is
      ∙ ap (λ (xs : List ℕ). option_map (with_block image.slot image.written xs) holds) is.bytes_are in
      let more : HasWritten (advanced image) now = written-more image holds now has-image.written exact in
      let room : block_count image.bytes ≤ later image.slot = subst (λ (r : ℕ → ℕ). block_count image.bytes ≤ r image.slot) (sym same) has-image.room in
      let has : HasImage (advanced image) now later = record { room = room; written = more } in
      let kept = kept-write slot block bytes marked holds now known-mark (apart-image slot is.slot_is) written in
      subst (λ (i : Image). Fits (record { marked = marked; image = Some i }) now later) (sym next_is) (record { mark = kept.0; image = has })

  -- where all blocks were written, the answer says whether the image is saved
  pub saved-finished : (result : Wrote) (after : State) (now : Option Contents) → IsImage image.bytes → image.written ≡ block_count image.bytes
      → Advances (record { marked = marked; image = Some image }) after result → Stands holds now (Leaves image [] result)
      → Stands holds now (λ old new. saved new ≡ saved_after state result (saved old))
  saved-finished Nothing after now whole all advances leaves = absurd (let none : Some image ≡ None = advances.0 in cc)
  saved-finished (Block block) after now whole all advances leaves = absurd (omega (arith, advances.0, advances.1))
  saved-finished (Marked turn) after now whole all advances leaves =
      let kept = (saved-marked image holds now whole all has-image.written (marked-mark image turn holds now leaves)).1 in
      subst (λ (o : Option Image). Stands holds now (λ old new. saved new ≡ option_map (λ i. i.bytes) o)) (sym state-image) kept
  saved-finished GaveUp after now whole all advances leaves =
      (kept-block image.slot image.written marked holds now known-mark (apart-image image.slot refl) (one-block image holds now leaves)).1
