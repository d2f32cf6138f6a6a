-- What calls on a store leave of its mark and of what is saved.
use Rattle.std.proofs.Common.{◌≡◌, ◌≢◌, ℕ, ◌+◌, ◌<◌, List, ◌++◌, Option, Some, None, refl, sym, ◌∙◌, ap, subst, inl, inr, arith, add-one}
use Rattle.std.specs.Prelude.{IfSome}
use Rattle.std.specs.Option.{option_map, ForSome}
use Rattle.std.proofs.lemmas.Bool.Decides.{eqb_tells}
use Rattle.dsm_base.specs.Store.{Contents, with_block, with_mark, IsUnmarked, ReadsBlock, ChangesSlot, ChangesBlock, Stands}
use Rattle.dsm_saver.specs.Blocks.{IsImage, block_count, front, block_of, first_blocks, saved}
use Rattle.dsm_saver.specs.States.{Image, IsApart, HasMark, HasWritten, free_slot}
use Rattle.dsm_saver.specs.Answers.{advanced, mark_of}
use Rattle.dsm_saver.proofs.Blocks.{first_blocks-same, first_blocks-more, with_block-other, front-all}

-- a mark that is known stands at another slot
abbrev pub IsElsewhere : ℕ → Option (ℕ × ℕ) → Type 0
IsElsewhere slot marked = ForSome marked (λ mark. mark.0 ≢ slot)

-- an image under way goes elsewhere
pub elsewhere : (marked : Option (ℕ × ℕ)) (image : Option Image) (one : Image) (slot : ℕ) → IsApart marked image → image ≡ Some one → slot ≡ one.slot → IsElsewhere slot marked
elsewhere marked image one slot apart is same = rw same (apart one is)

-- and so does it with one block more
pub elsewhere-advanced : (marked : Option (ℕ × ℕ)) (image next one : Image) → IsElsewhere image.slot marked → next ≡ advanced image → Some next ≡ Some one → IsElsewhere one.slot marked
elsewhere-advanced marked image next one apart is same =
    let here : next ≡ one = cc in
    subst (λ (i : Image). IsElsewhere i.slot marked) here (subst (λ (i : Image). IsElsewhere i.slot marked) (sym is) apart)

-- so the slot may be written to
pub unmarked : (slot : ℕ) (marked : Option (ℕ × ℕ)) (holds : Option Contents) → HasMark marked holds → IsElsewhere slot marked → IsUnmarked slot holds
unmarked slot marked None known apart = tt
unmarked slot None (Some contents) known apart = rw known tt
unmarked slot (Some mark) (Some contents) known apart = rw known (apart mark refl)

-- the lowest slot that isn't marked isn't the marked one
free_other : (mark : ℕ × ℕ) → mark.0 ≢ free_slot (Some mark)
free_other mark same =
    elim (eqb_tells mark.0 0) [
      | inl first ↦ (let one : mark.0 ≡ 1 = rw first.0 at same in omega (arith, first.1))
      | inr other ↦ other.1 (rw other.0 at same)
    ]

pub free_elsewhere : (marked : Option (ℕ × ℕ)) → IsElsewhere (free_slot marked) marked
free_elsewhere None = λ mark none same. cc
free_elsewhere (Some known) = λ mark is_known.
    let same : known ≡ mark = cc in
    subst (λ (m : ℕ × ℕ). m.0 ≢ free_slot (Some known)) same (free_other known)

-- what is saved, where the mark is known
saved-at : (contents : Contents) (marked : Option (ℕ × ℕ)) → contents.mark ≡ marked → saved contents ≡ option_map (λ mark. first_blocks mark.0 mark.1 contents) marked
saved-at contents marked known = ap (option_map (λ (mark : ℕ × ℕ). first_blocks mark.0 mark.1 contents)) known

-- a change of another slot leaves what is saved
pub saved-slot : (slot : ℕ) (marked : Option (ℕ × ℕ)) (before now : Contents) → before.mark ≡ marked → IsElsewhere slot marked → ChangesSlot slot before now
    → saved now ≡ saved before
saved-slot slot None before now known apart changes = saved-at now None (changes.same_mark ∙ known) ∙ sym (saved-at before None known)
saved-slot slot (Some mark) before now known apart changes =
    let same = first_blocks-same mark.0 mark.1 before now (λ block below. changes.others mark.0 block (apart mark refl)) in
    saved-at now (Some mark) (changes.same_mark ∙ known) ∙ ap Some same ∙ sym (saved-at before (Some mark) known)

-- a change of one block is a change of its slot
pub block_of_slot : (slot block : ℕ) (before now : Contents) → ChangesBlock slot block before now → ChangesSlot slot before now
block_of_slot slot block before now changes = record {
  same_mark = changes.same_mark;
  others = λ s b other. changes.others s b (λ same. absurd (other same));
}

-- a write changes one block
pub write_of_block : (slot block : ℕ) (bytes : List ℕ) (before : Contents) → ChangesBlock slot block before (with_block slot block bytes before)
write_of_block slot block bytes before = record { same_mark = refl; others = λ s b other. with_block-other slot block bytes before s b other }

-- a store whose other slots alone have changed has the mark that is known, and what was saved
pub kept-slot : (slot : ℕ) (marked : Option (ℕ × ℕ)) (holds now : Option Contents) → HasMark marked holds → IsElsewhere slot marked
    → Stands holds now (ChangesSlot slot) → HasMark marked now × Stands holds now (λ old new. saved new ≡ saved old)
kept-slot slot marked None now known apart stands = (rw stands tt, stands)
kept-slot slot marked (Some old) None known apart stands = absurd stands
kept-slot slot marked (Some old) (Some new) known apart stands = (stands.same_mark ∙ known, saved-slot slot marked old new known apart stands)

pub kept-block : (slot block : ℕ) (marked : Option (ℕ × ℕ)) (holds now : Option Contents) → HasMark marked holds → IsElsewhere slot marked
    → Stands holds now (ChangesBlock slot block) → HasMark marked now × Stands holds now (λ old new. saved new ≡ saved old)
kept-block slot block marked None now known apart stands = kept-slot slot marked None now known apart stands
kept-block slot block marked (Some old) None known apart stands = absurd stands
kept-block slot block marked (Some old) (Some new) known apart stands = kept-slot slot marked (Some old) (Some new) known apart (block_of_slot slot block old new stands)

-- the same of a write
pub kept-write : (slot block : ℕ) (bytes : List ℕ) (marked : Option (ℕ × ℕ)) (holds now : Option Contents) → HasMark marked holds → IsElsewhere slot marked
    → now ≡ option_map (with_block slot block bytes) holds → HasMark marked now × Stands holds now (λ old new. saved new ≡ saved old)
kept-write slot block bytes marked None now known apart written = kept-block slot block marked None now known apart written
kept-write slot block bytes marked (Some old) now known apart written =
    rw written (kept-block slot block marked (Some old) (Some (with_block slot block bytes old)) known apart (write_of_block slot block bytes old))

-- after the next block was written, one block more of the image stands in its slot
pub written-more : (image : Image) (holds now : Option Contents) → HasWritten image holds
    → now ≡ option_map (with_block image.slot image.written (block_of image.written image.bytes)) holds → HasWritten (advanced image) now
written-more image None now has written = rw written tt
written-more image (Some old) now has written = rw written (first_blocks-more image.slot image.written image.bytes old has)

-- where the whole image stands in its slot and is marked, it is what is saved
pub saved-marked : (image : Image) (holds now : Option Contents) → IsImage image.bytes → image.written ≡ block_count image.bytes → HasWritten image holds
    → now ≡ option_map (with_mark (Some (mark_of image))) holds → HasMark (Some (mark_of image)) now × Stands holds now (λ old new. saved new ≡ Some image.bytes)
saved-marked image None now whole all has marked = (rw marked tt, marked)
saved-marked image (Some old) now whole all has marked =
    let new = with_mark (Some (mark_of image)) old in
    let same = first_blocks-same image.slot (block_count image.bytes) old new (λ block below. refl) in
    let here : first_blocks image.slot (block_count image.bytes) old ≡ image.bytes =
    ap (λ (n : ℕ). first_blocks image.slot n old) (sym all) ∙ has ∙ ap (λ (n : ℕ). front n image.bytes) all ∙ front-all image.bytes whole in
    rw marked (refl, ap Some (same ∙ here))

-- one block more was read
pub loaded-more : (slot count : ℕ) (holds : Option Contents) (bytes block : List ℕ) → IfSome holds (λ contents. bytes ≡ first_blocks slot count contents)
    → ReadsBlock slot count holds block → IfSome holds (λ contents. bytes ++ block ≡ first_blocks slot (count + 1) contents)
loaded-more slot count None bytes block loaded read = tt
loaded-more slot count (Some contents) bytes block loaded read = rw (add-one, loaded, read) refl
