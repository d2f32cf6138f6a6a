-- Blocks of a slot, one after the other.
use Rattle.std.proofs.Common.{◌≡◌, ◌≢◌, ℕ, zero, suc, ◌+◌, ◌*◌, ◌/◌, ◌<◌, List, ◌++◌, length, take, drop, refl, sym, ◌∙◌, ap, inl, inr, arith, add-one}
use Rattle.std.proofs.Math.Seq.{take-add, take-length}
use Rattle.std.proofs.lemmas.Bool.{eq-eqb}
use Rattle.std.proofs.lemmas.Bool.Decides.{eqb_tells}
use Rattle.dsm_base.specs.Store.{Contents, with_block}
use Rattle.dsm_saver.specs.Blocks.{IsImage, block_count, front, block_of, first_blocks}

-- only the blocks below their number count
pub first_blocks-same : (slot count : ℕ) (before now : Contents) → ((block : ℕ) → block < count → now.blocks slot block ≡ before.blocks slot block)
    → first_blocks slot count now ≡ first_blocks slot count before
first_blocks-same slot zero before now same = refl
first_blocks-same slot (suc count) before now same =
    let rest = first_blocks-same slot count before now (λ block below. same block (omega arith)) in
    let last = same count (omega arith) in
    rw (rest, last) refl

-- a write leaves the other blocks
pub with_block-other : (slot block : ℕ) (bytes : List ℕ) (before : Contents) (s b : ℕ) → (s ≡ slot → b ≢ block)
    → (with_block slot block bytes before).blocks s b ≡ before.blocks s b
with_block-other slot block bytes before s b other =
    elim (eqb_tells s slot) [
      | inl same ↦ elim (eqb_tells b block) [ inl both ↦ absurd (other same.1 both.1) | inr apart ↦ rw (same.0, apart.0) refl ]
      | inr apart ↦ rw apart.0 refl
    ]

-- and the written one has its bytes
pub with_block-same : (slot block : ℕ) (bytes : List ℕ) (before : Contents) → (with_block slot block bytes before).blocks slot block ≡ bytes
with_block-same slot block bytes before = rw (eq-eqb slot slot refl, eq-eqb block block refl) refl

-- one block more of an image
pub front-more : (count : ℕ) (bytes : List ℕ) → front (count + 1) bytes ≡ front count bytes ++ block_of count bytes
front-more count bytes =
    let more : (count + 1) * 512 ≡ count * 512 + 512 = omega arith in
    rw more (take-add (count * 512) 512 bytes)

-- all blocks of an image
pub front-all : (bytes : List ℕ) → IsImage bytes → front (block_count bytes) bytes ≡ bytes
front-all bytes image =
    let all : length bytes / 512 * 512 ≡ length bytes = omega (arith, image.whole) in
    rw all (take-length bytes)

-- where the first blocks stand as the front of an image, and the next one is written, one block more does
pub first_blocks-more : (slot count : ℕ) (bytes : List ℕ) (before : Contents) → first_blocks slot count before ≡ front count bytes
    → first_blocks slot (count + 1) (with_block slot count (block_of count bytes) before) ≡ front (count + 1) bytes
first_blocks-more slot count bytes before written =
    let now = with_block slot count (block_of count bytes) before in
    let same : first_blocks slot count now ≡ first_blocks slot count before =
    first_blocks-same slot count before now (λ block below. with_block-other slot count (block_of count bytes) before slot block (λ _. omega arith)) in
    let last : now.blocks slot count ≡ block_of count bytes = with_block-same slot count (block_of count bytes) before in
    let all : first_blocks slot (suc count) now ≡ front count bytes ++ block_of count bytes =
    ap (λ (xs : List ℕ). xs ++ now.blocks slot count) (same ∙ written) ∙ ap (λ (xs : List ℕ). front count bytes ++ xs) last in
    ap (λ (n : ℕ). first_blocks slot n now) (add-one count) ∙ all ∙ sym (front-more count bytes)
