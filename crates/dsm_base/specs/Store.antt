-- What stores of checkpoints hold, and what the calls of a store make of it.
use Rattle.std.specs.Prelude.{◌≡◌, ◌≢◌, ◌⊎◌, ℕ, ◌≤◌, ◌<◌, ◌&&◌, ◌==◌, if◌then◌else◌, List, length, Option, Some, None, IfSome, MatchOption, Result, MatchResult, OnOk}
use Rattle.std.specs.Option.{option_map, ForSome}
use Rattle.dsm_base.specs.declared.errors.Failed.{Failed}
use Rattle.dsm_base.specs.declared.errors.ReadErr.{ReadErr}

-- the blocks of each slot, and the mark: a slot and the number of its blocks that make the image
pub record Contents : Type 0 where
  pub blocks : ℕ → ℕ → List ℕ
  pub mark : Option (ℕ × ℕ)

-- a store has three slots
abbrev pub IsSlot : ℕ → Type 0
IsSlot slot = slot < 3

-- a block has 512 bytes
abbrev pub IsBlock : List ℕ → Type 0
IsBlock bytes = length bytes ≡ 512

-- a mark is a slot with at least one block
pub record IsMark (mark : ℕ × ℕ) : Type 0 where
  pub slot : IsSlot mark.0
  pub some : 1 ≤ mark.1

-- the contents with another mark
abbrev pub with_mark : Option (ℕ × ℕ) → Contents → Contents
with_mark mark contents = record contents { mark = mark }

-- the contents with the bytes of one block replaced
abbrev pub with_block : ℕ → ℕ → List ℕ → Contents → Contents
with_block slot block bytes contents = record contents {
  blocks = λ s b. if (s == slot) && (b == block) then bytes else contents.blocks s b;
}

-- where the store tells, the mark stands at another slot or nowhere
abbrev pub IsUnmarked : ℕ → Option Contents → Type 0
IsUnmarked slot holds = IfSome holds (λ contents. IfSome contents.mark (λ mark. mark.0 ≢ slot))

-- nothing is marked any more; after an error the mark stands as before or is gone
abbrev pub Clears : Option Contents → Option Contents → Result (Unit {0}) Failed → Type 0
Clears before now result = MatchResult result
    (λ _. now ≡ option_map (with_mark None) before)
    (λ _. (now ≡ before) ⊎ (now ≡ option_map (with_mark None) before))

-- the mark is this one; after an error it stands as before
abbrev pub Marks : ℕ × ℕ → Option Contents → Option Contents → Result (Unit {0}) Failed → Type 0
Marks mark before now result = MatchResult result
    (λ _. now ≡ option_map (with_mark (Some mark)) before)
    (λ _. now ≡ before)

-- nothing but the blocks of one slot may have changed
pub record ChangesSlot (slot : ℕ) (before now : Contents) : Type 0 where
  pub same_mark : now.mark ≡ before.mark
  pub others : (s block : ℕ) → s ≢ slot → now.blocks s block ≡ before.blocks s block

-- nothing but one block may have changed
pub record ChangesBlock (slot block : ℕ) (before now : Contents) : Type 0 where
  pub same_mark : now.mark ≡ before.mark
  pub others : (s b : ℕ) → (s ≡ slot → b ≢ block) → now.blocks s b ≡ before.blocks s b

-- a store that tells goes on telling, and stands so to what it held; one that doesn't tell never begins to
abbrev pub Stands : Option Contents → Option Contents → (Contents → Contents → Type 0) → Type 0
Stands before now relation = MatchOption before (now ≡ None) (λ old. MatchOption now ⊥ (λ new. relation old new))

-- after success the block has these bytes and nothing else has changed; after an error it may have any
abbrev pub Writes : ℕ → ℕ → List ℕ → Option Contents → Option Contents → Result (Unit {0}) Failed → Type 0
Writes slot block bytes before now result = MatchResult result
    (λ _. now ≡ option_map (with_block slot block bytes) before)
    (λ _. Stands before now (ChangesBlock slot block))

-- so many blocks of the slot can be written, and of the other slots as many as before
pub record MakesRoom (slot blocks : ℕ) (before now : ℕ → ℕ) (result : Result (Unit {0}) ReadErr) : Type 0 where
  pub others : (s : ℕ) → s ≢ slot → now s ≡ before s
  pub made : OnOk result (now slot ≡ blocks)

-- where the store tells, these are the block's bytes
abbrev pub ReadsBlock : ℕ → ℕ → Option Contents → List ℕ → Type 0
ReadsBlock slot block holds bytes = IfSome holds (λ contents. bytes ≡ contents.blocks slot block)

-- where the store tells, this is its mark
abbrev pub TellsMark : Option Contents → Option (ℕ × ℕ) → Type 0
TellsMark holds found = IfSome holds (λ contents. found ≡ contents.mark)

-- what was found is a mark, or none
abbrev pub IsMarkOrNone : Option (ℕ × ℕ) → Type 0
IsMarkOrNone found = ForSome found IsMark
