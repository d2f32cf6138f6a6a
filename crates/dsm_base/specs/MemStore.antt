-- What a store in memory holds.
use Rattle.std.specs.Prelude.{ℕ, zero, suc, List, [], length, replicate, get_or, Option}
use Rattle.dsm_base.specs.Store.{Contents}

-- the three slots, each with its blocks
pub record Slots : Type 0 where
  pub first : List (List ℕ)
  pub second : List (List ℕ)
  pub third : List (List ℕ)

-- the blocks of a slot by its number
abbrev pub blocks_of : Slots → ℕ → List (List ℕ)
blocks_of slots zero = slots.first
blocks_of slots (suc zero) = slots.second
blocks_of slots (suc (suc zero)) = slots.third
blocks_of slots (suc (suc (suc slot))) = []

-- a block that isn't there reads as zeros
abbrev pub held_by : Slots → Option (ℕ × ℕ) → Contents
held_by slots mark = record {
  blocks = λ slot block. get_or (blocks_of slots slot) block (replicate 512 0);
  mark = mark;
}

-- how many blocks room was made for
abbrev pub room_of : Slots → ℕ → ℕ
room_of slots slot = length (blocks_of slots slot)
