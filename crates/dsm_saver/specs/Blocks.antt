-- Images as blocks of 512 bytes.
use Rattle.std.specs.Prelude.{◌≡◌, ℕ, zero, suc, ◌*◌, ◌/◌, ◌%◌, ◌^◌, ◌<◌, List, [], ◌++◌, length, take, drop, replicate, Option}
use Rattle.std.specs.Option.{option_map}
use Rattle.dsm_base.specs.Store.{Contents}

-- how many blocks some bytes make
abbrev pub block_count : List ℕ → ℕ
block_count bytes = length bytes / 512

-- an image is one whole block or more
pub record IsImage (bytes : List ℕ) : Type 0 where
  pub some : 0 < length bytes
  pub whole : length bytes % 512 ≡ 0
  pub few : block_count bytes < 2 ^ 32

-- the bytes of an image in its first blocks
abbrev pub front : ℕ → List ℕ → List ℕ
front count bytes = take (count * 512) bytes

-- the bytes of one block of an image
abbrev pub block_of : ℕ → List ℕ → List ℕ
block_of block bytes = take 512 (drop (block * 512) bytes)

-- a block with only its first bytes, and zeros behind them
abbrev pub torn_after : ℕ → List ℕ → List ℕ
torn_after kept block = take kept block ++ drop kept (replicate 512 0)

-- the first blocks of a slot, one after the other
abbrev pub first_blocks : ℕ → ℕ → Contents → List ℕ
first_blocks slot zero contents = []
first_blocks slot (suc count) contents = first_blocks slot count contents ++ contents.blocks slot count

-- the image that is saved: the blocks that the mark names
abbrev pub saved : Contents → Option (List ℕ)
saved contents = option_map (λ mark. first_blocks mark.0 mark.1 contents) contents.mark
