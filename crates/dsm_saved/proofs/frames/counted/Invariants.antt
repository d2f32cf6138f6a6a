use Rattle.std.proofs.Common.{◌≡◌, ◌-◌, None, length}
use Rattle.dsm_fields.specs.Reading.{numbered_at}
use Rattle.dsm_fields.proofs.Loops.{last_of, with_front}
use Rattle.dsm_saved.specs.Reading.{frame_at}
use Rattle.dsm_saved.proofs.frames.counted.Given as goal

-- what was read so far stands in front of what reading the rest gives
abbrev pub invariant-loop-number : goal.invariant-loop-number
invariant-loop-number l = record {
  read : with_front l.items.items (numbered_at (frame_at l.code l.waiting) l.number (last_of l.items.items) (l.count - l.number) l.rest) ≡ numbered_at (frame_at l.code l.waiting) 0 None l.count l.bytes;
  count : length l.items.items ≡ l.number;
}
