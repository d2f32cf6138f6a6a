use Rattle.std.proofs.Common.{◌≡◌, ◌-◌, None}
use Rattle.dsm_fields.specs.Reading.{numbered_at}
use Rattle.dsm_fields.proofs.Loops.{last_of, with_front}
use Rattle.dsm_saved.specs.Reading.{value_at}
use Rattle.dsm_saved.proofs.values.values.Given as goal

-- what was read so far stands in front of what reading the rest gives
abbrev pub invariant-loop-number : goal.invariant-loop-number
invariant-loop-number l =
    with_front l.items.items (numbered_at (value_at l.row l.count) l.number (last_of l.items.items) (l.count - l.number) l.rest)
    ≡ numbered_at (value_at l.row l.count) 0 None l.count l.bytes
