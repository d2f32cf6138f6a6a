use Rattle.std.proofs.Common.{◌≡◌, None, drop}
use Rattle.dsm_fields.proofs.Loops.{last_of, with_front}
use Rattle.dsm_image_parts.specs.Keys.{each_at}
use Rattle.dsm_image_parts.proofs.part.each.Given as goal

-- what was read so far stands in front of what reading for the other keys gives
abbrev pub invariant-loop-key : goal.invariant-loop-key
invariant-loop-key g l =
    with_front l.items.items (each_at (λ (key : g.row.Of.Denot). g.T.Part.part_at l.scope key 0) (last_of l.items.items) (drop l.key-index l.keys) l.rest)
    ≡ each_at (λ (key : g.row.Of.Denot). g.T.Part.part_at l.scope key 0) None l.keys l.bytes
