use Rattle.std.proofs.Common.{◌≡◌, take}
use Rattle.std.specs.List.{flat_map}
use Rattle.dsm_lines.specs.Places.{lines_of_span}
use Rattle.dsm_image_parts.proofs.keys.lines_of_lock.Given as goal

-- the lines of the spans gone over are listed
abbrev pub invariant-loop-span : goal.invariant-loop-span
invariant-loop-span l = l.lines.items ≡ flat_map lines_of_span (take l.span-index l.span-items)
