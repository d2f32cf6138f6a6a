use Rattle.std.proofs.Common.{◌≡◌, take}
use Rattle.std.specs.List.{flat_map}
use Rattle.dsm_lines.specs.Places.{lines_of_span}
use Rattle.dsm_lines.specs.Copies.{lines_among}
use Rattle.dsm_lines.specs.OwnCopies.{copy_pieces, copy_memory, copy_marks}
use Rattle.dsm_lines.proofs.copy.OwnCopy.dirty_lines.Given as goal

-- the marked lines of the spans gone over are listed
abbrev pub invariant-loop-span : goal.invariant-loop-span
invariant-loop-span l =
    l.list ≡ lines_among (copy_pieces l.self) (copy_marks l.self) (copy_memory l.self) (flat_map lines_of_span (take l.span-index l.span-items))
