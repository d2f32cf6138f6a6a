use Rattle.std.proofs.Common.{◌≡◌, take}
use Rattle.std.specs.List.{flat_map}
use Rattle.dsm_lines.specs.Copies.{without}
use Rattle.dsm_lines.specs.Marks.{marks_in}
use Rattle.dsm_lines.specs.Places.{lines_of_span}
use Rattle.dsm_lines.proofs.marks.DirtyBits.unmark_all.Given as goal

-- the lines of the spans gone over aren't marked any longer
abbrev pub invariant-loop-span : goal.invariant-loop-span
invariant-loop-span l =
    record {
      left : marks_in l.self ≡ without (flat_map lines_of_span (take l.span-index l.spans)) (marks_in l.initial.self);
      same : l.self.lines ≡ l.initial.self.lines;
    }
