use Rattle.std.proofs.Common.{◌≡◌, drop}
use Rattle.dsm_lines.specs.Copies.{overlaid, stamped}
use Rattle.dsm_lines.specs.LineImages.{image_pieces, image_stamps, image_values}
use Rattle.dsm_lines.proofs.image.LineImage.apply.Given as goal

-- the rest of the lines, applied to what is there now, gives the whole
abbrev pub invariant-loop-line : goal.invariant-loop-line
invariant-loop-line l =
    record {
      stamps : stamped (image_stamps l.self) l.version (drop l.line-index l.line-items) ≡ stamped (image_stamps l.initial.self) l.version l.line-items;
      values : overlaid (image_pieces l.initial.self) (image_values l.self) (drop l.line-index l.line-items)
          ≡ overlaid (image_pieces l.initial.self) (image_values l.initial.self) l.line-items;
      pieces : image_pieces l.self ≡ image_pieces l.initial.self;
    }
