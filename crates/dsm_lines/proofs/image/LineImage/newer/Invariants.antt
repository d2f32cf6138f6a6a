use Rattle.std.proofs.Common.{◌≡◌, take}
use Rattle.std.specs.Prelude.{nat_lt}
use Rattle.std.specs.List.{flat_map}
use Rattle.dsm_lines.specs.Places.{lines_of_span}
use Rattle.dsm_lines.specs.Copies.{lines_among}
use Rattle.dsm_lines.specs.LineImages.{image_pieces, image_stamps, image_values}
use Rattle.dsm_lines.proofs.image.LineImage.newer.Given as goal

-- the newer lines of the spans gone over are listed
abbrev pub invariant-loop-span : goal.invariant-loop-span
invariant-loop-span l =
    l.list ≡ lines_among (image_pieces l.self) (λ line. nat_lt l.«have» (image_stamps l.self line)) (image_values l.self) (flat_map lines_of_span (take l.span-index l.span-items))
