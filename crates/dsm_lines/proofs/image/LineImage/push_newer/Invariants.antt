use Rattle.std.proofs.Common.{◌≡◌, ◌≤◌, ◌+◌, ◌-◌, ◌++◌}
use Rattle.std.specs.Prelude.{nat_lt}
use Rattle.std.specs.List.{range_with_len}
use Rattle.dsm_lines.specs.Copies.{lines_among}
use Rattle.dsm_lines.specs.LineImages.{image_pieces, image_stamps, image_values}
use Rattle.dsm_lines.proofs.image.LineImage.push_newer.Given as goal

-- the newer lines gone over are listed
abbrev pub invariant-loop-line : goal.invariant-loop-line
invariant-loop-line l =
    record {
      listed : l.list
          ≡ l.initial.list ++ lines_among (image_pieces l.self) (λ line. nat_lt l.«have» (image_stamps l.self line)) (image_values l.self) (range_with_len l.fn.span.first (l.line - l.fn.span.first));
      within : l.line ≤ l.fn.span.first + l.fn.span.count;
    }
