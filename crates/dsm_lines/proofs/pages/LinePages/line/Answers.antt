use Rattle.std.proofs.Common.{arith, length, ap}
use Rattle.std.proofs.lemmas.List.{length-map}
use Rattle.dsm_lines.specs.LinePages.{pages_pieces, pages_memory}
use Rattle.dsm_lines.specs.Places.{cells_in}
use Rattle.dsm_lines.proofs.Cells.{width_most}
use Rattle.dsm_lines.proofs.pages.LinePages.line.Goals as goal

pub from_slice-requires : goal.from_slice-requires
from_slice-requires c =
    omega (arith, ap length c.values.ensures, length-map (cells_in (pages_pieces c.args.self.now) c.args.number) (pages_memory c.args.self.now), width_most (pages_pieces c.args.self.now) c.args.number)
