use Rattle.std.proofs.Common.{arith}
use Rattle.dsm_lines.proofs.Cells.{width_most}
use Rattle.dsm_image_parts.proofs.homes.SavedLinePartU32.read.Goals as goal

pub overflow_cast-width : goal.overflow_cast-width
overflow_cast-width c = omega (arith, c.cells_in-width.ensures, width_most c.args.scope.now.table c.args.line)
