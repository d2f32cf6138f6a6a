use Rattle.std.proofs.Common.{◌∙◌, sym, ap, arith, length}
use Rattle.std.specs.Prelude.{List}
use Rattle.dsm_base.specs.declared.setup.Piece.{Piece}
use Rattle.dsm_lines.specs.Places.{place_of}
use Rattle.dsm_lines.proofs.Cells.{stands}
use Rattle.dsm_lines.proofs.Paging.{on_pages}
use Rattle.dsm_lines.proofs.pages.LinePages.load.Goals as goal

pub bounds-as_slice-place : goal.bounds-as_slice-place
bounds-as_slice-place c =
    let there = stands c.args.self.now.table.value c.args.cell.0 c.in-Some.place
    (ap (λ (pieces : List Piece). place_of pieces c.args.cell.0) (sym c.deref.ensures) ∙ sym c.place_of.ensures ∙ c.in-Some.is) in
    omega (arith, on_pages c.args.self.now.table.value c.args.self.now.values c.in-Some.place.line c.in-Some.place.at c.args.self.now.kept there.within, ap length c.as_slice.ensures)
