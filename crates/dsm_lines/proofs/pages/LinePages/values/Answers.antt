use Rattle.std.proofs.Common.{◌≡◌, ◌≤◌, ◌∙◌, ap, arith, length, take, drop}
use Rattle.std.specs.Prelude.{◌+◌, ◌-◌, ◌*◌, List}
use Rattle.dsm_base.specs.declared.setup.Piece.{Piece}
use Rattle.dsm_lines.specs.Places.{cells_in}
use Rattle.dsm_lines.proofs.Cells.{width_most}
use Rattle.dsm_lines.proofs.Paging.{line_fits, values_of_line}
use Rattle.dsm_lines.proofs.pages.LinePages.values.Goals as goal

pub overflow_add-result : goal.overflow_add-result
overflow_add-result c = omega (arith, c.cells_in-width.ensures, width_most c.deref.result.now c.args.line)

pub slice_bounds-result-end-2 : goal.slice_bounds-result-end-2
slice_bounds-result-end-2 c =
    let wide : c.cells_in-width.result ≡ length (cells_in c.args.self.now.table.value c.args.line) =
    c.cells_in-width.ensures
    ∙ ap (λ (pieces : List Piece). length (cells_in pieces c.args.line)) c.deref.ensures in
    let fits : 8 * c.args.line + c.cells_in-width.result ≤ length c.as_slice.result.now =
    omega (arith, line_fits c.args.self.now.table.value c.args.self.now.values c.args.line c.cells_in-width.result c.args.self.now.kept wide c.if-width-eq0.false, ap length c.as_slice.ensures) in
    fits

pub returns : goal.returns
returns c =
    let wide : c.cells_in-width.result ≡ length (cells_in c.args.self.now.table.value c.args.line) =
    c.cells_in-width.ensures
    ∙ ap (λ (pieces : List Piece). length (cells_in pieces c.args.line)) c.deref.ensures in
    let count : 8 * c.args.line + c.cells_in-width.result - 8 * c.args.line ≡ c.cells_in-width.result = omega arith in
    (λ i. take (count i) (drop (8 * c.args.line) (c.as_slice.ensures i)))
    ∙ values_of_line c.args.self.now.table.value c.args.self.now.values c.args.line c.cells_in-width.result c.args.self.now.kept wide
    (line_fits c.args.self.now.table.value c.args.self.now.values c.args.line c.cells_in-width.result c.args.self.now.kept wide c.if-width-eq0.false)
