use Rattle.std.proofs.Common.{◌≡◌, ◌∙◌, pos, List, Some, length, get_or, sym, ap, arith, rules}
use Rattle.dsm_base.specs.declared.setup.Piece.{Piece}
use Rattle.dsm_lines.specs.Places.{place_of}
use Rattle.dsm_home.specs.Homes.{home_state, home_pieces}
use Rattle.dsm_processor.proofs.Values.{place_within, value_there}
use Rattle.dsm_processor.proofs.node.Node.home_value.Goals as goal

pub bounds-values-from : goal.bounds-values-from
bounds-values-from g c =
    let pieces = home_pieces c.args.self.now.home in
    let memory = (home_state c.args.self.now.home).values in
    let table : c.deref.result.now ≡ pieces = c.deref.ensures ∙ c.requires.table ∙ sym c.requires.lines in
    let placed : place_of pieces c.args.cell.0 ≡ Some c.in-Some.place =
    ap (λ (pieces : List Piece). place_of pieces c.args.cell.0) (sym table) ∙ sym c.place_of.ensures ∙ c.in-Some.is in
    omega (arith, place_within pieces memory c.args.cell.0 c.in-Some.place placed, ap length c.values.ensures, c.from.ensures)

pub returns-in-Some : goal.returns-in-Some
returns-in-Some g c =
    let pieces = home_pieces c.args.self.now.home in
    let memory = (home_state c.args.self.now.home).values in
    let table : c.deref.result.now ≡ pieces = c.deref.ensures ∙ c.requires.table ∙ sym c.requires.lines in
    let placed : place_of pieces c.args.cell.0 ≡ Some c.in-Some.place =
    ap (λ (pieces : List Piece). place_of pieces c.args.cell.0) (sym table) ∙ sym c.place_of.ensures ∙ c.in-Some.is in
    let value : get_or c.values.result.now c.from.result (pos 0) ≡ memory c.args.cell.0 =
    (λ i. get_or (c.values.ensures i) (c.from.ensures i) (pos 0)) ∙ value_there pieces memory c.args.cell.0 c.in-Some.place placed in
    search rules ∙ value
