use Rattle.std.proofs.Common.{◌∙◌, sym, arith, w64}
use Rattle.std.proofs.lemmas.Int.{to_z-of_z}
use Rattle.dsm_base.specs.Family.{update}
use Rattle.dsm_lines.specs.LinePages.{pages_pieces, pages_memory}
use Rattle.dsm_lines.proofs.Cells.{is_line, stands, has_place}
use Rattle.dsm_lines.proofs.copy.OwnCopy.store.Goals as goal

pub set-requires : goal.set-requires
set-requires c = (stands (pages_pieces c.args.self.now.pages) c.args.cell.0 c.in-Some.place (sym c.place_of.ensures ∙ c.in-Some.is)).within

pub mark-requires : goal.mark-requires
mark-requires c =
    let there = stands (pages_pieces c.args.self.now.pages) c.args.cell.0 c.in-Some.place (sym c.place_of.ensures ∙ c.in-Some.is) in
    omega (arith, (is_line (pages_pieces c.args.self.now.pages) c.in-Some.place.line c.in-Some.place.at there.within).line_within, c.args.self.now.kept)

pub returns-in-Some-clause-memory : goal.returns-in-Some-clause-memory
returns-in-Some-clause-memory c =
    let there = stands (pages_pieces c.args.self.now.pages) c.args.cell.0 c.in-Some.place (sym c.place_of.ensures ∙ c.in-Some.is) in
    c.set.ensures.memory
    ∙ (λ i. update (pages_memory c.args.self.now.pages) (there.is i) (to_z-of_z w64 c.args.value c.ranges.value i))

pub returns-in_default-clause-memory : goal.returns-in_default-clause-memory
returns-in_default-clause-memory c =
    absurd
    (has_place (pages_pieces c.args.self.now.pages) c.args.cell.0 c.requires (λ place is. c.in_default.not-Some place (c.place_of.ensures ∙ is)))
