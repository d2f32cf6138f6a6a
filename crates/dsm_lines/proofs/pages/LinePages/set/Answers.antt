use Rattle.std.proofs.Common.{◌∙◌, ap, set, arith, w64}
use Rattle.std.specs.Prelude.{◌+◌, ◌*◌, ℤ, List}
use Rattle.std.proofs.lemmas.Int.{to_z-of_z}
use Rattle.dsm_lines.specs.Pages.{memory_in}
use Rattle.dsm_lines.proofs.Cells.{is_line}
use Rattle.dsm_lines.proofs.Paging.{on_pages, memory_set}
use Rattle.dsm_lines.proofs.pages.LinePages.set.Goals as goal

pub overflow_add-line : goal.overflow_add-line
overflow_add-line c = omega (arith, (is_line c.args.self.now.table.value c.args.line c.args.at c.requires).place_within)

pub set-requires : goal.set-requires
set-requires c = on_pages c.args.self.now.table.value c.args.self.now.values c.args.line c.args.at c.args.self.now.kept c.requires

pub returns-clause-memory : goal.returns-clause-memory
returns-clause-memory c =
    ap (λ (values : List ℤ). memory_in c.args.self.now.table.value values)
    (c.set.ensures ∙ ap (λ (value : ℤ). set c.args.self.now.values (8 * c.args.line + c.args.at) value) (to_z-of_z w64 c.args.value c.ranges.value))
    ∙ memory_set c.args.self.now.table.value c.args.self.now.values c.args.line c.args.at c.args.value c.args.self.now.kept c.requires
