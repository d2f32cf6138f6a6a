use Rattle.std.proofs.Common.{◌≡◌, ◌∷◌, ◌++◌, [], reverse, ap, ◌∙◌}
use Rattle.dsm_code.specs.declared.instruction.Instr.{Instr}
use Rattle.dsm_laws_code.specs.Instructions.{row}
use Rattle.dsm_compile.proofs.Writing.{jump_set}
use Rattle.dsm_compile.proofs.writer.Writer.set_back.Goals as goal

-- the jump is the row behind which, from the end on, so many were written
pub returns : goal.returns
returns c part rest long was =
    let old = row 0 (Instr.GoBack 0) in
    let new = row 0 (Instr.GoBack c.args.count) in
    let before : reverse c.self.inside.rows.items ≡ (part ++ (old ∷ [])) ++ rest = ap (λ d. d.rows) (c.self.view_is ∙ was) in
    let rows : reverse c.set_row.new.rows.items ≡ (part ++ (new ∷ [])) ++ rest =
    ap reverse c.set_row.ensures ∙ jump_set c.self.inside.rows.items part rest old new c.args.len long before in
    λ i. record { pieces = (c.self.view_is i).pieces; rows = rows i; prints = (c.self.view_is i).prints }
