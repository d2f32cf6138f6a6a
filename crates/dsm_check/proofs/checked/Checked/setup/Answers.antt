use Rattle.std.proofs.Common.{List, sym, subst, ◌∙◌}
use Rattle.std.specs.Prelude.{IsTrue}
use Rattle.dsm_base.specs.declared.setup.Piece.{Piece}
use Rattle.dsm_base.specs.Setups.{is_setup}
use Rattle.dsm_check.specs.CheckedViews.{program_of}
use Rattle.dsm_check.proofs.Settings.{setting}
use Rattle.dsm_check.proofs.checked.Checked.setup.Goals as goal

pub invariant_of-result : goal.invariant_of-result
invariant_of-result c =
    let checked = c.args.self.now in
    let P : List Piece → Type 0 = λ pieces. IsTrue (is_setup c.args.procs checked.locks checked.barriers checked.shared_cells pieces) in
    record { kept = subst P (sym (c.in_ok-from_slice.ensures ∙ c.as_slice.ensures)) (setting (program_of checked) c.args.procs checked.names.numbered c.requires checked.accepted) }
