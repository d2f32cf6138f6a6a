use Rattle.std.proofs.Common.{◌<◌, ◌∙◌, sym, subst}
use Rattle.dsm_check.specs.CheckedViews.{program_of}
use Rattle.dsm_semantics.specs.Within.{extent_in, NamesWithin}
use Rattle.dsm_plain.proofs.Completions.{want_is_within}
use Rattle.dsm_plain.proofs.machine.Plain.label.Goals as goal

-- a cell that a thread wants is one of the setup
pub piece_of-piece-requires-clause-within : goal.piece_of-piece-requires-clause-within
piece_of-piece-requires-clause-within c =
    let plain = c.args.self.now in
    subst (λ n. c.in-Load.cell.0 < n) (sym c.requires.whole.is_setup.cells)
    (subst (NamesWithin (extent_in (program_of plain.checked.now))) (sym c.requires.want ∙ c.in-Load.is) (want_is_within plain c.requires.whole c.args.proc.0 c.requires.processor))

pub piece_of-piece-requires-in-Store-clause-within : goal.piece_of-piece-requires-in-Store-clause-within
piece_of-piece-requires-in-Store-clause-within c =
    let plain = c.args.self.now in
    subst (λ n. c.in-Store.cell.0 < n) (sym c.requires.whole.is_setup.cells)
    (subst (NamesWithin (extent_in (program_of plain.checked.now))) (sym c.requires.want ∙ c.in-Store.is) (want_is_within plain c.requires.whole c.args.proc.0 c.requires.processor))
