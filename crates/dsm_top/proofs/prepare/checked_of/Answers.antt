use Rattle.std.proofs.Common.{string_bytes, subst}
use Rattle.std.proofs.lemmas.Result.{err_from_is_err_and}
use Rattle.dsm_check.specs.CheckedViews.{program_of}
use Rattle.dsm_top.specs.Accepted.{IsChecked}
use Rattle.dsm_top.proofs.Parts.{unread_program}
use Rattle.dsm_top.proofs.Programs.{refuses_program}
use Rattle.dsm_top.proofs.prepare.checked_of.Goals as goal

pub returns-in_err-text-clause-refused : goal.returns-in_err-text-clause-refused
returns-in_err-text-clause-refused g c =
    let p = err_from_is_err_and c.from_residual.result c.from_residual.ensures.1 in
    rw (p.1, p.2) (unread_program record { files = g.F.Files.files_hold c.args.files.now; before = g.F.Files.files_faults c.args.files.now; after = g.F.Files.files_faults c.read_text.new.files } (string_bytes c.args.name.now) c.in_err-text.field-0.0 c.in_err-text.ensures.failed)

pub returns-in_err-read_checked-clause-refused : goal.returns-in_err-read_checked-clause-refused
returns-in_err-read_checked-clause-refused g c =
    let p = err_from_is_err_and c.from_residual-in_err-read_checked.result c.from_residual-in_err-read_checked.ensures.1 in
    rw (p.1, p.2)
    (refuses_program record { files = g.F.Files.files_hold c.args.files.now; before = g.F.Files.files_faults c.args.files.now; after = g.F.Files.files_faults c.read_text.new.files } (string_bytes c.args.name.now) c.as_slice.result.now c.in_ok-text.text.items c.as_slice.ensures.value c.in_err-read_checked.field-0.0 c.in_ok-text.ensures.text c.in_err-read_checked.ensures)

pub returns-clause-program : goal.returns-clause-program
returns-clause-program g c = record {
  text = c.in_ok-text.text.items;
  is_read = c.in_ok-text.ensures.text;
  is_program = subst (λ text. IsChecked text (program_of c.in_ok-read_checked.field-0)) c.as_slice.ensures.value c.in_ok-read_checked.ensures;
}
