use Rattle.std.proofs.Common.{string_bytes}
use Rattle.std.proofs.lemmas.Result.{err_from_is_err_and}
use Rattle.dsm_sched.specs.declared.picks.Picks.{Picks}
use Rattle.dsm_top.proofs.Parts.{unread_picks}
use Rattle.dsm_top.proofs.Programs.{refuses_picks}
use Rattle.dsm_top.proofs.prepare.picks_of.Goals as goal

pub returns-in_err-text-clause-refused : goal.returns-in_err-text-clause-refused
returns-in_err-text-clause-refused g c =
    let p = err_from_is_err_and c.from_residual.result c.from_residual.ensures.1 in
    rw (p.1, p.2) (unread_picks record { files = g.F.Files.files_hold c.args.files.now; before = g.F.Files.files_faults c.args.files.now; after = g.F.Files.files_faults c.read_text.new.files } (string_bytes c.args.name.now) c.in_err-text.field-0.0 c.in_err-text.ensures.failed)

pub returns-in_err-read_picks-clause-refused : goal.returns-in_err-read_picks-clause-refused
returns-in_err-read_picks-clause-refused g c =
    let p = err_from_is_err_and c.from_residual-in_err-read_picks.result c.from_residual-in_err-read_picks.ensures.1 in
    rw (p.1, p.2)
    (refuses_picks record { files = g.F.Files.files_hold c.args.files.now; before = g.F.Files.files_faults c.args.files.now; after = g.F.Files.files_faults c.read_text.new.files } (string_bytes c.args.name.now) c.as_slice.result.now c.in_ok-text.text.items c.as_slice.ensures.value (λ (picks : Picks). (picks.procs, picks.entries)) c.in_err-read_picks.field-0.0 c.in_ok-text.ensures.text c.in_err-read_picks.ensures)
