use Rattle.std.proofs.Common.{Some, string_bytes}
use Rattle.std.proofs.lemmas.Result.{err_from_is_err_and}
use Rattle.dsm_command.specs.Commands.{run, check, plain}
use Rattle.dsm_top.proofs.Parts.{whole_part}
use Rattle.dsm_top.proofs.prepare.prepare.Goals as goal

pub returns-in_err-prepare_run-in-Run-clause-refused : goal.returns-in_err-prepare_run-in-Run-clause-refused
returns-in_err-prepare_run-in-Run-clause-refused g c =
    let p = err_from_is_err_and c.from_residual.result c.from_residual.ensures.1 in
    rw (c.in-Run.is, p.1, p.2) (c.in_err-prepare_run-in-Run.ensures.refused _
    (whole_part (Some (run (string_bytes c.in-Run.program) (string_bytes c.in-Run.schedule) c.in-Run.trace c.in-Run.state)) (g.F.Files.files_hold c.args.files.now) (g.F.Files.files_faults c.args.files.now) (g.F.Files.files_faults c.prepare_run.new.files)))

pub returns-in_ok-prepare_run-in-Run-clause-accepted : goal.returns-in_ok-prepare_run-in-Run-clause-accepted
returns-in_ok-prepare_run-in-Run-clause-accepted g c =
    rw (c.in-Run.is) (c.in_ok-prepare_run-in-Run.ensures.asked, c.in_ok-prepare_run-in-Run.ensures.accepted)

pub returns-in_err-prepare_check-in-Check-clause-refused : goal.returns-in_err-prepare_check-in-Check-clause-refused
returns-in_err-prepare_check-in-Check-clause-refused g c =
    let p = err_from_is_err_and c.from_residual-in_err-prepare_check-in-Check.result c.from_residual-in_err-prepare_check-in-Check.ensures.1 in
    rw (c.in-Check.is, p.1, p.2) (c.in_err-prepare_check-in-Check.ensures.refused _
    (whole_part (Some (check (string_bytes c.in-Check.program) c.in-Check.procs)) (g.F.Files.files_hold c.args.files.now) (g.F.Files.files_faults c.args.files.now) (g.F.Files.files_faults c.prepare_check.new.files)))

pub returns-in_err-prepare_plain-in-Plain-clause-refused : goal.returns-in_err-prepare_plain-in-Plain-clause-refused
returns-in_err-prepare_plain-in-Plain-clause-refused g c =
    let p = err_from_is_err_and c.from_residual-in_err-prepare_plain-in-Plain.result c.from_residual-in_err-prepare_plain-in-Plain.ensures.1 in
    rw (c.in-Plain.is, p.1, p.2) (c.in_err-prepare_plain-in-Plain.ensures.refused _
    (whole_part (Some (plain (string_bytes c.in-Plain.program) (string_bytes c.in-Plain.picks))) (g.F.Files.files_hold c.args.files.now) (g.F.Files.files_faults c.args.files.now) (g.F.Files.files_faults c.prepare_plain.new.files)))
