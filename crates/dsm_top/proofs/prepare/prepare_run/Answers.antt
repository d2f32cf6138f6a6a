use Rattle.std.proofs.Common.{string_bytes, subst, sym, ◌∙◌}
use Rattle.std.proofs.lemmas.Result.{err_from_is_err_and}
use Rattle.dsm_check.specs.CheckedViews.{program_of}
use Rattle.dsm_top.specs.Accepted.{HasChecked, HasSchedule}
use Rattle.dsm_top.proofs.Parts.{run_program, run_schedule, run_owner, later_part}
use Rattle.dsm_top.proofs.prepare.prepare_run.Goals as goal

pub returns-in_err-found-clause-refused : goal.returns-in_err-found-clause-refused
returns-in_err-found-clause-refused g c =
    let p = err_from_is_err_and c.from_residual.result c.from_residual.ensures.1 in
    rw (p.1, p.2) (λ given part. run_program given (string_bytes c.args.program.now) (string_bytes c.args.schedule.now) c.in_err-found.field-0.0 (c.in_err-found.ensures.refused given part))

pub returns-in_err-schedule-clause-refused : goal.returns-in_err-schedule-clause-refused
returns-in_err-schedule-clause-refused g c =
    let p = err_from_is_err_and c.from_residual-in_err-schedule.result c.from_residual-in_err-schedule.ensures.1 in
    let found = program_of c.in_ok-found.found in
    let has : HasChecked (g.F.Files.files_hold c.args.files.now) (string_bytes c.args.program.now) found = c.in_ok-found.ensures.program in
    rw (p.1, p.2) (λ given part.
    run_schedule given (string_bytes c.args.program.now) (string_bytes c.args.schedule.now) found c.in_err-schedule.field-0.0
    (subst (λ files. HasChecked files (string_bytes c.args.program.now) found) (sym part.same) has)
    (c.in_err-schedule.ensures.refused given (later_part given (g.F.Files.files_hold c.args.files.now) (g.F.Files.files_hold c.checked_of.new.files) (g.F.Files.files_faults c.args.files.now) (g.F.Files.files_faults c.checked_of.new.files) (g.F.Files.files_faults c.schedule_of.new.files) c.checked_of.ensures.keeps part)))

pub returns-in_err-test_owners-clause-refused : goal.returns-in_err-test_owners-clause-refused
returns-in_err-test_owners-clause-refused g c =
    let p = err_from_is_err_and c.from_residual-in_err-test_owners.result c.from_residual-in_err-test_owners.ensures.1 in
    let found = program_of c.in_ok-found.found in
    let has : HasChecked (g.F.Files.files_hold c.args.files.now) (string_bytes c.args.program.now) found = c.in_ok-found.ensures.program in
    let schedule = c.in_ok-schedule.schedule in
    rw (p.1, p.2) (λ given part.
    run_owner given (string_bytes c.args.program.now) (string_bytes c.args.schedule.now) found schedule.procs schedule.entries c.in_err-test_owners.field-0.0
    (subst (λ files. HasChecked files (string_bytes c.args.program.now) found) (sym part.same) has)
    (subst (λ files. HasSchedule files (string_bytes c.args.schedule.now) schedule.procs schedule.entries) (c.checked_of.ensures.keeps.same ∙ sym part.same) c.in_ok-schedule.ensures.schedule) c.in_err-test_owners.ensures)

pub returns-clause-accepted : goal.returns-clause-accepted
returns-clause-accepted g c =
    let schedule = c.in_ok-schedule.schedule in
    record {
      has_program = record { has_program = c.in_ok-found.ensures.program; fits = c.in_ok-test_owners.ensures };
      has_schedule = subst (λ files. HasSchedule files (string_bytes c.args.schedule.now) schedule.procs schedule.entries) c.checked_of.ensures.keeps.same c.in_ok-schedule.ensures.schedule;
    }
