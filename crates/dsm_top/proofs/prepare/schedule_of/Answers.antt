use Rattle.std.proofs.Common.{◌≡◌, string_bytes, subst, Ok}
use Rattle.std.proofs.lemmas.Result.{err_from_is_err_and}
use Rattle.dsm_sched.specs.declared.schedule.Schedule.{Schedule}
use Rattle.dsm_sched.specs.Built.{built_said}
use Rattle.dsm_top.proofs.Parts.{unread_schedule}
use Rattle.dsm_top.proofs.Programs.{refuses_schedule}
use Rattle.dsm_top.proofs.prepare.schedule_of.Goals as goal

pub returns-in_err-text-clause-refused : goal.returns-in_err-text-clause-refused
returns-in_err-text-clause-refused g c =
    let p = err_from_is_err_and c.from_residual.result c.from_residual.ensures.1 in
    rw (p.1, p.2) (unread_schedule record { files = g.F.Files.files_hold c.args.files.now; before = g.F.Files.files_faults c.args.files.now; after = g.F.Files.files_faults c.read_text.new.files } (string_bytes c.args.name.now) c.in_err-text.field-0.0 c.in_err-text.ensures.failed)

pub returns-in_err-read_schedule-clause-refused : goal.returns-in_err-read_schedule-clause-refused
returns-in_err-read_schedule-clause-refused g c =
    let p = err_from_is_err_and c.from_residual-in_err-read_schedule.result c.from_residual-in_err-read_schedule.ensures.1 in
    rw (p.1, p.2)
    (refuses_schedule record { files = g.F.Files.files_hold c.args.files.now; before = g.F.Files.files_faults c.args.files.now; after = g.F.Files.files_faults c.read_text.new.files } (string_bytes c.args.name.now) c.as_slice.result.now c.in_ok-text.text.items c.as_slice.ensures.value (λ (schedule : Schedule). (schedule.procs, schedule.entries)) c.in_err-read_schedule.field-0.0 c.in_ok-text.ensures.text c.in_err-read_schedule.ensures.said)

pub returns-clause-schedule : goal.returns-clause-schedule
returns-clause-schedule g c =
    let schedule : Schedule = c.in_ok-read_schedule.field-0 in
    record {
      text = c.in_ok-text.text.items;
      is_read = c.in_ok-text.ensures.text;
      is_schedule = subst (λ text. built_said text ≡ Ok (schedule.procs, schedule.entries)) c.as_slice.ensures.value c.in_ok-read_schedule.ensures.said;
    }
