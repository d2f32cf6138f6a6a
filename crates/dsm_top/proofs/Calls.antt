-- What a refusal leaves.
use Rattle.std.specs.Prelude.{◌≡◌, ℕ, true, if◌then◌else◌, List, [], reverse, Option, Some, None}
use Rattle.std.proofs.Common.{refl, sym, ap, ◌∙◌, subst, inl, inr}
use Rattle.dsm_base.specs.Causes.{Rose, IfFailed}
use Rattle.dsm_base.specs.declared.errors.ReadErr.{ReadErr}
use Rattle.dsm_base.specs.Sink.{appended, TakesPart}
use Rattle.dsm_top.specs.declared.status.Status.{Status}
use Rattle.dsm_top.specs.declared.status.Report.{Report}
use Rattle.dsm_top.specs.declared.prepare.Prepared.{Prepared}
use Rattle.dsm_top.specs.declared.prepare.ScheduledRun.{ScheduledRun}
use Rattle.dsm_top.specs.declared.prepare.PickRun.{PickRun}
use Rattle.dsm_check.specs.CheckedViews.{program_of}
use Rattle.dsm_sched.specs.PickTexts.{picked}
use Rattle.dsm_sched.specs.ScheduleTexts.{units_of}
use Rattle.dsm_check.specs.Programs.{Program}
use Rattle.dsm_command.specs.Commands.{Command, run, check, plain, load}
use Rattle.dsm_top.specs.Messages.{message_of, message_line, refusal_text, is_refusal}
use Rattle.dsm_top.specs.Refusals.{Given, RefusesSchedule, RefusesProgram, RefusesPicks, RefusesOwner, RefusesCommand, Refuses, RefusesOrMemory}
use Rattle.dsm_top.specs.Prepared.{IsPrepared}
use Rattle.dsm_top.specs.PlainRuns.{IsPicked}
use Rattle.dsm_top.specs.Runs.{IsScheduled}
use Rattle.dsm_top.specs.Statuses.{status_of_write}
use Rattle.dsm_top.specs.Ended.{Left, Whole, Tells, ok_line, Ran, RanPlain, Refused, EndedCommand, Ended}

-- a refusal that is no want of memory has a cause
refuses : (given : Given) (status : Status) → (status ≡ Status.Memory → ⊥) → RefusesOrMemory given status → Refuses given status
refuses given Status.Done not_memory is = is
refuses given Status.Stopped not_memory is = is
refuses given Status.Unfinished not_memory is = is
refuses given (Status.ProgramRefused error) not_memory is = is
refuses given (Status.ScheduleRefused error) not_memory is = is
refuses given Status.WordsRefused not_memory is = is
refuses given (Status.ReadFault file) not_memory is = is
refuses given Status.WriteFault not_memory is = is
refuses given Status.Memory not_memory is = absurd (not_memory refl)

-- What refuses is a refusal.

only_schedule : (given : Given) (name : List ℕ) (status : Status) → RefusesSchedule given name status → is_refusal status ≡ true
only_schedule given name (Status.ScheduleRefused error) is = refl
only_schedule given name (Status.ReadFault file) is = refl
only_schedule given name _ is = absurd is

only_program : (given : Given) (name : List ℕ) (status : Status) → RefusesProgram given name status → is_refusal status ≡ true
only_program given name (Status.ProgramRefused error) is = refl
only_program given name (Status.ReadFault file) is = refl
only_program given name _ is = absurd is

only_picks : (given : Given) (name : List ℕ) (status : Status) → RefusesPicks given name status → is_refusal status ≡ true
only_picks given name (Status.ScheduleRefused error) is = refl
only_picks given name (Status.ReadFault file) is = refl
only_picks given name _ is = absurd is

only_owner : (program : Program) (procs : ℕ) (status : Status) → RefusesOwner program procs status → is_refusal status ≡ true
only_owner program procs (Status.ProgramRefused error) is = refl
only_owner program procs _ is = absurd is

only_command : (given : Given) (status : Status) (command : Option Command) → RefusesCommand given status command → is_refusal status ≡ true
only_command given status None is = ap is_refusal is
only_command given status (Some (run program schedule trace state)) (inl is) = only_program given program status is
only_command given status (Some (run program schedule trace state)) (inr (inl is)) = only_schedule given schedule status is.refused
only_command given status (Some (run program schedule trace state)) (inr (inr is)) = only_owner is.refused.found is.procs status is.refused.refused
only_command given status (Some (load seed)) is = ap is_refusal is
only_command given status (Some (check program procs)) (inl is) = only_program given program status is
only_command given status (Some (check program procs)) (inr is) = only_owner is.found procs status is.refused
only_command given status (Some (plain program picks)) (inl is) = only_program given program status is
only_command given status (Some (plain program picks)) (inr (inl is)) = only_picks given picks status is.refused
only_command given status (Some (plain program picks)) (inr (inr is)) = only_owner is.refused.found is.procs status is.refused.refused

refusal : (given : Given) (status : Status) → Refuses given status → is_refusal status ≡ true
refusal given status is = only_command given status given.command is

-- it has a message
has_message : (given : Given) (status : Status) → Refuses given status → message_of given.command status ≡ message_line (refusal_text given.command status)
has_message given status is = ap (λ refused. if refused then message_line (refusal_text given.command status) else []) (refusal given status is)

-- a line that was due with a status that refuses is written whole
told_whole : (line : List ℕ) (left : Left) (status : Status) → is_refusal status ≡ true → Whole left line → Tells line status left status
told_whole line left Status.WriteFault refuses wrote = absurd (cc)
told_whole line left Status.Memory refuses wrote = absurd (cc)
told_whole line left _ refuses wrote = (refl, wrote)

-- a report of a call that ran nothing
abbrev untraced : Status → Report
untraced status = record { status = status; trace = []; units = 0 }

-- nothing ran: memory ran out before anything was written
pub refused_silent : (given : Given) (before after : Option (List ℕ)) (faults_before faults_after : ℕ) (report : Report) (status : Status) → report ≡ record { status = status; trace = []; units = 0 } → status ≡ Status.Memory → after ≡ before →
    Refused given record { before = before; after = after; faults_before = faults_before; faults_after = faults_after; trace = reverse report.trace; units = report.units } report.status
refused_silent given before after faults_before faults_after report status made is nothing =
    subst (λ (one : Report). Refused given record { before = before; after = after; faults_before = faults_before; faults_after = faults_after; trace = reverse one.trace; units = one.units } one.status) (sym made)
    record { no_trace = refl; no_units = refl; refused = inr record { is_memory = is; nothing = nothing } }

-- nothing ran, and this line was put
module _ (given : Given) (before after : Option (List ℕ)) (faults_before faults_after : ℕ) (status : Status) (not_memory : status ≡ Status.Memory → ⊥) (is : RefusesOrMemory given status)
    (command : Option Command) (same : given.command ≡ command) (line : List ℕ) (message : line ≡ message_line (refusal_text command status)) where
  cause : Refuses given status
  cause = refuses given status not_memory is

  is_message : line ≡ message_of given.command status
  is_message = message ∙ (ap (λ one. message_line (refusal_text one status)) (sym same) ∙ sym (has_message given status cause))

  answered : (report : Report) (answer : Status) → report ≡ record { status = answer; trace = []; units = 0 } →
      Tells (message_of given.command status) status record { before = before; after = after; faults_before = faults_before; faults_after = faults_after; trace = []; units = 0 } answer →
      Refused given record { before = before; after = after; faults_before = faults_before; faults_after = faults_after; trace = reverse report.trace; units = report.units } report.status
  answered report answer made tells =
      subst (λ (one : Report). Refused given record { before = before; after = after; faults_before = faults_before; faults_after = faults_after; trace = reverse one.trace; units = one.units } one.status) (sym made)
      record { no_trace = refl; no_units = refl; refused = inl record { due = status; cause = cause; tells = tells } }

  pub refused_whole : (report : Report) → report ≡ record { status = status; trace = []; units = 0 } → after ≡ appended before line →
      Refused given record { before = before; after = after; faults_before = faults_before; faults_after = faults_after; trace = reverse report.trace; units = report.units } report.status
  refused_whole report made wrote = answered report status made (told_whole _ _ status (refusal given status cause) (wrote ∙ ap (appended before) is_message))

  cut_tells : (error : ReadErr) → TakesPart before after line → IfFailed error (Rose faults_before faults_after) →
      Tells (message_of given.command status) status record { before = before; after = after; faults_before = faults_before; faults_after = faults_after; trace = []; units = 0 } (status_of_write error)
  cut_tells ReadErr.Failed part rose = record { part = subst (TakesPart before after) is_message part; rose = rose }
  cut_tells ReadErr.Memory part rose = subst (TakesPart before after) is_message part

  pub refused_cut : (report : Report) (answer : Status) (error : ReadErr) → report ≡ record { status = answer; trace = []; units = 0 } → answer ≡ status_of_write error → TakesPart before after line → IfFailed error (Rose faults_before faults_after) →
      Refused given record { before = before; after = after; faults_before = faults_before; faults_after = faults_after; trace = reverse report.trace; units = report.units } report.status
  refused_cut report answer error made named part rose = answered report (status_of_write error) (made ∙ ap untraced named) (cut_tells error part rose)

-- What a command that was prepared leaves.

command_run : (given : Given) (prepared : ScheduledRun) (left : Left) (status : Status) (command : Option Command) → IsPrepared given.files command (Prepared.Run prepared)
    → Ran (program_of prepared.program) prepared.schedule.procs (units_of prepared.schedule) prepared.asked left status → EndedCommand given left status command
command_run given prepared left status (Some (run program schedule trace state)) is ran = record {
  found = program_of prepared.program;
  procs = prepared.schedule.procs;
  entries = prepared.schedule.entries;
  accepted = is.1;
  ran = subst (λ asked. Ran (program_of prepared.program) prepared.schedule.procs (units_of prepared.schedule) asked left status) is.0 ran;
}
command_run given prepared left status _ is ran = absurd is

-- memory ran out before the first unit, or units were applied
pub ended_run : (given : Given) (prepared : ScheduledRun) (left : Left) (status : Status) → IsPrepared given.files given.command (Prepared.Run prepared) → IsScheduled prepared left status → Ended given left status
ended_run given prepared left status is (inl none) = inl record { no_trace = none.1; no_units = none.2; refused = inr none.0 }
ended_run given prepared left status is (inr ran) = inr (command_run given prepared left status given.command is ran)

command_check : (given : Given) (left : Left) (status : Status) (command : Option Command) → IsPrepared given.files command Prepared.Check → left.trace ≡ [] → left.units ≡ 0 → Tells ok_line Status.Done left status → EndedCommand given left status command
command_check given left status (Some (check program procs)) is no_trace no_units checked =
    record { found = is.0; accepted = is.1; no_trace = no_trace; no_units = no_units; tells = checked }
command_check given left status _ is no_trace no_units checked = absurd is

pub ended_check : (given : Given) (left : Left) (status : Status) → IsPrepared given.files given.command Prepared.Check → left.trace ≡ [] → left.units ≡ 0 → Tells ok_line Status.Done left status → Ended given left status
ended_check given left status is no_trace no_units checked = inr (command_check given left status given.command is no_trace no_units checked)

command_plain : (given : Given) (prepared : PickRun) (left : Left) (status : Status) (command : Option Command) → IsPrepared given.files command (Prepared.Plain prepared) → left.trace ≡ []
    → RanPlain (program_of prepared.program) prepared.picks.procs (picked prepared.picks) left status → EndedCommand given left status command
command_plain given prepared left status (Some (plain program picks)) is no_trace ran = record {
  found = program_of prepared.program;
  procs = prepared.picks.procs;
  entries = prepared.picks.entries;
  accepted = is.0;
  has_picks = is.1;
  no_trace = no_trace;
  ran = ran;
}
command_plain given prepared left status _ is no_trace ran = absurd is

-- memory ran out before the first pick, or picks were applied
pub ended_plain : (given : Given) (prepared : PickRun) (left : Left) (status : Status) → IsPrepared given.files given.command (Prepared.Plain prepared) → left.trace ≡ []
    → IsPicked prepared left status → Ended given left status
ended_plain given prepared left status is no_trace (inl none) =
    inl record { no_trace = no_trace; no_units = none.1; refused = inr none.0 }
ended_plain given prepared left status is no_trace (inr ran) = inr (command_plain given prepared left status given.command is no_trace ran)
