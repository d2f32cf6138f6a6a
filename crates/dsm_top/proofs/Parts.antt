-- What the refusal of a part is for the whole call.
use Rattle.std.specs.Prelude.{◌≤◌, ℕ, List, Option}
use Rattle.std.proofs.Common.{refl, sym, ◌∙◌, subst, arith, inl, inr}
use Rattle.dsm_base.specs.Causes.{Rose}
use Rattle.dsm_check.specs.Programs.{Program}
use Rattle.dsm_sched.specs.declared.picks.PickEntry.{PickEntry}
use Rattle.dsm_sched.specs.declared.schedule.Entry.{Entry}
use Rattle.dsm_top.specs.declared.status.Status.{Status}
use Rattle.dsm_command.specs.Commands.{Command}
use Rattle.dsm_top.specs.Accepted.{Contents, HasChecked, HasPicks, HasSchedule}
use Rattle.dsm_top.specs.Refusals.{Given, FilesRose, RefusesSchedule, RefusesRun, RefusesProgram, RefusesPicks, RefusesOwner, RefusesCheck, RefusesPlain, OrMemory}
use Rattle.dsm_top.specs.Prepared.{Span, IsUnread, IsPart, Keeps, RefusesIn}

-- Out of memory owes nothing.

pub or_memory : (Refused : Status → Type 0) (status : Status) → Refused status → OrMemory Refused status
or_memory Refused Status.Memory is = tt
or_memory Refused _ is = is

pub weaker : (Old New : Status → Type 0) (status : Status) → (Old status → New status) → OrMemory Old status → OrMemory New status
weaker Old New Status.Memory more is = tt
weaker Old New _ more is = more is

-- Parts of a call.

-- the whole call is a part of itself
pub whole_part : (command : Option Command) (files : Contents) (before after : ℕ) →
    IsPart record { command = command; files = files; faults_before = before; faults_after = after }
    record { files = files; before = before; after = after }
whole_part command files before after = record { same = refl; earlier = omega arith; later = omega arith }

module _ (given : Given) (files more : Contents) (first before after : ℕ) (kept : Keeps record { files = files; before = first; after = before } more) where
  -- the second of two parts that are one part
  pub later_part : IsPart given record { files = files; before = first; after = after } → IsPart given record { files = more; before = before; after = after }
  later_part part =
      let later = kept.later in
      record {
        same = part.same ∙ sym kept.same;
        earlier = omega (arith, part.earlier, later);
        later = part.later;
      }

rose_within : (first before after last : ℕ) → first ≤ before → after ≤ last → Rose before after → Rose first last
rose_within first before after last earlier later risen = omega (arith, earlier, later, risen)

-- a count that rose in a part of the call has risen in all of it
pub rose : (given : Given) (span : Span) → IsPart given span → Rose span.before span.after → FilesRose given
rose given span part is = rose_within given.faults_before span.before span.after given.faults_after part.earlier part.later is

-- A file couldn't be read.

pub unread_schedule : (span : Span) (name : List ℕ) (status : Status) → IsUnread 1 span.before span.after status → RefusesIn span (λ given. RefusesSchedule given name) status
unread_schedule span name Status.Memory is given part = tt
unread_schedule span name (Status.ReadFault file) is given part = subst (λ number. RefusesSchedule given name (Status.ReadFault number)) (sym is.0) (rose given span part is.1)
unread_schedule span name _ is given part = absurd is

pub unread_program : (span : Span) (name : List ℕ) (status : Status) → IsUnread 0 span.before span.after status → RefusesIn span (λ given. RefusesProgram given name) status
unread_program span name Status.Memory is given part = tt
unread_program span name (Status.ReadFault file) is given part = subst (λ number. RefusesProgram given name (Status.ReadFault number)) (sym is.0) (rose given span part is.1)
unread_program span name _ is given part = absurd is

pub unread_picks : (span : Span) (name : List ℕ) (status : Status) → IsUnread 1 span.before span.after status → RefusesIn span (λ given. RefusesPicks given name) status
unread_picks span name Status.Memory is given part = tt
unread_picks span name (Status.ReadFault file) is given part = subst (λ number. RefusesPicks given name (Status.ReadFault number)) (sym is.0) (rose given span part is.1)
unread_picks span name _ is given part = absurd is

-- The parts of a refusal, in their order.

pub run_program : (given : Given) (program schedule : List ℕ) (status : Status) → OrMemory (RefusesProgram given program) status → OrMemory (RefusesRun given program schedule) status
run_program given program schedule status is = weaker (RefusesProgram given program) (RefusesRun given program schedule) status inl is

pub run_schedule : (given : Given) (program schedule : List ℕ) (found : Program) (status : Status) → HasChecked given.files program found → OrMemory (RefusesSchedule given schedule) status → OrMemory (RefusesRun given program schedule) status
run_schedule given program schedule found status has is =
    weaker (RefusesSchedule given schedule) (RefusesRun given program schedule) status (λ refused. inr (inl record { found = found; has_program = has; refused = refused })) is

pub run_owner : (given : Given) (program schedule : List ℕ) (found : Program) (procs : ℕ) (entries : List Entry) (status : Status) → HasChecked given.files program found → HasSchedule given.files schedule procs entries → RefusesOwner found procs status
    → OrMemory (RefusesRun given program schedule) status
run_owner given program schedule found procs entries status has has_schedule is =
    or_memory (RefusesRun given program schedule) status
    (inr (inr record { procs = procs; entries = entries; has_schedule = has_schedule; refused = record { found = found; has_program = has; refused = is } }))

pub check_program : (given : Given) (program : List ℕ) (procs : ℕ) (status : Status) → OrMemory (RefusesProgram given program) status → OrMemory (RefusesCheck given program procs) status
check_program given program procs status is = weaker (RefusesProgram given program) (RefusesCheck given program procs) status inl is

pub check_owner : (given : Given) (program : List ℕ) (procs : ℕ) (found : Program) (status : Status) → HasChecked given.files program found → RefusesOwner found procs status → OrMemory (RefusesCheck given program procs) status
check_owner given program procs found status has is =
    or_memory (RefusesCheck given program procs) status (inr record { found = found; has_program = has; refused = is })

pub plain_program : (given : Given) (program picks : List ℕ) (status : Status) → OrMemory (RefusesProgram given program) status → OrMemory (RefusesPlain given program picks) status
plain_program given program picks status is = weaker (RefusesProgram given program) (RefusesPlain given program picks) status inl is

pub plain_picks : (given : Given) (program picks : List ℕ) (found : Program) (status : Status) → HasChecked given.files program found → OrMemory (RefusesPicks given picks) status → OrMemory (RefusesPlain given program picks) status
plain_picks given program picks found status has is =
    weaker (RefusesPicks given picks) (RefusesPlain given program picks) status (λ refused. inr (inl record { found = found; has_program = has; refused = refused })) is

pub plain_owner : (given : Given) (program picks : List ℕ) (found : Program) (procs : ℕ) (entries : List PickEntry) (status : Status) → HasChecked given.files program found → HasPicks given.files picks procs entries → RefusesOwner found procs status
    → OrMemory (RefusesPlain given program picks) status
plain_owner given program picks found procs entries status has has_picks is =
    or_memory (RefusesPlain given program picks) status
    (inr (inr record { procs = procs; entries = entries; has_picks = has_picks; refused = record { found = found; has_program = has; refused = is } }))
