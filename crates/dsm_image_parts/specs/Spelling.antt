-- How the fields of images are spelled, and what they are judged by.
use Rattle.std.specs.Prelude.{◌≡◌, ℕ, ℤ, pos, ◌+◌, Bool, true, ◌&&◌, ◌||◌, not, ◌==◌, nat_lt, nat_le, List, [], ◌∷◌, ◌++◌, length, Option, Some, None, option_map}
use Rattle.std.specs.List.{list_any, AllZip}
use Rattle.std.specs.Ordering.{int_eq}
use Rattle.std.specs.Option.{is_some}
use Rattle.dsm_base.specs.Access.{piece_of}
use Rattle.dsm_base.specs.declared.names.Proc.{Proc}
use Rattle.dsm_base.specs.declared.names.Lock.{Lock}
use Rattle.dsm_base.specs.declared.names.Mode.{Mode}
use Rattle.dsm_base.specs.declared.names.Mode.TheVariants.{Shared, Excl}
use Rattle.dsm_base.specs.declared.setup.Setup.{Setup}
use Rattle.dsm_base.specs.declared.setup.Object.{Object}
use Rattle.dsm_base.specs.declared.lists.Record.{Record}
use Rattle.dsm_base.specs.declared.lists.PendingLine.{PendingLine}
use Rattle.dsm_base.specs.declared.lists.LoggedGrant.{LoggedGrant}
use Rattle.dsm_base.specs.declared.lists.LoggedOpening.{LoggedOpening}
use Rattle.dsm_lines.specs.Places.{cells_in, spans_from, lines_of}
use Rattle.dsm_lines.specs.declared.place.Span.{Span}
use Rattle.dsm_lines.specs.declared.list.Line.{Line}
use Rattle.dsm_lines.specs.declared.of_objects.Version.{Version}
use Rattle.dsm_lines.specs.declared.of_objects.Arrival.{Arrival}
use Rattle.dsm_lines.specs.declared.of_objects.MailGrant.{MailGrant}
use Rattle.dsm_lines.specs.declared.of_objects.MailOpening.{MailOpening}
use Rattle.dsm_msg.specs.declared.message.TurnBody.{TurnBody}
use Rattle.dsm_msg.specs.declared.message.Body.TheOpen as layer
use Rattle.dsm_msg.specs.declared.message.Body.TheViews.{out-Body}
use Rattle.dsm_msg.specs.Spelling.{Layer, kind_of, is_asking, may_give}
use Rattle.dsm_fields.specs.Fields.{Field, byte, number, signed, text, mode_number, are_printable, is_over, is_from, is_second_over, numbered}
use Rattle.dsm_image_parts.specs.declared.scope.Scope.{Scope}
use Rattle.dsm_image_parts.specs.declared.entries.OwnLock.{OwnLock}
use Rattle.dsm_image_parts.specs.declared.entries.OwnBar.{OwnBar}
use Rattle.dsm_image_parts.specs.declared.entries.Outbox.{Outbox}
use Rattle.dsm_image_parts.specs.declared.entries.SavedLine.{SavedLine}
use Rattle.dsm_image_parts.specs.declared.entries.SavedLock.{SavedLock}
use Rattle.dsm_image_parts.specs.declared.entries.ProcLog.{ProcLog}
use Rattle.dsm_image_parts.specs.Keys.{is_home, is_manager}

-- the numbers and the table of a setup
abbrev pub scope_of : Setup → Scope
scope_of setup = record { procs = setup.procs; locks = setup.locks; bars = setup.bars; cells = setup.cells; table = setup.bindings }

-- a count that passes a test, and so many entries, each judged by its number from 0 and the one before it
abbrev pub listed_with : {A : Type 0} → (ℕ → Bool) → (ℕ → Option A → A → List Field) → List A → List Field
listed_with passes fields items = number 4 (length items) (passes (length items)) ∷ numbered fields 0 None items

-- any count, and so many entries
abbrev pub listed : {A : Type 0} → (ℕ → Option A → A → List Field) → List A → List Field
listed fields items = listed_with (λ _. true) fields items

-- a number below a bound
abbrev pub is_below : ℕ → ℕ → Bool
is_below bound value = nat_lt value bound

-- a number that rises and is below a bound
abbrev pub is_next_below : ℕ → Option ℕ → ℕ → Bool
is_next_below bound last value = is_over last value && is_below bound value

-- one of neighbouring lines
abbrev pub is_in : ℕ → Span → Bool
is_in line span = nat_le span.first line && nat_lt line (span.first + span.count)

-- a line of a lock or barrier
abbrev pub is_line_of : Scope → Object → ℕ → Bool
is_line_of scope object line = list_any (is_in line) (spans_from 0 scope.table object)

-- one value for each cell of a line, eight at most
abbrev pub is_width_of : Scope → ℕ → ℕ → Bool
is_width_of scope line count = nat_le count 8 && (count == length (cells_in scope.table line))

-- the value of a cell, any
abbrev pub value_fields : ℕ → Option ℤ → ℤ → List Field
value_fields at last value = signed value true ∷ []

-- a line of a lock or barrier, with one value per cell
abbrev pub line_fields : Scope → Object → ℕ → Option Line → Line → List Field
line_fields scope object at last item =
    number 4 item.number (is_over (option_map (λ r. r.number) last) item.number && is_line_of scope object item.number)
    ∷ byte (length item.values) (is_width_of scope item.number (length item.values))
    ∷ numbered value_fields 0 None item.values

-- a cell that is in no piece has the value 0
abbrev pub may_hold : Scope → ℕ → ℤ → Bool
may_hold scope cell value = is_some (piece_of scope.table cell) || int_eq value (pos 0)

-- the value of a shared cell, by its number
abbrev pub cell_fields : Scope → ℕ → Option ℤ → ℤ → List Field
cell_fields scope cell last value = signed value (may_hold scope cell value) ∷ []

-- the number of a marked line, of so many
abbrev pub marked_fields : ℕ → ℕ → Option ℕ → ℕ → List Field
marked_fields count at last line = number 4 line (is_next_below count last line) ∷ []

-- whether a lock is held or asked for, and how
abbrev pub hold_number : Option Mode → ℕ
hold_number None = 0
hold_number (Some Shared) = 1
hold_number (Some Excl) = 2

abbrev pub own_lock_fields : ℕ → Option OwnLock → OwnLock → List Field
own_lock_fields at last item = number 4 item.have true ∷ byte (hold_number item.held) true ∷ byte (hold_number item.asked) true ∷ []

abbrev pub own_bar_fields : ℕ → Option OwnBar → OwnBar → List Field
own_bar_fields at last item = number 4 item.arrivals true ∷ number 4 item.crossings true ∷ []

-- a lock of the setup
abbrev pub is_lock : Scope → ℕ → Bool
is_lock scope = is_below scope.locks

-- a barrier of the setup
abbrev pub is_bar : Scope → ℕ → Bool
is_bar scope = is_below scope.bars

-- a count, and the lines of a lock or barrier
abbrev pub lines_fields : Scope → Object → List Line → List Field
lines_fields scope object items = listed (line_fields scope object) items

abbrev pub mail_grant_fields : Scope → ℕ → Option MailGrant → MailGrant → List Field
mail_grant_fields scope at last item =
    number 4 item.turn true
    ∷ number 2 item.lock.0 (is_lock scope item.lock.0)
    ∷ byte (mode_number item.mode) true
    ∷ number 4 item.version true
    ∷ lines_fields scope (Object.Lock item.lock) item.lines

abbrev pub mail_opening_fields : Scope → ℕ → Option MailOpening → MailOpening → List Field
mail_opening_fields scope at last item =
    number 4 item.turn true
    ∷ byte item.bar.0 (is_bar scope item.bar.0)
    ∷ number 4 item.epoch true
    ∷ lines_fields scope (Object.Bar item.bar) item.lines

-- the greatest turn seen of a processor; 0 of itself
abbrev pub seen_fields : ℕ → ℕ → Option ℕ → ℕ → List Field
seen_fields me proc last turn = number 4 turn (not (proc == me) || (turn == 0)) ∷ []

abbrev pub record_fields : Scope → ℕ → Option Record → Record → List Field
record_fields scope at last item =
    number 4 item.turn (is_over (option_map (λ r. r.turn) last) item.turn)
    ∷ number 2 item.lock.0 (is_lock scope item.lock.0)
    ∷ number 4 item.version true
    ∷ []

abbrev pub pending_fields : ℕ → Option PendingLine → PendingLine → List Field
pending_fields at last item =
    number 4 item.turn (is_over (option_map (λ r. r.turn) last) item.turn)
    ∷ number 2 (length item.text) (nat_le (length item.text) 256)
    ∷ text are_printable item.text
    ∷ []

-- the lock and the number by which versions are in order
abbrev pub version_place : Version → ℕ × ℕ
version_place item = (item.lock.0, item.version)

abbrev pub version_fields : Scope → ℕ → Option Version → Version → List Field
version_fields scope at last item =
    number 2 item.lock.0 (is_from (option_map version_place last) item.lock.0 && is_lock scope item.lock.0)
    ∷ number 4 item.version (is_second_over (option_map version_place last) item.lock.0 item.version)
    ∷ lines_fields scope (Object.Lock item.lock) item.lines

-- the barrier and the number by which arrivals are in order
abbrev pub arrival_place : Arrival → ℕ × ℕ
arrival_place item = (item.bar.0, item.epoch)

abbrev pub arrival_fields : Scope → ℕ → Option Arrival → Arrival → List Field
arrival_fields scope at last item =
    byte item.bar.0 (is_from (option_map arrival_place last) item.bar.0 && is_bar scope item.bar.0)
    ∷ number 4 item.epoch (is_second_over (option_map arrival_place last) item.bar.0 item.epoch)
    ∷ lines_fields scope (Object.Bar item.bar) item.lines

-- a turn that isn't below that of the entry before it, where there is one
abbrev pub is_not_under : Option ℕ → ℕ → Bool
is_not_under None turn = true
is_not_under (Some last) turn = nat_le last turn

abbrev pub logged_grant_fields : Scope → ℕ → Option LoggedGrant → LoggedGrant → List Field
logged_grant_fields scope at last item =
    number 4 item.turn (is_not_under (option_map (λ r. r.turn) last) item.turn)
    ∷ number 2 item.lock.0 (is_lock scope item.lock.0)
    ∷ byte (mode_number item.mode) true
    ∷ number 4 item.version true
    ∷ []

abbrev pub logged_opening_fields : Scope → ℕ → Option LoggedOpening → LoggedOpening → List Field
logged_opening_fields scope at last item =
    number 4 item.turn (is_not_under (option_map (λ r. r.turn) last) item.turn)
    ∷ byte item.bar.0 (is_bar scope item.bar.0)
    ∷ number 4 item.epoch true
    ∷ []

-- a lock of the setup whose home is this processor
abbrev pub is_lock_at : Scope → ℕ → ℕ → Bool
is_lock_at scope proc lock = is_lock scope lock && is_home scope proc lock

-- a barrier of the setup whose manager is this processor
abbrev pub is_bar_at : Scope → ℕ → ℕ → Bool
is_bar_at scope proc bar = is_bar scope bar && is_manager scope proc bar

-- the fields of a body that goes to a home or manager, and none of another
abbrev pub asking_fields : Scope → ℕ → Layer → List Field
asking_fields scope to (layer.Req lock mode have) =
    number 2 lock.0 (is_lock_at scope to lock.0) ∷ byte (mode_number mode) true ∷ number 4 have true ∷ []
asking_fields scope to (layer.Release lock mode version lines) =
    number 2 lock.0 (is_lock_at scope to lock.0)
    ∷ byte (mode_number mode) true
    ∷ number 4 version true
    ∷ listed_with (may_give mode) (line_fields scope (Object.Lock lock)) lines
asking_fields scope to (layer.Arrive bar epoch lines) =
    byte bar.0 (is_bar_at scope to bar.0) ∷ number 4 epoch true ∷ lines_fields scope (Object.Bar bar) lines
asking_fields scope to other = []

-- a body for one processor: its turn over that of the one before, and its kind, which asks for something
abbrev pub sent_fields : Scope → ℕ → ℕ → Option TurnBody → TurnBody → List Field
sent_fields scope to at last item =
    number 4 item.turn (is_over (option_map (λ b. b.turn) last) item.turn)
    ∷ byte (kind_of item.body) (is_asking (kind_of item.body))
    ∷ asking_fields scope to (out-Body item.body)

-- what one processor is still to be told
abbrev pub outbox_fields : Scope → ℕ → Option Outbox → Outbox → List Field
outbox_fields scope at last item = listed (sent_fields scope item.proc.0) item.bodies

-- it is for this processor
abbrev pub IsTo : Proc → Outbox → Type 0
IsTo proc item = item.proc ≡ proc

-- a line at its lock's home
abbrev pub saved_line_fields : ℕ → Option SavedLine → SavedLine → List Field
saved_line_fields at last item = number 4 item.stamp true ∷ numbered value_fields 0 None item.values

-- how many cells a line has
abbrev pub width_of : Scope → ℕ → ℕ
width_of scope line = length (cells_in scope.table line)

-- it has one value for each cell of this line
abbrev pub IsWide : Scope → ℕ → SavedLine → Type 0
IsWide scope line item = length item.values ≡ width_of scope line

-- a lock at its home, with its lines
abbrev pub saved_lock_fields : ℕ → Option SavedLock → SavedLock → List Field
saved_lock_fields at last item = number 4 item.version true ∷ numbered saved_line_fields 0 None item.lines

-- it is this lock, with each of its lines
pub record IsSaved (scope : Scope) (lock : Lock) (item : SavedLock) : Type 0 where
  pub same : item.lock ≡ lock
  pub lines : AllZip (IsWide scope) (lines_of scope.table (Object.Lock lock)) item.lines

-- what is logged for one processor
abbrev pub log_fields : Scope → ℕ → Option ProcLog → ProcLog → List Field
log_fields scope at last item =
    listed (logged_grant_fields scope) item.logged.grants
    ++ (listed (logged_opening_fields scope) item.logged.openings
    ++ listed (record_fields scope) item.logged.records)

-- it is logged for this processor
abbrev pub IsLogOf : Proc → ProcLog → Type 0
IsLogOf proc item = item.proc ≡ proc
