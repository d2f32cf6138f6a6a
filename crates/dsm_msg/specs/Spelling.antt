-- How messages are spelled.
use Rattle.std.specs.Prelude.{◌≡◌, ℕ, ℤ, Bool, true, ◌&&◌, ◌||◌, not, ◌==◌, nat_lt, nat_le, List, [], ◌∷◌, ◌++◌, length, Option, None, option_map}
use Rattle.dsm_base.specs.declared.names.Mode.{Mode}
use Rattle.dsm_base.specs.declared.names.Mode.TheVariants.{Shared, Excl}
use Rattle.dsm_base.specs.declared.lists.Record.{Record}
use Rattle.dsm_base.specs.declared.lists.PendingLine.{PendingLine}
use Rattle.dsm_base.specs.declared.lists.LoggedGrant.{LoggedGrant}
use Rattle.dsm_base.specs.declared.lists.LoggedOpening.{LoggedOpening}
use Rattle.dsm_base.specs.declared.lists.LockStand.{LockStand}
use Rattle.dsm_base.specs.declared.lists.BarStand.{BarStand}
use Rattle.dsm_base.specs.declared.lists.LockNumber.{LockNumber}
use Rattle.dsm_base.specs.declared.lists.BarNumber.{BarNumber}
use Rattle.dsm_lines.specs.declared.list.Line.{Line}
use Rattle.dsm_lines.specs.declared.of_objects.Version.{Version}
use Rattle.dsm_lines.specs.declared.of_objects.Arrival.{Arrival}
use Rattle.dsm_msg.specs.declared.message.Carry.{Carry}
use Rattle.dsm_msg.specs.declared.message.Report.{Report}
use Rattle.dsm_msg.specs.declared.message.Msg.{Msg}
use Rattle.dsm_msg.specs.declared.message.TurnBody.{TurnBody}
use Rattle.dsm_msg.specs.declared.message.Body.{Body}
use Rattle.dsm_msg.specs.declared.message.Body.TheOpen as layer
use Rattle.dsm_msg.specs.declared.message.Body.TheViews.{out-Body}
use Rattle.dsm_fields.specs.Fields.{Field, byte, number, signed, text, mode_number, bool_number, are_printable, is_over, is_from, is_second_over, entries, counted, are_fit, are_kept, bytes_of}

-- a body without what makes its type lead back to itself
abbrev pub Layer : Type 0
Layer = layer.Body-F Body TurnBody

-- a record of a take: its turn over that of the one before, lock and version
abbrev pub record_fields : Option Record → Record → List Field
record_fields last item =
    number 4 item.turn (is_over (option_map (λ r. r.turn) last) item.turn)
    ∷ number 2 item.lock.0 true
    ∷ number 4 item.version true
    ∷ []

-- a printed line: its turn over that of the one before, and at most 256 bytes of text
abbrev pub pending_fields : Option PendingLine → PendingLine → List Field
pending_fields last item =
    number 4 item.turn (is_over (option_map (λ r. r.turn) last) item.turn)
    ∷ number 2 (length item.text) (nat_le (length item.text) 256)
    ∷ text are_printable item.text
    ∷ []

-- a value of a line
abbrev pub value_fields : Option ℤ → ℤ → List Field
value_fields last value = signed value true ∷ []

-- a line has 1 to 8 values
abbrev pub line_fields : Option Line → Line → List Field
line_fields last item =
    number 4 item.number (is_over (option_map (λ r. r.number) last) item.number)
    ∷ byte (length item.values) (nat_le 1 (length item.values) && nat_le (length item.values) 8)
    ∷ entries value_fields None item.values

-- a grant that was logged: its turn over that of the one before
abbrev pub grant_fields : Option LoggedGrant → LoggedGrant → List Field
grant_fields last item =
    number 4 item.turn (is_over (option_map (λ r. r.turn) last) item.turn)
    ∷ number 2 item.lock.0 true
    ∷ byte (mode_number item.mode) true
    ∷ number 4 item.version true
    ∷ []

-- an opening that was logged: its turn over that of the one before
abbrev pub opening_fields : Option LoggedOpening → LoggedOpening → List Field
opening_fields last item =
    number 4 item.turn (is_over (option_map (λ r. r.turn) last) item.turn)
    ∷ byte item.bar.0 true
    ∷ number 4 item.epoch true
    ∷ []

-- versions are in the order of their locks and numbers
abbrev pub version_place : Version → ℕ × ℕ
version_place item = (item.lock.0, item.version)

-- arrivals are in the order of their barriers and epochs
abbrev pub arrival_place : Arrival → ℕ × ℕ
arrival_place item = (item.bar.0, item.epoch)

-- a version of a lock with its lines, over the version before it
abbrev pub version_fields : Option Version → Version → List Field
version_fields last item =
    number 2 item.lock.0 (is_from (option_map version_place last) item.lock.0)
    ∷ number 4 item.version (is_second_over (option_map version_place last) item.lock.0 item.version)
    ∷ counted line_fields item.lines

-- an arrival at a barrier with its lines, over the arrival before it
abbrev pub arrival_fields : Option Arrival → Arrival → List Field
arrival_fields last item =
    byte item.bar.0 (is_from (option_map arrival_place last) item.bar.0)
    ∷ number 4 item.epoch (is_second_over (option_map arrival_place last) item.bar.0 item.epoch)
    ∷ counted line_fields item.lines

-- a lock that was granted has no turn of an ask
abbrev pub lock_stand_fields : Option LockStand → LockStand → List Field
lock_stand_fields last item =
    number 2 item.lock.0 (is_over (option_map (λ s. s.lock.0) last) item.lock.0)
    ∷ byte (mode_number item.mode) true
    ∷ byte (bool_number item.granted) true
    ∷ number 4 item.turn (not item.granted || (item.turn == 0))
    ∷ number 4 item.have true
    ∷ []

-- how a barrier stands with one processor, over the barrier before it
abbrev pub bar_stand_fields : Option BarStand → BarStand → List Field
bar_stand_fields last item =
    byte item.bar.0 (is_over (option_map (λ s. s.bar.0) last) item.bar.0)
    ∷ number 4 item.arrivals true
    ∷ number 4 item.openings true
    ∷ []

-- a number by lock, over the lock before it
abbrev pub lock_number_fields : Option LockNumber → LockNumber → List Field
lock_number_fields last item = number 2 item.lock.0 (is_over (option_map (λ s. s.lock.0) last) item.lock.0) ∷ number 4 item.number true ∷ []

-- a number by barrier, over the barrier before it
abbrev pub bar_number_fields : Option BarNumber → BarNumber → List Field
bar_number_fields last item = byte item.bar.0 (is_over (option_map (λ s. s.bar.0) last) item.bar.0) ∷ number 4 item.number true ∷ []

-- the kinds of body, numbered
abbrev pub kind_of_layer : Layer → ℕ
kind_of_layer (layer.Req lock mode have) = 1
kind_of_layer (layer.Grant lock mode turn version lines) = 2
kind_of_layer (layer.Release lock mode version lines) = 3
kind_of_layer (layer.Arrive bar epoch lines) = 4
kind_of_layer (layer.Opened bar epoch lines) = 5
kind_of_layer layer.Note = 6
kind_of_layer layer.Ack = 7
kind_of_layer (layer.Resync bodies) = 8
kind_of_layer (layer.Report report) = 9
kind_of_layer (layer.Pruned turn versions crossings) = 10

-- the number of a kind of body
abbrev pub kind_of : Body → ℕ
kind_of body = kind_of_layer (out-Body body)

-- the kinds are numbered from 1
abbrev pub is_kind : ℕ → Bool
is_kind kind = nat_le 1 kind && nat_le kind 10

-- a kind that goes to a lock's home or a barrier's manager
abbrev pub is_asking : ℕ → Bool
is_asking kind = (kind == 1) || (kind == 3) || (kind == 4)

-- a shared hold gives no lines back
abbrev pub may_give : Mode → ℕ → Bool
may_give Shared lines = lines == 0
may_give Excl lines = true

-- the fields of a body that goes to a home or manager
abbrev pub asking_fields : Layer → List Field
asking_fields (layer.Req lock mode have) = number 2 lock.0 true ∷ byte (mode_number mode) true ∷ number 4 have true ∷ []
asking_fields (layer.Release lock mode version lines) =
    number 2 lock.0 true
    ∷ byte (mode_number mode) true
    ∷ number 4 version true
    ∷ number 4 (length lines) (may_give mode (length lines))
    ∷ entries line_fields None lines
asking_fields (layer.Arrive bar epoch lines) = byte bar.0 true ∷ number 4 epoch true ∷ counted line_fields lines
asking_fields other = []

-- a body that is brought again: its turn over that of the one before, and its kind, which asks for something
abbrev pub turn_body_fields : Option TurnBody → TurnBody → List Field
turn_body_fields last item =
    number 4 item.turn (is_over (option_map (λ b. b.turn) last) item.turn)
    ∷ byte (kind_of item.body) (is_asking (kind_of item.body))
    ∷ asking_fields (out-Body item.body)

-- a report: its lists, each with its count
abbrev pub report_fields : Report → List Field
report_fields report =
    counted grant_fields report.grants
    ++ (counted opening_fields report.openings
    ++ (counted record_fields report.records
    ++ (counted version_fields report.versions
    ++ (counted arrival_fields report.arrivals
    ++ (counted lock_stand_fields report.locks
    ++ counted bar_stand_fields report.bars)))))

-- a body, by its kind
abbrev pub layer_fields : Layer → List Field
layer_fields (layer.Grant lock mode turn version lines) =
    number 2 lock.0 true ∷ byte (mode_number mode) true ∷ number 4 turn true ∷ number 4 version true ∷ counted line_fields lines
layer_fields (layer.Opened bar epoch lines) = byte bar.0 true ∷ number 4 epoch true ∷ counted line_fields lines
layer_fields (layer.Resync bodies) = counted turn_body_fields bodies
layer_fields (layer.Report report) = report_fields report
layer_fields (layer.Pruned turn versions crossings) =
    number 4 turn true ∷ (counted lock_number_fields versions ++ counted bar_number_fields crossings)
layer_fields asking = asking_fields asking

-- a body behind its kind
abbrev pub body_fields : Body → List Field
body_fields body = layer_fields (out-Body body)

-- what each message carries: turns made and seen, records, printed lines
abbrev pub carry_fields : Carry → List Field
carry_fields carry =
    number 4 carry.turn true ∷ number 4 carry.seen true ∷ (counted record_fields carry.records ++ counted pending_fields carry.lines)

-- a processor's number
abbrev pub is_proc : ℕ → Bool
is_proc number = nat_lt number 16

-- the number of another processor
abbrev pub is_other : ℕ → ℕ → Bool
is_other from number = nat_lt number 16 && not (number == from)

-- a message: its kind, from whom, to another whom, what it carries, and its body
abbrev pub message_fields : Msg → List Field
message_fields msg =
    byte (kind_of msg.body) true
    ∷ byte msg.from.0 (is_proc msg.from.0)
    ∷ byte msg.to.0 (is_other msg.from.0 msg.to.0)
    ∷ (carry_fields msg.carry ++ body_fields msg.body)

-- the one spelling of a message
abbrev pub spelling : Msg → List ℕ
spelling msg = bytes_of (message_fields msg)

-- the message keeps each range and order
abbrev pub IsInOrder : Msg → Type 0
IsInOrder msg = are_kept (message_fields msg) ≡ true

-- the message keeps each range and order, and its fields have room for what they hold
abbrev pub IsMessage : Msg → Type 0
IsMessage msg = are_fit (message_fields msg) ≡ true
