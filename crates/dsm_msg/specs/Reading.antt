-- How messages are read: the same fields from the left.
use Rattle.std.specs.Prelude.{ℕ, ℤ, ◌&&◌, ◌||◌, not, ◌==◌, nat_le, if◌then◌else◌, List, length, Option, None, option_map, Ok, Err}
use Rattle.dsm_base.specs.declared.names.Mode.{Mode}
use Rattle.dsm_base.specs.declared.lists.Record.{Record}
use Rattle.dsm_base.specs.declared.lists.PendingLine.{PendingLine}
use Rattle.dsm_base.specs.declared.lists.LoggedGrant.{LoggedGrant}
use Rattle.dsm_base.specs.declared.lists.LoggedOpening.{LoggedOpening}
use Rattle.dsm_base.specs.declared.lists.LockStand.{LockStand}
use Rattle.dsm_base.specs.declared.lists.BarStand.{BarStand}
use Rattle.dsm_base.specs.declared.lists.LockNumber.{LockNumber}
use Rattle.dsm_base.specs.declared.lists.BarNumber.{BarNumber}
use Rattle.dsm_lines.specs.declared.list.Line.{Line}
use Rattle.dsm_lines.specs.declared.of_objects.Version.{Version}
use Rattle.dsm_lines.specs.declared.of_objects.Arrival.{Arrival}
use Rattle.dsm_msg.specs.declared.message.Carry.{Carry}
use Rattle.dsm_msg.specs.declared.message.Report.{Report}
use Rattle.dsm_msg.specs.declared.message.Msg.{Msg}
use Rattle.dsm_msg.specs.declared.message.TurnBody.{TurnBody}
use Rattle.dsm_msg.specs.declared.message.Body.{Body}
use Rattle.dsm_msg.specs.declared.message.Body.TheVariants as bodies
use Rattle.dsm_fields.specs.Fields.{are_printable, is_over, is_from, is_second_over}
use Rattle.dsm_fields.specs.Reading.{Broken, Read, then_with, kept, byte_at, number_at, signed_at, mode_at, bool_at, text_at, entries_at, counted_at}
use Rattle.dsm_msg.specs.Spelling.{version_place, arrival_place, may_give, is_kind, is_proc, is_other, is_asking}

-- a record, behind the one before it
unfoldable pub record_at : Option Record → List ℕ → Read Record
record_at last bytes =
    then_with (kept (is_over (option_map (λ r. r.turn) last)) (number_at 4) bytes) (λ turn bytes.
    then_with (number_at 2 bytes) (λ lock bytes.
    then_with (number_at 4 bytes) (λ version bytes.
    Ok (record { turn = turn; lock = record { 0 = lock }; version = version }, bytes))))

-- a printed line that isn't out, behind the one before it
unfoldable pub pending_at : Option PendingLine → List ℕ → Read PendingLine
pending_at last bytes =
    then_with (kept (is_over (option_map (λ r. r.turn) last)) (number_at 4) bytes) (λ turn bytes.
    then_with (kept (λ count. nat_le count 256) (number_at 2) bytes) (λ count bytes.
    then_with (kept are_printable (text_at count) bytes) (λ text bytes.
    Ok (record { turn = turn; text = text }, bytes))))

-- a value of a line
abbrev pub value_at : Option ℤ → List ℕ → Read ℤ
value_at last bytes = signed_at bytes

-- a line, behind the one before it
unfoldable pub line_at : Option Line → List ℕ → Read Line
line_at last bytes =
    then_with (kept (is_over (option_map (λ r. r.number) last)) (number_at 4) bytes) (λ number bytes.
    then_with (kept (λ count. nat_le 1 count && nat_le count 8) byte_at bytes) (λ count bytes.
    then_with (entries_at value_at None count bytes) (λ values bytes.
    Ok (record { number = number; values = values }, bytes))))

-- a logged grant, behind the one before it
unfoldable pub grant_at : Option LoggedGrant → List ℕ → Read LoggedGrant
grant_at last bytes =
    then_with (kept (is_over (option_map (λ r. r.turn) last)) (number_at 4) bytes) (λ turn bytes.
    then_with (number_at 2 bytes) (λ lock bytes.
    then_with (mode_at bytes) (λ mode bytes.
    then_with (number_at 4 bytes) (λ version bytes.
    Ok (record { turn = turn; lock = record { 0 = lock }; mode = mode; version = version }, bytes)))))

-- a logged opening, behind the one before it
unfoldable pub opening_at : Option LoggedOpening → List ℕ → Read LoggedOpening
opening_at last bytes =
    then_with (kept (is_over (option_map (λ r. r.turn) last)) (number_at 4) bytes) (λ turn bytes.
    then_with (byte_at bytes) (λ bar bytes.
    then_with (number_at 4 bytes) (λ epoch bytes.
    Ok (record { turn = turn; bar = record { 0 = bar }; epoch = epoch }, bytes))))

-- a version, behind the one before it
unfoldable pub version_at : Option Version → List ℕ → Read Version
version_at last bytes =
    then_with (kept (is_from (option_map version_place last)) (number_at 2) bytes) (λ lock bytes.
    then_with (kept (is_second_over (option_map version_place last) lock) (number_at 4) bytes) (λ version bytes.
    then_with (counted_at line_at bytes) (λ lines bytes.
    Ok (record { lock = record { 0 = lock }; version = version; lines = lines }, bytes))))

-- an arrival, behind the one before it
unfoldable pub arrival_at : Option Arrival → List ℕ → Read Arrival
arrival_at last bytes =
    then_with (kept (is_from (option_map arrival_place last)) byte_at bytes) (λ bar bytes.
    then_with (kept (is_second_over (option_map arrival_place last) bar) (number_at 4) bytes) (λ epoch bytes.
    then_with (counted_at line_at bytes) (λ lines bytes.
    Ok (record { bar = record { 0 = bar }; epoch = epoch; lines = lines }, bytes))))

-- how a processor stands at a lock, behind the lock before it
unfoldable pub lock_stand_at : Option LockStand → List ℕ → Read LockStand
lock_stand_at last bytes =
    then_with (kept (is_over (option_map (λ s. s.lock.0) last)) (number_at 2) bytes) (λ lock bytes.
    then_with (mode_at bytes) (λ mode bytes.
    then_with (bool_at bytes) (λ granted bytes.
    then_with (kept (λ turn. not granted || (turn == 0)) (number_at 4) bytes) (λ turn bytes.
    then_with (number_at 4 bytes) (λ have bytes.
    Ok (record { lock = record { 0 = lock }; mode = mode; granted = granted; turn = turn; have = have }, bytes))))))

-- how a processor stands at a barrier, behind the barrier before it
unfoldable pub bar_stand_at : Option BarStand → List ℕ → Read BarStand
bar_stand_at last bytes =
    then_with (kept (is_over (option_map (λ s. s.bar.0) last)) byte_at bytes) (λ bar bytes.
    then_with (number_at 4 bytes) (λ arrivals bytes.
    then_with (number_at 4 bytes) (λ openings bytes.
    Ok (record { bar = record { 0 = bar }; arrivals = arrivals; openings = openings }, bytes))))

-- a lock's number, behind the lock before it
unfoldable pub lock_number_at : Option LockNumber → List ℕ → Read LockNumber
lock_number_at last bytes =
    then_with (kept (is_over (option_map (λ s. s.lock.0) last)) (number_at 2) bytes) (λ lock bytes.
    then_with (number_at 4 bytes) (λ number bytes.
    Ok (record { lock = record { 0 = lock }; number = number }, bytes)))

-- a barrier's number, behind the barrier before it
unfoldable pub bar_number_at : Option BarNumber → List ℕ → Read BarNumber
bar_number_at last bytes =
    then_with (kept (is_over (option_map (λ s. s.bar.0) last)) byte_at bytes) (λ bar bytes.
    then_with (number_at 4 bytes) (λ number bytes.
    Ok (record { bar = record { 0 = bar }; number = number }, bytes)))

-- the lines of a body; a shared hold gives none back
unfoldable pub given_at : Mode → List ℕ → Read (List Line)
given_at mode bytes = then_with (kept (may_give mode) (number_at 4) bytes) (λ count bytes. entries_at line_at None count bytes)

-- the body of a request
unfoldable pub req_at : List ℕ → Read Body
req_at bytes =
    then_with (number_at 2 bytes) (λ lock bytes.
    then_with (mode_at bytes) (λ mode bytes.
    then_with (number_at 4 bytes) (λ have bytes.
    Ok (bodies.Req (record { 0 = lock }) mode have, bytes))))

-- the body of a grant
unfoldable pub grant_body_at : List ℕ → Read Body
grant_body_at bytes =
    then_with (number_at 2 bytes) (λ lock bytes.
    then_with (mode_at bytes) (λ mode bytes.
    then_with (number_at 4 bytes) (λ turn bytes.
    then_with (number_at 4 bytes) (λ version bytes.
    then_with (counted_at line_at bytes) (λ lines bytes.
    Ok (bodies.Grant (record { 0 = lock }) mode turn version lines, bytes))))))

-- the body of a release
unfoldable pub release_at : List ℕ → Read Body
release_at bytes =
    then_with (number_at 2 bytes) (λ lock bytes.
    then_with (mode_at bytes) (λ mode bytes.
    then_with (number_at 4 bytes) (λ version bytes.
    then_with (given_at mode bytes) (λ lines bytes.
    Ok (bodies.Release (record { 0 = lock }) mode version lines, bytes)))))

-- the body of an arrival
unfoldable pub arrive_at : List ℕ → Read Body
arrive_at bytes =
    then_with (byte_at bytes) (λ bar bytes.
    then_with (number_at 4 bytes) (λ epoch bytes.
    then_with (counted_at line_at bytes) (λ lines bytes.
    Ok (bodies.Arrive (record { 0 = bar }) epoch lines, bytes))))

-- the body of an opening
unfoldable pub opened_at : List ℕ → Read Body
opened_at bytes =
    then_with (byte_at bytes) (λ bar bytes.
    then_with (number_at 4 bytes) (λ epoch bytes.
    then_with (counted_at line_at bytes) (λ lines bytes.
    Ok (bodies.Opened (record { 0 = bar }) epoch lines, bytes))))

-- a body of a kind that goes to a home or manager
abbrev pub asking_at : ℕ → List ℕ → Read Body
asking_at kind bytes = if kind == 1 then req_at bytes else (if kind == 3 then release_at bytes else arrive_at bytes)

-- a body that is brought again, behind the one before it
unfoldable pub turn_body_at : Option TurnBody → List ℕ → Read TurnBody
turn_body_at last bytes =
    then_with (kept (is_over (option_map (λ b. b.turn) last)) (number_at 4) bytes) (λ turn bytes.
    then_with (kept is_asking byte_at bytes) (λ kind bytes.
    then_with (asking_at kind bytes) (λ body bytes.
    Ok (record { turn = turn; body = body }, bytes))))

-- the body of a resync
unfoldable pub resync_at : List ℕ → Read Body
resync_at bytes = then_with (counted_at turn_body_at bytes) (λ turn_bodies bytes. Ok (bodies.Resync turn_bodies, bytes))

-- the seven lists of a report
unfoldable pub report_at : List ℕ → Read Report
report_at bytes =
    then_with (counted_at grant_at bytes) (λ grants bytes.
    then_with (counted_at opening_at bytes) (λ openings bytes.
    then_with (counted_at record_at bytes) (λ records bytes.
    then_with (counted_at version_at bytes) (λ versions bytes.
    then_with (counted_at arrival_at bytes) (λ arrivals bytes.
    then_with (counted_at lock_stand_at bytes) (λ locks bytes.
    then_with (counted_at bar_stand_at bytes) (λ bars bytes.
    Ok (record { grants = grants; openings = openings; records = records; versions = versions; arrivals = arrivals; locks = locks; bars = bars }, bytes))))))))

-- the body of a report
unfoldable pub report_body_at : List ℕ → Read Body
report_body_at bytes = then_with (report_at bytes) (λ report bytes. Ok (bodies.Report report, bytes))

-- the body of kind 10
unfoldable pub pruned_at : List ℕ → Read Body
pruned_at bytes =
    then_with (number_at 4 bytes) (λ turn bytes.
    then_with (counted_at lock_number_at bytes) (λ versions bytes.
    then_with (counted_at bar_number_at bytes) (λ crossings bytes.
    Ok (bodies.Pruned turn versions crossings, bytes))))

-- the body of a kind
unfoldable pub body_at : ℕ → List ℕ → Read Body
body_at kind bytes =
    if kind == 1 then req_at bytes
    else (if kind == 2 then grant_body_at bytes
    else (if kind == 3 then release_at bytes
    else (if kind == 4 then arrive_at bytes
    else (if kind == 5 then opened_at bytes
    else (if kind == 6 then Ok (bodies.Note, bytes)
    else (if kind == 7 then Ok (bodies.Ack, bytes)
    else (if kind == 8 then resync_at bytes
    else (if kind == 9 then report_body_at bytes
    else (if kind == 10 then pruned_at bytes
    else Err (Broken (length bytes)))))))))))

-- what every message brings along
unfoldable pub carry_at : List ℕ → Read Carry
carry_at bytes =
    then_with (number_at 4 bytes) (λ turn bytes.
    then_with (number_at 4 bytes) (λ seen bytes.
    then_with (counted_at record_at bytes) (λ records bytes.
    then_with (counted_at pending_at bytes) (λ lines bytes.
    Ok (record { turn = turn; seen = seen; records = records; lines = lines }, bytes)))))

-- a whole message
unfoldable pub message_at : List ℕ → Read Msg
message_at bytes =
    then_with (kept is_kind byte_at bytes) (λ kind bytes.
    then_with (kept is_proc byte_at bytes) (λ from bytes.
    then_with (kept (is_other from) byte_at bytes) (λ to bytes.
    then_with (carry_at bytes) (λ carry bytes.
    then_with (body_at kind bytes) (λ body bytes.
    Ok (record { from = record { 0 = from }; to = record { 0 = to }; carry = carry; body = body }, bytes))))))
