-- Reading the fields of images from left to right: what the readers of the code give.
use Rattle.std.specs.Prelude.{ℕ, ℤ, zero, suc, Bool, ◌&&◌, ◌||◌, not, ◌==◌, nat_le, if◌then◌else◌, List, [], ◌∷◌, length, Option, Some, None, option_map, Ok, Err}
use Rattle.dsm_base.specs.declared.names.Proc.{Proc}
use Rattle.dsm_base.specs.declared.names.Lock.{Lock}
use Rattle.dsm_base.specs.declared.names.Mode.{Mode}
use Rattle.dsm_base.specs.declared.names.Mode.TheVariants.{Shared, Excl}
use Rattle.dsm_base.specs.declared.setup.Object.{Object}
use Rattle.dsm_base.specs.declared.lists.Record.{Record}
use Rattle.dsm_base.specs.declared.lists.PendingLine.{PendingLine}
use Rattle.dsm_base.specs.declared.lists.LoggedGrant.{LoggedGrant}
use Rattle.dsm_base.specs.declared.lists.LoggedOpening.{LoggedOpening}
use Rattle.dsm_lines.specs.Places.{lines_of}
use Rattle.dsm_lines.specs.declared.list.Line.{Line}
use Rattle.dsm_lines.specs.declared.of_objects.Version.{Version}
use Rattle.dsm_lines.specs.declared.of_objects.Arrival.{Arrival}
use Rattle.dsm_lines.specs.declared.of_objects.MailGrant.{MailGrant}
use Rattle.dsm_lines.specs.declared.of_objects.MailOpening.{MailOpening}
use Rattle.dsm_msg.specs.declared.message.TurnBody.{TurnBody}
use Rattle.dsm_msg.specs.declared.message.Body.{Body}
use Rattle.dsm_msg.specs.declared.message.Body.TheVariants as bodies
use Rattle.dsm_msg.specs.Spelling.{is_asking, may_give}
use Rattle.dsm_fields.specs.Fields.{are_printable, is_over, is_from, is_second_over}
use Rattle.dsm_fields.specs.Reading.{Cut, Broken, Read, then_with, kept, byte_at, number_at, signed_at, mode_at, text_at, numbered_at}
use Rattle.dsm_image_parts.specs.declared.scope.Scope.{Scope}
use Rattle.dsm_image_parts.specs.declared.entries.OwnLock.{OwnLock}
use Rattle.dsm_image_parts.specs.declared.entries.OwnBar.{OwnBar}
use Rattle.dsm_image_parts.specs.declared.entries.Outbox.{Outbox}
use Rattle.dsm_image_parts.specs.declared.entries.SavedLine.{SavedLine}
use Rattle.dsm_image_parts.specs.declared.entries.SavedLock.{SavedLock}
use Rattle.dsm_image_parts.specs.declared.entries.ProcLog.{ProcLog}
use Rattle.dsm_image_parts.specs.Keys.{each_at}
use Rattle.dsm_image_parts.specs.Spelling.{is_next_below, is_line_of, is_width_of, may_hold, is_lock, is_bar, version_place, arrival_place, is_not_under, is_lock_at, is_bar_at, width_of}

-- a count that passes a test, and so many entries
unfoldable pub listed_with_at : {A : Type 0} → (ℕ → Bool) → (ℕ → Option A → List ℕ → Read A) → List ℕ → Read (List A)
listed_with_at passes item_at bytes = then_with (kept passes (number_at 4) bytes) (λ count bytes. numbered_at item_at 0 None count bytes)

-- any count, and so many entries
unfoldable pub listed_at : {A : Type 0} → (ℕ → Option A → List ℕ → Read A) → List ℕ → Read (List A)
listed_at item_at bytes = then_with (number_at 4 bytes) (λ count bytes. numbered_at item_at 0 None count bytes)

-- the value of a cell, any
abbrev pub value_at : ℕ → Option ℤ → List ℕ → Read ℤ
value_at at last bytes = signed_at bytes

unfoldable pub line_at : Scope → Object → ℕ → Option Line → List ℕ → Read Line
line_at scope object at last bytes =
    then_with (kept (λ n. is_over (option_map (λ r. r.number) last) n && is_line_of scope object n) (number_at 4) bytes) (λ number bytes.
    then_with (kept (is_width_of scope number) byte_at bytes) (λ count bytes.
    then_with (numbered_at value_at 0 None count bytes) (λ values bytes.
    Ok (record { number = number; values = values }, bytes))))

unfoldable pub cell_at : Scope → ℕ → Option ℤ → List ℕ → Read ℤ
cell_at scope cell last bytes = kept (may_hold scope cell) signed_at bytes

unfoldable pub marked_at : ℕ → ℕ → Option ℕ → List ℕ → Read ℕ
marked_at count at last bytes = kept (is_next_below count last) (number_at 4) bytes

-- the byte that tells whether a lock is held, and how; another is the field's place
unfoldable pub hold_at : List ℕ → Read (Option Mode)
hold_at [] = Err (Cut 0)
hold_at (zero ∷ bytes) = Ok (None, bytes)
hold_at (suc zero ∷ bytes) = Ok (Some Shared, bytes)
hold_at (suc (suc zero) ∷ bytes) = Ok (Some Excl, bytes)
hold_at (suc (suc (suc byte)) ∷ bytes) = Err (Broken (length (suc (suc (suc byte)) ∷ bytes)))

unfoldable pub own_lock_at : ℕ → Option OwnLock → List ℕ → Read OwnLock
own_lock_at at last bytes =
    then_with (number_at 4 bytes) (λ have bytes.
    then_with (hold_at bytes) (λ held bytes.
    then_with (hold_at bytes) (λ asked bytes.
    Ok (record { have = have; held = held; asked = asked }, bytes))))

unfoldable pub own_bar_at : ℕ → Option OwnBar → List ℕ → Read OwnBar
own_bar_at at last bytes =
    then_with (number_at 4 bytes) (λ arrivals bytes.
    then_with (number_at 4 bytes) (λ crossings bytes.
    Ok (record { arrivals = arrivals; crossings = crossings }, bytes)))

unfoldable pub mail_grant_at : Scope → ℕ → Option MailGrant → List ℕ → Read MailGrant
mail_grant_at scope at last bytes =
    then_with (number_at 4 bytes) (λ turn bytes.
    then_with (kept (is_lock scope) (number_at 2) bytes) (λ lock bytes.
    then_with (mode_at bytes) (λ mode bytes.
    then_with (number_at 4 bytes) (λ version bytes.
    then_with (listed_at (line_at scope (Object.Lock (record { 0 = lock }))) bytes) (λ lines bytes.
    Ok (record { turn = turn; lock = record { 0 = lock }; mode = mode; version = version; lines = lines }, bytes))))))

unfoldable pub mail_opening_at : Scope → ℕ → Option MailOpening → List ℕ → Read MailOpening
mail_opening_at scope at last bytes =
    then_with (number_at 4 bytes) (λ turn bytes.
    then_with (kept (is_bar scope) byte_at bytes) (λ bar bytes.
    then_with (number_at 4 bytes) (λ epoch bytes.
    then_with (listed_at (line_at scope (Object.Bar (record { 0 = bar }))) bytes) (λ lines bytes.
    Ok (record { turn = turn; bar = record { 0 = bar }; epoch = epoch; lines = lines }, bytes)))))

unfoldable pub seen_at : ℕ → ℕ → Option ℕ → List ℕ → Read ℕ
seen_at me proc last bytes = kept (λ turn. not (proc == me) || (turn == 0)) (number_at 4) bytes

unfoldable pub record_at : Scope → ℕ → Option Record → List ℕ → Read Record
record_at scope at last bytes =
    then_with (kept (is_over (option_map (λ r. r.turn) last)) (number_at 4) bytes) (λ turn bytes.
    then_with (kept (is_lock scope) (number_at 2) bytes) (λ lock bytes.
    then_with (number_at 4 bytes) (λ version bytes.
    Ok (record { turn = turn; lock = record { 0 = lock }; version = version }, bytes))))

unfoldable pub pending_at : ℕ → Option PendingLine → List ℕ → Read PendingLine
pending_at at last bytes =
    then_with (kept (is_over (option_map (λ r. r.turn) last)) (number_at 4) bytes) (λ turn bytes.
    then_with (kept (λ count. nat_le count 256) (number_at 2) bytes) (λ count bytes.
    then_with (kept are_printable (text_at count) bytes) (λ text bytes.
    Ok (record { turn = turn; text = text }, bytes))))

unfoldable pub version_at : Scope → ℕ → Option Version → List ℕ → Read Version
version_at scope at last bytes =
    then_with (kept (λ lock. is_from (option_map version_place last) lock && is_lock scope lock) (number_at 2) bytes) (λ lock bytes.
    then_with (kept (is_second_over (option_map version_place last) lock) (number_at 4) bytes) (λ version bytes.
    then_with (listed_at (line_at scope (Object.Lock (record { 0 = lock }))) bytes) (λ lines bytes.
    Ok (record { lock = record { 0 = lock }; version = version; lines = lines }, bytes))))

unfoldable pub arrival_at : Scope → ℕ → Option Arrival → List ℕ → Read Arrival
arrival_at scope at last bytes =
    then_with (kept (λ bar. is_from (option_map arrival_place last) bar && is_bar scope bar) byte_at bytes) (λ bar bytes.
    then_with (kept (is_second_over (option_map arrival_place last) bar) (number_at 4) bytes) (λ epoch bytes.
    then_with (listed_at (line_at scope (Object.Bar (record { 0 = bar }))) bytes) (λ lines bytes.
    Ok (record { bar = record { 0 = bar }; epoch = epoch; lines = lines }, bytes))))

unfoldable pub logged_grant_at : Scope → ℕ → Option LoggedGrant → List ℕ → Read LoggedGrant
logged_grant_at scope at last bytes =
    then_with (kept (is_not_under (option_map (λ r. r.turn) last)) (number_at 4) bytes) (λ turn bytes.
    then_with (kept (is_lock scope) (number_at 2) bytes) (λ lock bytes.
    then_with (mode_at bytes) (λ mode bytes.
    then_with (number_at 4 bytes) (λ version bytes.
    Ok (record { turn = turn; lock = record { 0 = lock }; mode = mode; version = version }, bytes)))))

unfoldable pub logged_opening_at : Scope → ℕ → Option LoggedOpening → List ℕ → Read LoggedOpening
logged_opening_at scope at last bytes =
    then_with (kept (is_not_under (option_map (λ r. r.turn) last)) (number_at 4) bytes) (λ turn bytes.
    then_with (kept (is_bar scope) byte_at bytes) (λ bar bytes.
    then_with (number_at 4 bytes) (λ epoch bytes.
    Ok (record { turn = turn; bar = record { 0 = bar }; epoch = epoch }, bytes))))

unfoldable pub req_at : Scope → ℕ → List ℕ → Read Body
req_at scope to bytes =
    then_with (kept (is_lock_at scope to) (number_at 2) bytes) (λ lock bytes.
    then_with (mode_at bytes) (λ mode bytes.
    then_with (number_at 4 bytes) (λ have bytes.
    Ok (bodies.Req (record { 0 = lock }) mode have, bytes))))

unfoldable pub release_at : Scope → ℕ → List ℕ → Read Body
release_at scope to bytes =
    then_with (kept (is_lock_at scope to) (number_at 2) bytes) (λ lock bytes.
    then_with (mode_at bytes) (λ mode bytes.
    then_with (number_at 4 bytes) (λ version bytes.
    then_with (listed_with_at (may_give mode) (line_at scope (Object.Lock (record { 0 = lock }))) bytes) (λ lines bytes.
    Ok (bodies.Release (record { 0 = lock }) mode version lines, bytes)))))

unfoldable pub arrive_at : Scope → ℕ → List ℕ → Read Body
arrive_at scope to bytes =
    then_with (kept (is_bar_at scope to) byte_at bytes) (λ bar bytes.
    then_with (number_at 4 bytes) (λ epoch bytes.
    then_with (listed_at (line_at scope (Object.Bar (record { 0 = bar }))) bytes) (λ lines bytes.
    Ok (bodies.Arrive (record { 0 = bar }) epoch lines, bytes))))

-- a body of a kind that goes to a home or manager
abbrev pub asking_at : Scope → ℕ → ℕ → List ℕ → Read Body
asking_at scope to kind bytes = if kind == 1 then req_at scope to bytes else (if kind == 3 then release_at scope to bytes else arrive_at scope to bytes)

unfoldable pub sent_at : Scope → ℕ → ℕ → Option TurnBody → List ℕ → Read TurnBody
sent_at scope to at last bytes =
    then_with (kept (is_over (option_map (λ b. b.turn) last)) (number_at 4) bytes) (λ turn bytes.
    then_with (kept is_asking byte_at bytes) (λ kind bytes.
    then_with (asking_at scope to kind bytes) (λ body bytes.
    Ok (record { turn = turn; body = body }, bytes))))

unfoldable pub outbox_at : Scope → Proc → List ℕ → Read Outbox
outbox_at scope to bytes = then_with (listed_at (sent_at scope to.0) bytes) (λ list bytes. Ok (record { proc = to; bodies = list }, bytes))

unfoldable pub saved_line_at : Scope → ℕ → List ℕ → Read SavedLine
saved_line_at scope line bytes =
    then_with (number_at 4 bytes) (λ stamp bytes.
    then_with (numbered_at value_at 0 None (width_of scope line) bytes) (λ values bytes.
    Ok (record { stamp = stamp; values = values }, bytes)))

unfoldable pub saved_lock_at : Scope → Lock → List ℕ → Read SavedLock
saved_lock_at scope lock bytes =
    then_with (number_at 4 bytes) (λ version bytes.
    then_with (each_at (λ line last. saved_line_at scope line) None (lines_of scope.table (Object.Lock lock)) bytes) (λ lines bytes.
    Ok (record { lock = lock; version = version; lines = lines }, bytes)))

unfoldable pub log_at : Scope → Proc → List ℕ → Read ProcLog
log_at scope proc bytes =
    then_with (listed_at (logged_grant_at scope) bytes) (λ grants bytes.
    then_with (listed_at (logged_opening_at scope) bytes) (λ openings bytes.
    then_with (listed_at (record_at scope) bytes) (λ records bytes.
    Ok (record { proc = proc; logged = record { grants = grants; openings = openings; records = records } }, bytes))))
