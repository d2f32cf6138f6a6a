-- Each format of a message has an exact reader.
use Rattle.std.proofs.Common.{replicate, ℕ, ℤ, pos, Bool, true, false, List, [], ◌∷◌, length, Option, None, option_map, refl, ap}
use Rattle.std.specs.Prelude.{◌&&◌, ◌||◌, ◌==◌, not, nat_le}
use Rattle.std.proofs.lemmas.List.{length-replicate}
use Rattle.dsm_base.specs.declared.names.Mode.{Mode}
use Rattle.dsm_base.specs.declared.names.Mode.TheVariants.{Shared}
use Rattle.dsm_base.specs.declared.lists.Record.{Record}
use Rattle.dsm_base.specs.declared.lists.PendingLine.{PendingLine}
use Rattle.dsm_base.specs.declared.lists.LoggedGrant.{LoggedGrant}
use Rattle.dsm_base.specs.declared.lists.LoggedOpening.{LoggedOpening}
use Rattle.dsm_base.specs.declared.lists.LockStand.{LockStand}
use Rattle.dsm_base.specs.declared.lists.BarStand.{BarStand}
use Rattle.dsm_base.specs.declared.lists.LockNumber.{LockNumber}
use Rattle.dsm_base.specs.declared.lists.BarNumber.{BarNumber}
use Rattle.dsm_lines.specs.declared.list.Line.{Line}
use Rattle.dsm_lines.specs.declared.of_objects.Version.{Version}
use Rattle.dsm_lines.specs.declared.of_objects.Arrival.{Arrival}
use Rattle.dsm_msg.specs.declared.message.Carry.{Carry}
use Rattle.dsm_msg.specs.declared.message.Report.{Report}
use Rattle.dsm_fields.specs.Fields.{Any, number, are_printable, is_over, is_from, is_second_over, counted}
use Rattle.dsm_msg.specs.Spelling.{record_fields, pending_fields, grant_fields, opening_fields, bar_stand_fields, lock_number_fields, bar_number_fields, lock_stand_fields, value_fields, line_fields, version_fields, arrival_fields, carry_fields, report_fields, version_place, arrival_place}
use Rattle.dsm_fields.specs.Reading.{counted_at}
use Rattle.dsm_msg.specs.Reading.{value_at, record_at, pending_at, grant_at, opening_at, bar_stand_at, lock_number_at, bar_number_at, lock_stand_at, line_at, version_at, arrival_at, carry_at, report_at}
use Rattle.dsm_fields.proofs.Exact.{Exact, done}
use Rattle.dsm_fields.proofs.Chain.{At}
use Rattle.dsm_fields.proofs.Formats.{listed, counted_list}
use Rattle.dsm_fields.proofs.Numbers.{number_exact, any_number, byte_exact, any_byte, mode_exact, bool_exact, any_signed, text_exact}
use Rattle.dsm_fields.proofs.Steps.{step, put, rest_of, known}

pub record_exact : (last : Option Record) → Exact Any (record_fields last) (record_at last)
unfolding record_at
record_exact last =
    let made : ℕ → ℕ → ℕ → Record = (λ turn lock version. record { turn = turn; lock = record { 0 = lock }; version = version }) in
    step (number_exact 4 (is_over (option_map (λ r. r.turn) last)))
    (λ turn. step (any_number 2)
    (λ lock. step (any_number 4)
    (λ version. done (At (At (At Any (λ r. r.turn) turn) (λ r. r.lock.0) lock) (λ r. r.version) version) (made turn lock version) (put (put (put tt)))
    (λ other at. rw (← at.same, ← at.is.same, ← at.is.is.same) refl))
    (λ version. (made turn lock version, put (put (put tt)))))
    (λ lock. (made turn lock 0, put (put tt))))
    (λ turn. (made turn 0 0, put tt))

pub grant_exact : (last : Option LoggedGrant) → Exact Any (grant_fields last) (grant_at last)
unfolding grant_at
grant_exact last =
    let made : ℕ → ℕ → Mode → ℕ → LoggedGrant = (λ turn lock mode version. record { turn = turn; lock = record { 0 = lock }; mode = mode; version = version }) in
    step (number_exact 4 (is_over (option_map (λ r. r.turn) last)))
    (λ turn. step (any_number 2)
    (λ lock. step mode_exact
    (λ mode. step (any_number 4)
    (λ version. done (At (At (At (At Any (λ r. r.turn) turn) (λ r. r.lock.0) lock) (λ r. r.mode) mode) (λ r. r.version) version) (made turn lock mode version) (put (put (put (put tt))))
    (λ other at. rw (← at.same, ← at.is.same, ← at.is.is.same, ← at.is.is.is.same) refl))
    (λ version. (made turn lock mode version, put (put (put (put tt))))))
    (λ mode. (made turn lock mode 0, put (put (put tt)))))
    (λ lock. (made turn lock Shared 0, put (put tt))))
    (λ turn. (made turn 0 Shared 0, put tt))

pub opening_exact : (last : Option LoggedOpening) → Exact Any (opening_fields last) (opening_at last)
unfolding opening_at
opening_exact last =
    let made : ℕ → ℕ → ℕ → LoggedOpening = (λ turn bar epoch. record { turn = turn; bar = record { 0 = bar }; epoch = epoch }) in
    step (number_exact 4 (is_over (option_map (λ r. r.turn) last)))
    (λ turn. step any_byte
    (λ bar. step (any_number 4)
    (λ epoch. done (At (At (At Any (λ r. r.turn) turn) (λ r. r.bar.0) bar) (λ r. r.epoch) epoch) (made turn bar epoch) (put (put (put tt)))
    (λ other at. rw (← at.same, ← at.is.same, ← at.is.is.same) refl))
    (λ epoch. (made turn bar epoch, put (put (put tt)))))
    (λ bar. (made turn bar 0, put (put tt))))
    (λ turn. (made turn 0 0, put tt))

pub bar_stand_exact : (last : Option BarStand) → Exact Any (bar_stand_fields last) (bar_stand_at last)
unfolding bar_stand_at
bar_stand_exact last =
    let made : ℕ → ℕ → ℕ → BarStand = (λ bar arrivals openings. record { bar = record { 0 = bar }; arrivals = arrivals; openings = openings }) in
    step (byte_exact (is_over (option_map (λ s. s.bar.0) last)))
    (λ bar. step (any_number 4)
    (λ arrivals. step (any_number 4)
    (λ openings. done (At (At (At Any (λ r. r.bar.0) bar) (λ r. r.arrivals) arrivals) (λ r. r.openings) openings) (made bar arrivals openings) (put (put (put tt)))
    (λ other at. rw (← at.same, ← at.is.same, ← at.is.is.same) refl))
    (λ openings. (made bar arrivals openings, put (put (put tt)))))
    (λ arrivals. (made bar arrivals 0, put (put tt))))
    (λ bar. (made bar 0 0, put tt))

pub lock_number_exact : (last : Option LockNumber) → Exact Any (lock_number_fields last) (lock_number_at last)
unfolding lock_number_at
lock_number_exact last =
    let made : ℕ → ℕ → LockNumber = (λ lock number. record { lock = record { 0 = lock }; number = number }) in
    step (number_exact 2 (is_over (option_map (λ s. s.lock.0) last)))
    (λ lock. step (any_number 4)
    (λ number. done (At (At Any (λ r. r.lock.0) lock) (λ r. r.number) number) (made lock number) (put (put tt)) (λ other at. rw (← at.same, ← at.is.same) refl))
    (λ number. (made lock number, put (put tt))))
    (λ lock. (made lock 0, put tt))

pub bar_number_exact : (last : Option BarNumber) → Exact Any (bar_number_fields last) (bar_number_at last)
unfolding bar_number_at
bar_number_exact last =
    let made : ℕ → ℕ → BarNumber = (λ bar number. record { bar = record { 0 = bar }; number = number }) in
    step (byte_exact (is_over (option_map (λ s. s.bar.0) last)))
    (λ bar. step (any_number 4)
    (λ number. done (At (At Any (λ r. r.bar.0) bar) (λ r. r.number) number) (made bar number) (put (put tt)) (λ other at. rw (← at.same, ← at.is.same) refl))
    (λ number. (made bar number, put (put tt))))
    (λ bar. (made bar 0, put tt))

pub lock_stand_exact : (last : Option LockStand) → Exact Any (lock_stand_fields last) (lock_stand_at last)
unfolding lock_stand_at
lock_stand_exact last =
    let made : ℕ → Mode → Bool → ℕ → ℕ → LockStand = (λ lock mode granted turn have. record { lock = record { 0 = lock }; mode = mode; granted = granted; turn = turn; have = have }) in
    step (number_exact 2 (is_over (option_map (λ s. s.lock.0) last)))
    (λ lock. step mode_exact
    (λ mode. step bool_exact
    (λ granted. known (λ s. number 4 s.turn (not s.granted || (s.turn == 0)) ∷ number 4 s.have true ∷ [])
    (λ s at. ap (λ (g : Bool). number 4 s.turn (not g || (s.turn == 0)) ∷ number 4 s.have true ∷ []) at.same)
    (step (number_exact 4 (λ turn. not granted || (turn == 0)))
    (λ turn. step (any_number 4)
    (λ have. done (At (At (At (At (At Any (λ r. r.lock.0) lock) (λ r. r.mode) mode) (λ r. r.granted) granted) (λ r. r.turn) turn) (λ r. r.have) have) (made lock mode granted turn have) (put (put (put (put (put tt)))))
    (λ other at. rw (← at.same, ← at.is.same, ← at.is.is.same, ← at.is.is.is.same, ← at.is.is.is.is.same) refl))
    (λ have. (made lock mode granted turn have, put (put (put (put (put tt)))))))
    (λ turn. (made lock mode granted turn 0, put (put (put (put tt)))))))
    (λ granted. (made lock mode granted 0 0, put (put (put tt)))))
    (λ mode. (made lock mode false 0 0, put (put tt))))
    (λ lock. (made lock Shared false 0 0, put tt))

pub pending_exact : (last : Option PendingLine) → Exact Any (pending_fields last) (pending_at last)
unfolding pending_at
pending_exact last =
    let made : ℕ → List ℕ → PendingLine = (λ turn bytes. record { turn = turn; text = bytes }) in
    step (number_exact 4 (is_over (option_map (λ r. r.turn) last)))
    (λ turn. step (number_exact 2 (λ count. nat_le count 256))
    (λ count. rest_of (At (At Any (λ r. r.turn) turn) (λ r. length r.text) count) (λ r. r.text) (made turn) (text_exact are_printable count)
    (λ bytes len. record { is = put tt; same = len }) (λ bytes. refl) (λ r at. at.same) (λ r at. rw (← at.is.same) refl))
    (λ count. (made turn (replicate count 32), record { is = put tt; same = length-replicate count 32 })))
    (λ turn. (made turn [], put tt))

pub line_exact : (last : Option Line) → Exact Any (line_fields last) (line_at last)
unfolding line_at
line_exact last =
    let made : ℕ → List ℤ → Line = (λ number values. record { number = number; values = values }) in
    step (number_exact 4 (is_over (option_map (λ r. r.number) last)))
    (λ number. step (byte_exact (λ count. nat_le 1 count && nat_le count 8))
    (λ count. rest_of (At (At Any (λ r. r.number) number) (λ r. length r.values) count) (λ r. r.values) (made number) (listed (pos 0) value_fields value_at (λ last. any_signed) count None)
    (λ values len. record { is = put tt; same = len }) (λ values. refl) (λ r at. at.same) (λ r at. rw (← at.is.same) refl))
    (λ count. (made number (replicate count (pos 0)), record { is = put tt; same = length-replicate count (pos 0) })))
    (λ number. (made number [], put tt))

abbrev pub no_line : Line
no_line = record { number = 0; values = [] }

pub lines_exact : Exact Any (counted line_fields) (counted_at line_at)
lines_exact = counted_list no_line line_fields line_at (any_number 4) line_exact

pub version_exact : (last : Option Version) → Exact Any (version_fields last) (version_at last)
unfolding version_at
version_exact last =
    let made : ℕ → ℕ → List Line → Version = (λ lock version lines. record { lock = record { 0 = lock }; version = version; lines = lines }) in
    let place = option_map version_place last in
    step (number_exact 2 (is_from place))
    (λ lock. known (λ v. number 4 v.version (is_second_over place v.lock.0 v.version) ∷ counted line_fields v.lines)
    (λ v at. ap (λ (l : ℕ). number 4 v.version (is_second_over place l v.version) ∷ counted line_fields v.lines) at.same)
    (step (number_exact 4 (is_second_over place lock))
    (λ version. rest_of (At (At Any (λ v. v.lock.0) lock) (λ v. v.version) version) (λ v. v.lines) (made lock version) lines_exact
    (λ lines is. put (put tt)) (λ lines. refl) (λ v at. tt) (λ v at. rw (← at.same, ← at.is.same) refl))
    (λ version. (made lock version [], put (put tt)))))
    (λ lock. (made lock 0 [], put tt))

pub arrival_exact : (last : Option Arrival) → Exact Any (arrival_fields last) (arrival_at last)
unfolding arrival_at
arrival_exact last =
    let made : ℕ → ℕ → List Line → Arrival = (λ bar epoch lines. record { bar = record { 0 = bar }; epoch = epoch; lines = lines }) in
    let place = option_map arrival_place last in
    step (byte_exact (is_from place))
    (λ bar. known (λ a. number 4 a.epoch (is_second_over place a.bar.0 a.epoch) ∷ counted line_fields a.lines)
    (λ a at. ap (λ (b : ℕ). number 4 a.epoch (is_second_over place b a.epoch) ∷ counted line_fields a.lines) at.same)
    (step (number_exact 4 (is_second_over place bar))
    (λ epoch. rest_of (At (At Any (λ a. a.bar.0) bar) (λ a. a.epoch) epoch) (λ a. a.lines) (made bar epoch) lines_exact
    (λ lines is. put (put tt)) (λ lines. refl) (λ a at. tt) (λ a at. rw (← at.same, ← at.is.same) refl))
    (λ epoch. (made bar epoch [], put (put tt)))))
    (λ bar. (made bar 0 [], put tt))

records_exact : Exact Any (counted record_fields) (counted_at record_at)
records_exact = counted_list (record { turn = 0; lock = record { 0 = 0 }; version = 0 }) record_fields record_at (any_number 4) record_exact

pub carry_exact : Exact Any carry_fields carry_at
unfolding carry_at
carry_exact =
    let made : ℕ → ℕ → List Record → List PendingLine → Carry = (λ turn seen records lines. record { turn = turn; seen = seen; records = records; lines = lines }) in
    step (any_number 4)
    (λ turn. step (any_number 4)
    (λ seen. step records_exact
    (λ records. rest_of (At (At (At Any (λ c. c.turn) turn) (λ c. c.seen) seen) (λ c. c.records) records) (λ c. c.lines) (made turn seen records)
    (counted_list (record { turn = 0; text = [] }) pending_fields pending_at (any_number 4) pending_exact)
    (λ lines is. put (put (put tt))) (λ lines. refl) (λ c at. tt) (λ c at. rw (← at.same, ← at.is.same, ← at.is.is.same) refl))
    (λ records. (made turn seen records [], put (put (put tt)))))
    (λ seen. (made turn seen [] [], put (put tt))))
    (λ turn. (made turn 0 [] [], put tt))

pub report_exact : Exact Any report_fields report_at
unfolding report_at
report_exact =
    let made : List LoggedGrant → List LoggedOpening → List Record → List Version → List Arrival → List LockStand → List BarStand → Report =
    (λ grants openings records versions arrivals locks bars. record { grants = grants; openings = openings; records = records; versions = versions; arrivals = arrivals; locks = locks; bars = bars }) in
    step (counted_list (record { turn = 0; lock = record { 0 = 0 }; mode = Shared; version = 0 }) grant_fields grant_at (any_number 4) grant_exact)
    (λ grants. step (counted_list (record { turn = 0; bar = record { 0 = 0 }; epoch = 0 }) opening_fields opening_at (any_number 4) opening_exact)
    (λ openings. step records_exact
    (λ records. step (counted_list (record { lock = record { 0 = 0 }; version = 0; lines = [] }) version_fields version_at (any_number 4) version_exact)
    (λ versions. step (counted_list (record { bar = record { 0 = 0 }; epoch = 0; lines = [] }) arrival_fields arrival_at (any_number 4) arrival_exact)
    (λ arrivals. step (counted_list (record { lock = record { 0 = 0 }; mode = Shared; granted = false; turn = 0; have = 0 }) lock_stand_fields lock_stand_at (any_number 4) lock_stand_exact)
    (λ locks. rest_of (At (At (At (At (At (At Any (λ r. r.grants) grants) (λ r. r.openings) openings) (λ r. r.records) records) (λ r. r.versions) versions) (λ r. r.arrivals) arrivals) (λ r. r.locks) locks) (λ r. r.bars)
    (made grants openings records versions arrivals locks)
    (counted_list (record { bar = record { 0 = 0 }; arrivals = 0; openings = 0 }) bar_stand_fields bar_stand_at (any_number 4) bar_stand_exact)
    (λ bars is. put (put (put (put (put (put tt)))))) (λ bars. refl) (λ r at. tt)
    (λ r at. rw (← at.same, ← at.is.same, ← at.is.is.same, ← at.is.is.is.same, ← at.is.is.is.is.same, ← at.is.is.is.is.is.same) refl))
    (λ locks. (made grants openings records versions arrivals locks [], put (put (put (put (put (put tt))))))))
    (λ arrivals. (made grants openings records versions arrivals [] [], put (put (put (put (put tt)))))))
    (λ versions. (made grants openings records versions [] [] [], put (put (put (put tt))))))
    (λ records. (made grants openings records [] [] [] [], put (put (put tt)))))
    (λ openings. (made grants openings [] [] [] [] [], put (put tt))))
    (λ grants. (made grants [] [] [] [] [] [], put tt))
