-- A home's locks and the logs have exact readers, and so have lists with one entry for each key.
use Rattle.std.proofs.Common.{replicate, ◌≡◌, ℕ, ℤ, pos, List, [], ◌∷◌, ◌++◌, length, map, Option, None, refl, ap}
use Rattle.std.specs.List.{AllZip}
use Rattle.std.proofs.lemmas.List.{length-replicate}
use Rattle.dsm_base.specs.declared.names.Proc.{Proc}
use Rattle.dsm_base.specs.declared.names.Lock.{Lock}
use Rattle.dsm_base.specs.declared.names.Mode.TheVariants.{Shared}
use Rattle.dsm_base.specs.declared.setup.Object.{Object}
use Rattle.dsm_base.specs.declared.lists.Record.{Record}
use Rattle.dsm_base.specs.declared.lists.LoggedGrant.{LoggedGrant}
use Rattle.dsm_base.specs.declared.lists.LoggedOpening.{LoggedOpening}
use Rattle.dsm_lines.specs.Places.{lines_of}
use Rattle.dsm_fields.specs.Fields.{numbered}
use Rattle.dsm_fields.proofs.Exact.{Exact}
use Rattle.dsm_fields.proofs.Chain.{At}
use Rattle.dsm_fields.proofs.Numbers.{any_number, any_signed}
use Rattle.dsm_fields.proofs.Steps.{step, put, rest_of, fixed_exact}
use Rattle.dsm_image_parts.specs.declared.scope.Scope.{Scope}
use Rattle.dsm_image_parts.specs.declared.entries.Outbox.{Outbox}
use Rattle.dsm_image_parts.specs.declared.entries.SavedLine.{SavedLine}
use Rattle.dsm_image_parts.specs.declared.entries.SavedLock.{SavedLock}
use Rattle.dsm_image_parts.specs.declared.entries.ProcLog.{ProcLog}
use Rattle.dsm_image_parts.specs.Keys.{others, home_locks, each_at}
use Rattle.dsm_image_parts.specs.Spelling.{value_fields, record_fields, logged_grant_fields, logged_opening_fields, outbox_fields, IsTo, saved_line_fields, width_of, IsWide, saved_lock_fields, IsSaved, log_fields, IsLogOf}
use Rattle.dsm_image_parts.specs.Reading.{value_at, record_at, logged_grant_at, logged_opening_at, outbox_at, saved_line_at, saved_lock_at, log_at}
use Rattle.dsm_image_parts.proofs.Keyed.{are_defaults, each_exact}
use Rattle.dsm_image_parts.proofs.Grammar.{listed_exact, record_exact, logged_grant_exact, logged_opening_exact}
use Rattle.dsm_image_parts.proofs.Bodies.{outbox_exact}

-- ---- a lock at its home

abbrev some_line : Scope → ℕ → SavedLine
some_line scope line = record { stamp = 0; values = replicate (width_of scope line) (pos 0) }

some_line_wide : (scope : Scope) (line : ℕ) → IsWide scope line (some_line scope line)
some_line_wide scope line = length-replicate (width_of scope line) (pos 0)

saved_line_exact : (scope : Scope) (line at : ℕ) (last : Option SavedLine) → Exact (IsWide scope line) (saved_line_fields at last) (saved_line_at scope line)
unfolding saved_line_at
saved_line_exact scope line at last =
    let made : ℕ → List ℤ → SavedLine = (λ stamp values. record { stamp = stamp; values = values }) in
    step (any_number 4)
    (λ stamp. rest_of (At (IsWide scope line) (λ l. l.stamp) stamp) (λ l. l.values) (made stamp) (fixed_exact (pos 0) value_fields value_at (λ at last. any_signed) (width_of scope line))
    (λ values len. put len) (λ values. refl) (λ l at. at.is) (λ l at. rw (← at.same) refl))
    (λ stamp. (made stamp (replicate (width_of scope line) (pos 0)), put (length-replicate (width_of scope line) (pos 0))))

abbrev lines_at : Scope → Lock → List ℕ
lines_at scope lock = lines_of scope.table (Object.Lock lock)

abbrev some_lines : Scope → Lock → List SavedLine
some_lines scope lock = map (some_line scope) (lines_at scope lock)

some_lines_are : (scope : Scope) (lock : Lock) → AllZip (IsWide scope) (lines_at scope lock) (some_lines scope lock)
some_lines_are scope lock = are_defaults (some_line scope) (IsWide scope) (some_line_wide scope) (lines_at scope lock)

abbrev lock_made : Lock → ℕ → List SavedLine → SavedLock
lock_made lock version lines = record { lock = lock; version = version; lines = lines }

abbrev some_lock : Scope → Lock → SavedLock
some_lock scope lock = lock_made lock 0 (some_lines scope lock)

some_lock_is : (scope : Scope) (lock : Lock) → IsSaved scope lock (some_lock scope lock)
some_lock_is scope lock = record { same = refl; lines = some_lines_are scope lock }

saved_lock_exact : (scope : Scope) (lock : Lock) (at : ℕ) (last : Option SavedLock) → Exact (IsSaved scope lock) (saved_lock_fields at last) (saved_lock_at scope lock)
unfolding saved_lock_at
saved_lock_exact scope lock at last =
    step (any_number 4)
    (λ version. rest_of (At (IsSaved scope lock) (λ h. h.version) version) (λ h. h.lines) (lock_made lock version)
    (each_exact (some_line scope) (IsWide scope) saved_line_fields (λ line last. saved_line_at scope line) (some_line_wide scope) (saved_line_exact scope) (lines_at scope lock) 0 None)
    (λ lines are. put (record { same = refl; lines = are })) (λ lines. refl) (λ h at. at.is.lines) (λ h at. rw (← at.same, ← at.is.same) refl))
    (λ version. (lock_made lock version (some_lines scope lock), put (record { same = refl; lines = some_lines_are scope lock })))

-- ---- logs

log_exact : (scope : Scope) (proc : Proc) (at : ℕ) (last : Option ProcLog) → Exact (IsLogOf proc) (log_fields scope at last) (log_at scope proc)
unfolding log_at
log_exact scope proc at last =
    let made : List LoggedGrant → List LoggedOpening → List Record → ProcLog = (λ grants openings records. record { proc = proc; logged = record { grants = grants; openings = openings; records = records } }) in
    step (listed_exact (record { turn = 0; lock = record { 0 = 0 }; mode = Shared; version = 0 }) (logged_grant_fields scope) (logged_grant_at scope) (logged_grant_exact scope))
    (λ grants. step (listed_exact (record { turn = 0; bar = record { 0 = 0 }; epoch = 0 }) (logged_opening_fields scope) (logged_opening_at scope) (logged_opening_exact scope))
    (λ openings. rest_of (At (At (IsLogOf proc) (λ l. l.logged.grants) grants) (λ l. l.logged.openings) openings) (λ l. l.logged.records) (made grants openings)
    (listed_exact (record { turn = 0; lock = record { 0 = 0 }; version = 0 }) (record_fields scope) (record_at scope) (record_exact scope))
    (λ records is. put (put refl)) (λ records. refl) (λ l at. tt) (λ l at. rw (← at.same, ← at.is.same, ← at.is.is) refl))
    (λ openings. (made grants openings [], put (put refl))))
    (λ grants. (made grants [] [], put refl))

-- ---- one for each

abbrev some_outbox : Proc → Outbox
some_outbox proc = record { proc = proc; bodies = [] }

abbrev some_log : Proc → ProcLog
some_log proc = record { proc = proc; logged = record { grants = []; openings = []; records = [] } }

abbrev pub some_outboxes : Scope → ℕ → List Outbox
some_outboxes scope me = map some_outbox (others scope me)

pub outboxes_are : (scope : Scope) (me : ℕ) → AllZip IsTo (others scope me) (some_outboxes scope me)
outboxes_are scope me = are_defaults some_outbox IsTo (λ proc. refl) (others scope me)

pub outboxes_exact : (scope : Scope) (me : ℕ) → Exact (AllZip IsTo (others scope me)) (numbered (outbox_fields scope) 0 None) (each_at (λ proc last. outbox_at scope proc) None (others scope me))
outboxes_exact scope me = each_exact some_outbox IsTo (outbox_fields scope) (λ proc last. outbox_at scope proc) (λ proc. refl) (outbox_exact scope) (others scope me) 0 None

abbrev pub some_homes : Scope → ℕ → List SavedLock
some_homes scope me = map (some_lock scope) (home_locks scope me)

pub homes_are : (scope : Scope) (me : ℕ) → AllZip (IsSaved scope) (home_locks scope me) (some_homes scope me)
homes_are scope me = are_defaults (some_lock scope) (IsSaved scope) (some_lock_is scope) (home_locks scope me)

pub homes_exact : (scope : Scope) (me : ℕ) → Exact (AllZip (IsSaved scope) (home_locks scope me)) (numbered saved_lock_fields 0 None) (each_at (λ lock last. saved_lock_at scope lock) None (home_locks scope me))
homes_exact scope me = each_exact (some_lock scope) (IsSaved scope) saved_lock_fields (λ lock last. saved_lock_at scope lock) (some_lock_is scope) (saved_lock_exact scope) (home_locks scope me) 0 None

abbrev pub some_logs : Scope → ℕ → List ProcLog
some_logs scope me = map some_log (others scope me)

pub logs_are : (scope : Scope) (me : ℕ) → AllZip IsLogOf (others scope me) (some_logs scope me)
logs_are scope me = are_defaults some_log IsLogOf (λ proc. refl) (others scope me)

pub logs_exact : (scope : Scope) (me : ℕ) → Exact (AllZip IsLogOf (others scope me)) (numbered (log_fields scope) 0 None) (each_at (λ proc last. log_at scope proc) None (others scope me))
logs_exact scope me = each_exact some_log IsLogOf (log_fields scope) (λ proc last. log_at scope proc) (λ proc. refl) (log_exact scope) (others scope me) 0 None
