-- All before a digest has an exact reader.
use Rattle.std.proofs.Common.{replicate, ◌≡◌, ℕ, ℤ, pos, true, List, [], ◌∷◌, ◌++◌, length, None, refl, sym, ap, subst}
use Rattle.std.specs.Prelude.{◌==◌}
use Rattle.std.proofs.lemmas.List.{length-replicate}
use Rattle.dsm_base.specs.declared.names.Mode.TheVariants.{Shared}
use Rattle.dsm_base.specs.declared.lists.Record.{Record}
use Rattle.dsm_base.specs.declared.lists.PendingLine.{PendingLine}
use Rattle.dsm_lines.specs.declared.of_objects.Version.{Version}
use Rattle.dsm_lines.specs.declared.of_objects.Arrival.{Arrival}
use Rattle.dsm_lines.specs.declared.of_objects.MailGrant.{MailGrant}
use Rattle.dsm_lines.specs.declared.of_objects.MailOpening.{MailOpening}
use Rattle.dsm_lines.specs.Places.{lines}
use Rattle.dsm_fields.specs.Fields.{Any, Field, number}
use Rattle.dsm_fields.specs.Reading.{then_with, kept, number_at}
use Rattle.dsm_fields.proofs.Exact.{Exact}
use Rattle.dsm_fields.proofs.Chain.{At, chain}
use Rattle.dsm_fields.proofs.Formats.{reworded}
use Rattle.dsm_fields.proofs.Numbers.{any_number, byte_exact, any_text, this_number}
use Rattle.dsm_fields.proofs.Steps.{step, step_of, put, rest_of, known, fixed_exact}
use Rattle.dsm_image_parts.specs.declared.scope.Scope.{Scope}
use Rattle.dsm_image_parts.specs.declared.entries.OwnLock.{OwnLock}
use Rattle.dsm_image_parts.specs.declared.entries.OwnBar.{OwnBar}
use Rattle.dsm_image_parts.specs.declared.entries.Outbox.{Outbox}
use Rattle.dsm_image_parts.specs.declared.entries.SavedLock.{SavedLock}
use Rattle.dsm_image_parts.specs.declared.entries.ProcLog.{ProcLog}
use Rattle.dsm_image.specs.declared.image.Head.{Head}
use Rattle.dsm_image.specs.declared.image.Own.{Own}
use Rattle.dsm_image.specs.declared.image.Mail.{Mail}
use Rattle.dsm_image.specs.declared.image.Tail.{Tail}
use Rattle.dsm_image.specs.declared.image.Made.{Made}
use Rattle.dsm_image.specs.declared.image.Served.{Served}
use Rattle.dsm_image.specs.declared.image.Image.{Image}
use Rattle.dsm_image.specs.Frame.{magic}
use Rattle.dsm_image.specs.Spelling.{head_fields, own_fields, mail_fields, IsMail, tail_fields, made_fields, served_fields, IsServed, head_of, own_of, mail_of, tail_of, made_of, served_of, payload_fields, front_fields, IsShaped}
use Rattle.dsm_image.specs.Reading.{head_at, own_at, mail_at, tail_at, made_at, served_at, image_of, payload_at, front_at}
use Rattle.dsm_image_parts.specs.Spelling.{is_below, cell_fields, marked_fields, own_lock_fields, own_bar_fields, mail_grant_fields, mail_opening_fields, seen_fields, record_fields, pending_fields, version_fields, arrival_fields}
use Rattle.dsm_image_parts.specs.Reading.{cell_at, marked_at, own_lock_at, own_bar_at, mail_grant_at, mail_opening_at, seen_at, record_at, pending_at, version_at, arrival_at}
use Rattle.dsm_image_parts.proofs.Grammar.{listed_with_exact, listed_exact, cell_exact, marked_exact, own_lock_exact, own_bar_exact, mail_grant_exact, mail_opening_exact, seen_exact, record_exact, pending_exact, version_exact, arrival_exact}
use Rattle.dsm_image_parts.proofs.Saved.{some_outboxes, outboxes_are, outboxes_exact, some_homes, homes_are, homes_exact, some_logs, logs_are, logs_exact}

head_exact : (scope : Scope) → Exact Any (head_fields scope) (head_at scope)
unfolding head_at
head_exact scope =
    let made : ℕ → ℕ → ℕ → List ℕ → Head = (λ me procs turn thread. record { me = record { 0 = me }; procs = procs; turn = turn; thread = thread }) in
    step (byte_exact (is_below scope.procs))
    (λ me. step (byte_exact (λ n. n == scope.procs))
    (λ procs. step (any_number 4)
    (λ turn. step (any_number 4)
    (λ count. rest_of (At (At (At (At Any (λ h. h.me.0) me) (λ h. h.procs) procs) (λ h. h.turn) turn) (λ h. length h.thread) count) (λ h. h.thread) (made me procs turn) (any_text count)
    (λ bytes len. record { is = put (put (put tt)); same = len }) (λ bytes. refl) (λ h at. at.same) (λ h at. rw (← at.is.same, ← at.is.is.same, ← at.is.is.is.same) refl))
    (λ count. (made me procs turn (replicate count 0), record { is = put (put (put tt)); same = length-replicate count 0 })))
    (λ turn. (made me procs turn [], put (put (put tt)))))
    (λ procs. (made me procs 0 [], put (put tt))))
    (λ me. (made me 0 0 [], put tt))

own_exact : (scope : Scope) → Exact Any (own_fields scope) (own_at scope)
unfolding own_at
own_exact scope =
    let made : List ℤ → List ℕ → List OwnLock → List OwnBar → Own = (λ copy marked locks bars. record { copy = copy; marked = marked; locks = locks; bars = bars }) in
    step (listed_with_exact (pos 0) (λ n. n == scope.cells) (cell_fields scope) (cell_at scope) (cell_exact scope))
    (λ copy. step (listed_exact 0 (marked_fields (lines scope.table)) (marked_at (lines scope.table)) (marked_exact (lines scope.table)))
    (λ marked. step (listed_with_exact (record { have = 0; held = None; asked = None }) (λ n. n == scope.locks) own_lock_fields own_lock_at own_lock_exact)
    (λ locks. rest_of (At (At (At Any (λ o. o.copy) copy) (λ o. o.marked) marked) (λ o. o.locks) locks) (λ o. o.bars) (made copy marked locks)
    (listed_with_exact (record { arrivals = 0; crossings = 0 }) (λ n. n == scope.bars) own_bar_fields own_bar_at own_bar_exact)
    (λ bars is. put (put (put tt))) (λ bars. refl) (λ o at. tt) (λ o at. rw (← at.same, ← at.is.same, ← at.is.is.same) refl))
    (λ locks. (made copy marked locks [], put (put (put tt)))))
    (λ marked. (made copy marked [] [], put (put tt))))
    (λ copy. (made copy [] [] [], put tt))

mail_exact : (scope : Scope) (me : ℕ) → Exact (IsMail scope me) (mail_fields scope me) (mail_at scope me)
unfolding mail_at
mail_exact scope me =
    let made : List MailGrant → List MailOpening → List ℕ → List Outbox → Mail = (λ grants openings seen outbox. record { grants = grants; openings = openings; seen = seen; outbox = outbox }) in
    let some_seen = replicate scope.procs 0 in
    let some : IsMail scope me (made [] [] some_seen (some_outboxes scope me)) = record { seen = length-replicate scope.procs 0; outbox = outboxes_are scope me } in
    step (listed_exact (record { turn = 0; lock = record { 0 = 0 }; mode = Shared; version = 0; lines = [] }) (mail_grant_fields scope) (mail_grant_at scope) (mail_grant_exact scope))
    (λ grants. step (listed_exact (record { turn = 0; bar = record { 0 = 0 }; epoch = 0; lines = [] }) (mail_opening_fields scope) (mail_opening_at scope) (mail_opening_exact scope))
    (λ openings. step_of (fixed_exact 0 (seen_fields me) (seen_at me) (seen_exact me) scope.procs)
    (λ seen len. rest_of (At (At (At (IsMail scope me) (λ m. m.grants) grants) (λ m. m.openings) openings) (λ m. m.seen) seen) (λ m. m.outbox) (made grants openings seen)
    (outboxes_exact scope me)
    (λ outbox are. put (put (put (record { seen = len; outbox = are })))) (λ outbox. refl) (λ m at. at.is.is.is.outbox) (λ m at. rw (← at.same, ← at.is.same, ← at.is.is.same) refl))
    (λ seen len. (made grants openings seen (some_outboxes scope me), put (put (put (record { seen = len; outbox = some.outbox })))))
    (λ m at. at.is.is.seen))
    (λ openings. (made grants openings some_seen (some_outboxes scope me), put (put (record { seen = some.seen; outbox = some.outbox })))))
    (λ grants. (made grants [] some_seen (some_outboxes scope me), put (record { seen = some.seen; outbox = some.outbox })))

tail_exact : (scope : Scope) → Exact Any (tail_fields scope) (tail_at scope)
unfolding tail_at
tail_exact scope =
    let made : ℕ → List Record → List PendingLine → Tail = (λ held records lines. record { held = held; records = records; lines = lines }) in
    step (any_number 4)
    (λ held. step (listed_exact (record { turn = 0; lock = record { 0 = 0 }; version = 0 }) (record_fields scope) (record_at scope) (record_exact scope))
    (λ records. rest_of (At (At Any (λ t. t.held) held) (λ t. t.records) records) (λ t. t.lines) (made held records)
    (listed_exact (record { turn = 0; text = [] }) pending_fields pending_at pending_exact)
    (λ lines is. put (put tt)) (λ lines. refl) (λ t at. tt) (λ t at. rw (← at.same, ← at.is.same) refl))
    (λ records. (made held records [], put (put tt))))
    (λ held. (made held [] [], put tt))

made_exact : (scope : Scope) → Exact Any (made_fields scope) (made_at scope)
unfolding made_at
made_exact scope =
    let made : List Version → List Arrival → Made = (λ versions arrivals. record { versions = versions; arrivals = arrivals }) in
    step (listed_exact (record { lock = record { 0 = 0 }; version = 0; lines = [] }) (version_fields scope) (version_at scope) (version_exact scope))
    (λ versions. rest_of (At Any (λ m. m.versions) versions) (λ m. m.arrivals) (made versions)
    (listed_exact (record { bar = record { 0 = 0 }; epoch = 0; lines = [] }) (arrival_fields scope) (arrival_at scope) (arrival_exact scope))
    (λ arrivals is. put tt) (λ arrivals. refl) (λ m at. tt) (λ m at. rw (← at.same) refl))
    (λ versions. (made versions [], put tt))

served_exact : (scope : Scope) (me : ℕ) → Exact (IsServed scope me) (served_fields scope) (served_at scope me)
unfolding served_at
served_exact scope me =
    let made : List SavedLock → List ProcLog → Served = (λ homes logs. record { homes = homes; logs = logs }) in
    step_of (homes_exact scope me)
    (λ homes are. rest_of (At (IsServed scope me) (λ s. s.homes) homes) (λ s. s.logs) (made homes) (logs_exact scope me)
    (λ logs those. put (record { homes = are; logs = those })) (λ logs. refl) (λ s at. at.is.logs) (λ s at. rw (← at.same) refl))
    (λ homes are. (made homes (some_logs scope me), put (record { homes = are; logs = logs_are scope me })))
    (λ s is. is.homes)

-- ---- some parts

abbrev no_own : Own
no_own = record { copy = []; marked = []; locks = []; bars = [] }

abbrev some_mail : Scope → ℕ → Mail
some_mail scope me = record { grants = []; openings = []; seen = replicate scope.procs 0; outbox = some_outboxes scope me }

abbrev no_tail : Tail
no_tail = record { held = 0; records = []; lines = [] }

abbrev no_made : Made
no_made = record { versions = []; arrivals = [] }

abbrev some_served : Scope → ℕ → Served
some_served scope me = record { homes = some_homes scope me; logs = some_logs scope me }

some_mail_is : (scope : Scope) (me : ℕ) → IsMail scope me (some_mail scope me)
some_mail_is scope me = record { seen = length-replicate scope.procs 0; outbox = outboxes_are scope me }

some_served_is : (scope : Scope) (me : ℕ) → IsServed scope me (some_served scope me)
some_served_is scope me = record { homes = homes_are scope me; logs = logs_are scope me }

-- ---- the payload

-- an image of these parts, with some where none are known
abbrev some_image : Scope → Head → Own → Mail → Tail → Made → Image
some_image scope head own mail tail made = image_of head own mail tail made (some_served scope head.me.0)

some_shaped : (scope : Scope) (head : Head) (own : Own) (mail : Mail) (tail : Tail) (made : Made) → IsMail scope head.me.0 mail → IsShaped scope (some_image scope head own mail tail made)
some_shaped scope head own mail tail made is = record { mail = is; served = some_served_is scope head.me.0 }

-- what stands behind a processor's own parts, where the processor is known
abbrev behind_own : Scope → ℕ → Image → List Field
behind_own scope me z = mail_fields scope me (mail_of z) ++ (tail_fields scope (tail_of z) ++ (made_fields scope (made_of z) ++ served_fields scope (served_of z)))

-- an image of which all parts but the last are known
abbrev Known : Scope → Head → Own → Mail → Tail → Made → Image → Type 0
Known scope head own mail tail made = At (At (At (At (At (IsShaped scope) head_of head) own_of own) mail_of mail) tail_of tail) made_of made

served_known : (scope : Scope) (head : Head) (own : Own) (mail : Mail) (tail : Tail) (made : Made) (z : Image) → Known scope head own mail tail made z → IsServed scope head.me.0 (served_of z)
served_known scope head own mail tail made z at = subst (λ (h : Head). IsServed scope h.me.0 (served_of z)) at.is.is.is.is.same at.is.is.is.is.is.served

mail_known : (scope : Scope) (head : Head) (own : Own) (z : Image) → At (At (IsShaped scope) head_of head) own_of own z → IsMail scope head.me.0 (mail_of z)
mail_known scope head own z at = subst (λ (h : Head). IsMail scope h.me.0 (mail_of z)) at.is.same at.is.is.mail

payload_exact : (scope : Scope) → Exact (IsShaped scope) (payload_fields scope) (payload_at scope)
unfolding payload_at
payload_exact scope =
    step (head_exact scope)
    (λ head. step (own_exact scope)
    (λ own. known (λ z. behind_own scope z.me.0 z) (λ z at. ap (λ (h : Head). behind_own scope h.me.0 z) at.is.same)
    (step_of (mail_exact scope head.me.0)
    (λ mail is. step (tail_exact scope)
    (λ tail. step (made_exact scope)
    (λ made. rest_of (Known scope head own mail tail made) served_of (image_of head own mail tail made) (served_exact scope head.me.0)
    (λ served those. put (put (put (put (put (record { mail = is; served = those })))))) (λ served. refl) (served_known scope head own mail tail made)
    (λ z at. rw (← at.same, ← at.is.same, ← at.is.is.same, ← at.is.is.is.same, ← at.is.is.is.is.same) refl))
    (λ made. (some_image scope head own mail tail made, put (put (put (put (put (some_shaped scope head own mail tail made is))))))))
    (λ tail. (some_image scope head own mail tail no_made, put (put (put (put (some_shaped scope head own mail tail no_made is)))))))
    (λ mail is. (some_image scope head own mail no_tail no_made, put (put (put (some_shaped scope head own mail no_tail no_made is)))))
    (mail_known scope head own)))
    (λ own. let mail = some_mail scope head.me.0 in (some_image scope head own mail no_tail no_made, put (put (some_shaped scope head own mail no_tail no_made (some_mail_is scope head.me.0))))))
    (λ head. let mail = some_mail scope head.me.0 in (some_image scope head no_own mail no_tail no_made, put (some_shaped scope head no_own mail no_tail no_made (some_mail_is scope head.me.0))))

abbrev no_head : Head
no_head = record { me = record { 0 = 0 }; procs = 0; turn = 0; thread = [] }

abbrev no_image : Scope → Image
no_image scope = some_image scope no_head no_own (some_mail scope 0) no_tail no_made

pub front_exact : (scope : Scope) (size : ℕ) → Exact (IsShaped scope) (front_fields scope size) (front_at scope size)
unfolding front_at
front_exact scope size =
    let shaped = some_shaped scope no_head no_own (some_mail scope 0) no_tail no_made (some_mail_is scope 0) in
    chain (λ n. n ≡ magic) (λ n. number 4 n true ∷ []) (kept (λ n. n == magic) (number_at 4)) (IsShaped scope) (λ z. magic) (λ z. number 4 size true ∷ payload_fields scope z)
    (λ mark bytes. then_with (kept (λ n. n == size) (number_at 4) bytes) (λ count bytes. payload_at scope bytes))
    (this_number 4 magic)
    (λ mark is fit.
    chain (λ n. n ≡ size) (λ n. number 4 n true ∷ []) (kept (λ n. n == size) (number_at 4)) (At (IsShaped scope) (λ z. magic) mark) (λ z. size) (payload_fields scope) (λ count bytes. payload_at scope bytes)
    (this_number 4 size)
    (λ count told fits. reworded (IsShaped scope) (At (At (IsShaped scope) (λ z. magic) mark) (λ z. size) count) (payload_fields scope) (payload_fields scope) (payload_at scope)
    (λ z shape. record { is = record { is = shape; same = sym is }; same = sym told }) (λ z at. at.is.is) (λ z at. refl) (payload_exact scope))
    (λ count told. (no_image scope, record { is = record { is = shaped; same = sym is }; same = sym told }))
    (λ z at. refl))
    (λ mark is. (no_image scope, record { is = shaped; same = sym is }))
    (λ z shape. refl)
