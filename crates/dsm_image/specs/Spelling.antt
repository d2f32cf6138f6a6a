-- How images are spelled.
use Rattle.std.specs.Prelude.{◌≡◌, ℕ, ◌+◌, true, ◌==◌, List, [], ◌∷◌, ◌++◌, length, None}
use Rattle.std.specs.List.{AllZip}
use Rattle.dsm_lines.specs.Places.{lines}
use Rattle.dsm_fields.specs.Fields.{Field, byte, number, text, numbered, are_fit, are_kept, bytes_of}
use Rattle.dsm_image_parts.specs.declared.scope.Scope.{Scope}
use Rattle.dsm_image_parts.specs.Keys.{others, home_locks}
use Rattle.dsm_image_parts.specs.Spelling.{listed_with, listed, is_below, cell_fields, marked_fields, own_lock_fields, own_bar_fields, mail_grant_fields, mail_opening_fields, seen_fields, outbox_fields, IsTo, record_fields, pending_fields, version_fields, arrival_fields, saved_lock_fields, IsSaved, log_fields, IsLogOf}
use Rattle.dsm_image.specs.declared.image.Head.{Head}
use Rattle.dsm_image.specs.declared.image.Own.{Own}
use Rattle.dsm_image.specs.declared.image.Mail.{Mail}
use Rattle.dsm_image.specs.declared.image.Tail.{Tail}
use Rattle.dsm_image.specs.declared.image.Made.{Made}
use Rattle.dsm_image.specs.declared.image.Served.{Served}
use Rattle.dsm_image.specs.declared.image.Image.{Image}
use Rattle.dsm_image.specs.Frame.{magic, sealed}

-- the first fields of the payload
abbrev pub head_fields : Scope → Head → List Field
head_fields scope head =
    byte head.me.0 (is_below scope.procs head.me.0)
    ∷ byte head.procs (head.procs == scope.procs)
    ∷ number 4 head.turn true
    ∷ number 4 (length head.thread) true
    ∷ text (λ _. true) head.thread
    ∷ []

-- a processor's own cells, marks, locks and barriers: one for each of the setup, but for the marks
abbrev pub own_fields : Scope → Own → List Field
own_fields scope own =
    listed_with (λ n. n == scope.cells) (cell_fields scope) own.copy
    ++ (listed (marked_fields (lines scope.table)) own.marked
    ++ (listed_with (λ n. n == scope.locks) own_lock_fields own.locks
    ++ listed_with (λ n. n == scope.bars) own_bar_fields own.bars))

-- the mailbox, the turns that were seen, and the outboxes
abbrev pub mail_fields : Scope → ℕ → Mail → List Field
mail_fields scope me mail =
    listed (mail_grant_fields scope) mail.grants
    ++ (listed (mail_opening_fields scope) mail.openings
    ++ (numbered (seen_fields me) 0 None mail.seen
    ++ numbered (outbox_fields scope) 0 None mail.outbox))

-- it has a turn for each processor, and an outbox for each other one
pub record IsMail (scope : Scope) (me : ℕ) (mail : Mail) : Type 0 where
  pub seen : length mail.seen ≡ scope.procs
  pub outbox : AllZip IsTo (others scope me) mail.outbox

-- the records that aren't known to be held, and the lines that aren't safe
abbrev pub tail_fields : Scope → Tail → List Field
tail_fields scope tail = number 4 tail.held true ∷ (listed (record_fields scope) tail.records ++ listed pending_fields tail.lines)

-- the versions and arrivals that were made
abbrev pub made_fields : Scope → Made → List Field
made_fields scope made = listed (version_fields scope) made.versions ++ listed (arrival_fields scope) made.arrivals

-- what a processor keeps as a home and manager
abbrev pub served_fields : Scope → Served → List Field
served_fields scope served = numbered saved_lock_fields 0 None served.homes ++ numbered (log_fields scope) 0 None served.logs

-- it has each lock whose home the processor is, and a log for each other processor
pub record IsServed (scope : Scope) (me : ℕ) (served : Served) : Type 0 where
  pub homes : AllZip (IsSaved scope) (home_locks scope me) served.homes
  pub logs : AllZip IsLogOf (others scope me) served.logs

-- the parts of an image
abbrev pub head_of : Image → Head
head_of image = record { me = image.me; procs = image.procs; turn = image.turn; thread = image.thread }

abbrev pub own_of : Image → Own
own_of image = record { copy = image.copy; marked = image.marked; locks = image.locks; bars = image.bars }

abbrev pub mail_of : Image → Mail
mail_of image = record { grants = image.grants; openings = image.openings; seen = image.seen; outbox = image.outbox }

abbrev pub tail_of : Image → Tail
tail_of image = record { held = image.held; records = image.records; lines = image.lines }

abbrev pub made_of : Image → Made
made_of image = record { versions = image.versions; arrivals = image.arrivals }

abbrev pub served_of : Image → Served
served_of image = record { homes = image.homes; logs = image.logs }

-- what stands between the length and the digest
abbrev pub payload_fields : Scope → Image → List Field
payload_fields scope image =
    head_fields scope (head_of image)
    ++ (own_fields scope (own_of image)
    ++ (mail_fields scope image.me.0 (mail_of image)
    ++ (tail_fields scope (tail_of image)
    ++ (made_fields scope (made_of image)
    ++ served_fields scope (served_of image)))))

-- all before the digest, of which there are so many bytes
abbrev pub front_fields : Scope → ℕ → Image → List Field
front_fields scope size image = number 4 magic true ∷ number 4 size true ∷ payload_fields scope image

-- how many bytes stand before the digest
abbrev pub size_of : Scope → Image → ℕ
size_of scope image = 8 + length (bytes_of (payload_fields scope image))

-- the one spelling of an image
abbrev pub spelling : Scope → Image → List ℕ
spelling scope image = sealed (bytes_of (front_fields scope (size_of scope image) image))

-- it has all parts that the processor has to have in this setup
pub record IsShaped (scope : Scope) (image : Image) : Type 0 where
  pub mail : IsMail scope image.me.0 (mail_of image)
  pub served : IsServed scope image.me.0 (served_of image)

-- the image is one of the setup, and its fields have room for what they hold
pub record IsImage (scope : Scope) (image : Image) : Type 0 where
  pub shaped : IsShaped scope image
  pub fit : are_fit (front_fields scope (size_of scope image) image) ≡ true

-- the image is one of the setup
pub record IsInOrder (scope : Scope) (image : Image) : Type 0 where
  pub shaped : IsShaped scope image
  pub kept : are_kept (payload_fields scope image) ≡ true
