-- Reading images from left to right: what the readers of the code give.
use Rattle.std.specs.Prelude.{ℕ, ◌==◌, List, None, Ok}
use Rattle.dsm_lines.specs.Places.{lines}
use Rattle.dsm_fields.specs.Reading.{Read, then_with, kept, byte_at, number_at, text_at, numbered_at}
use Rattle.dsm_image_parts.specs.declared.scope.Scope.{Scope}
use Rattle.dsm_image_parts.specs.Keys.{others, home_locks, each_at}
use Rattle.dsm_image_parts.specs.Spelling.{is_below}
use Rattle.dsm_image_parts.specs.Reading.{listed_with_at, listed_at, cell_at, marked_at, own_lock_at, own_bar_at, mail_grant_at, mail_opening_at, seen_at, outbox_at, record_at, pending_at, version_at, arrival_at, saved_lock_at, log_at}
use Rattle.dsm_image.specs.declared.image.Head.{Head}
use Rattle.dsm_image.specs.declared.image.Own.{Own}
use Rattle.dsm_image.specs.declared.image.Mail.{Mail}
use Rattle.dsm_image.specs.declared.image.Tail.{Tail}
use Rattle.dsm_image.specs.declared.image.Made.{Made}
use Rattle.dsm_image.specs.declared.image.Served.{Served}
use Rattle.dsm_image.specs.declared.image.Image.{Image}
use Rattle.dsm_image.specs.Frame.{magic}

-- the first fields of the payload
unfoldable pub head_at : Scope → List ℕ → Read Head
head_at scope bytes =
    then_with (kept (is_below scope.procs) byte_at bytes) (λ me bytes.
    then_with (kept (λ n. n == scope.procs) byte_at bytes) (λ procs bytes.
    then_with (number_at 4 bytes) (λ turn bytes.
    then_with (number_at 4 bytes) (λ count bytes.
    then_with (text_at count bytes) (λ thread bytes.
    Ok (record { me = record { 0 = me }; procs = procs; turn = turn; thread = thread }, bytes))))))

-- a processor's own cells, marks, locks and barriers
unfoldable pub own_at : Scope → List ℕ → Read Own
own_at scope bytes =
    then_with (listed_with_at (λ n. n == scope.cells) (cell_at scope) bytes) (λ copy bytes.
    then_with (listed_at (marked_at (lines scope.table)) bytes) (λ marked bytes.
    then_with (listed_with_at (λ n. n == scope.locks) own_lock_at bytes) (λ locks bytes.
    then_with (listed_with_at (λ n. n == scope.bars) own_bar_at bytes) (λ bars bytes.
    Ok (record { copy = copy; marked = marked; locks = locks; bars = bars }, bytes)))))

-- the mailbox, the turns that were seen, and the outboxes
unfoldable pub mail_at : Scope → ℕ → List ℕ → Read Mail
mail_at scope me bytes =
    then_with (listed_at (mail_grant_at scope) bytes) (λ grants bytes.
    then_with (listed_at (mail_opening_at scope) bytes) (λ openings bytes.
    then_with (numbered_at (seen_at me) 0 None scope.procs bytes) (λ seen bytes.
    then_with (each_at (λ proc last. outbox_at scope proc) None (others scope me) bytes) (λ outbox bytes.
    Ok (record { grants = grants; openings = openings; seen = seen; outbox = outbox }, bytes)))))

-- the records that aren't known to be held, and the lines that aren't safe
unfoldable pub tail_at : Scope → List ℕ → Read Tail
tail_at scope bytes =
    then_with (number_at 4 bytes) (λ held bytes.
    then_with (listed_at (record_at scope) bytes) (λ records bytes.
    then_with (listed_at pending_at bytes) (λ lines bytes.
    Ok (record { held = held; records = records; lines = lines }, bytes))))

-- the versions and arrivals that were made
unfoldable pub made_at : Scope → List ℕ → Read Made
made_at scope bytes =
    then_with (listed_at (version_at scope) bytes) (λ versions bytes.
    then_with (listed_at (arrival_at scope) bytes) (λ arrivals bytes.
    Ok (record { versions = versions; arrivals = arrivals }, bytes)))

-- what a processor keeps as a home and manager
unfoldable pub served_at : Scope → ℕ → List ℕ → Read Served
served_at scope me bytes =
    then_with (each_at (λ lock last. saved_lock_at scope lock) None (home_locks scope me) bytes) (λ homes bytes.
    then_with (each_at (λ proc last. log_at scope proc) None (others scope me) bytes) (λ logs bytes.
    Ok (record { homes = homes; logs = logs }, bytes)))

-- an image of its parts
abbrev pub image_of : Head → Own → Mail → Tail → Made → Served → Image
image_of head own mail tail made served = record {
  me = head.me;
  procs = head.procs;
  turn = head.turn;
  thread = head.thread;
  copy = own.copy;
  marked = own.marked;
  locks = own.locks;
  bars = own.bars;
  grants = mail.grants;
  openings = mail.openings;
  seen = mail.seen;
  outbox = mail.outbox;
  held = tail.held;
  records = tail.records;
  lines = tail.lines;
  versions = made.versions;
  arrivals = made.arrivals;
  homes = served.homes;
  logs = served.logs;
}

-- what stands between the length and the digest
unfoldable pub payload_at : Scope → List ℕ → Read Image
payload_at scope bytes =
    then_with (head_at scope bytes) (λ head bytes.
    then_with (own_at scope bytes) (λ own bytes.
    then_with (mail_at scope head.me.0 bytes) (λ mail bytes.
    then_with (tail_at scope bytes) (λ tail bytes.
    then_with (made_at scope bytes) (λ made bytes.
    then_with (served_at scope head.me.0 bytes) (λ served bytes.
    Ok (image_of head own mail tail made served, bytes)))))))

-- all before the digest, of which there are so many bytes
unfoldable pub front_at : Scope → ℕ → List ℕ → Read Image
front_at scope size bytes =
    then_with (kept (λ n. n == magic) (number_at 4) bytes) (λ mark bytes.
    then_with (kept (λ n. n == size) (number_at 4) bytes) (λ count bytes.
    payload_at scope bytes))
