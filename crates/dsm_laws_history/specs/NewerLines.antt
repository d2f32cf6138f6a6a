-- Which lines turns, messages and homes have, by the history: those that were stored to after the version of who takes them, or in the epoch that ends, and no other.
use Rattle.std.specs.Prelude.{◌≡◌, ℕ, ◌+◌, ◌-◌, ◌<◌, ◌≤◌, List, [], ◌∷◌, length, Some, option_map, unwrap_or}
use Rattle.std.specs.List.{AllByRecursion}
use Rattle.dsm_base.specs.declared.label.Label.{Label}
use Rattle.dsm_base.specs.declared.setup.Object.{Object}
use Rattle.dsm_base.specs.declared.setup.Piece.{Piece}
use Rattle.dsm_base.specs.declared.setup.Setup.{Setup}
use Rattle.dsm_base.specs.Threads.{Semantics}
use Rattle.dsm_base.specs.Plain.{Turn, after_run, labels_of}
use Rattle.dsm_lines.specs.declared.list.Line.{Line}
use Rattle.dsm_lines.specs.declared.of_objects.MailGrant.{MailGrant}
use Rattle.dsm_lines.specs.Copies.{lines_where}
use Rattle.dsm_lines.specs.Places.{lines, place_of}
use Rattle.dsm_msg.specs.declared.message.Body.{Body}
use Rattle.dsm_home.specs.LockStates.{version_made}
use Rattle.dsm_barrier.specs.BarrierStates.{lines_of_others}
use Rattle.dsm_net.specs.declared.trace.Letter.{Letter}
use Rattle.dsm_net.specs.declared.trace.Group.{Group}
use Rattle.dsm_net.specs.Processor.{HomeLines, Processor}
use Rattle.dsm_net.specs.Net.{Net}
use Rattle.dsm_net.specs.Story.{history}
use Rattle.dsm_laws_runs.specs.OwnPart.{arrived_of, own_versions_of}
use Rattle.dsm_laws_runs.specs.Versions.{IsCellOf, SameAt, memory_at}
use Rattle.dsm_laws_runs.specs.Barriers.{memory_in}
use Rattle.dsm_laws_runs.specs.Newer.{is_newer, stamp_of, is_stored_in}
use Rattle.dsm_laws_protocol.specs.Courses.{upto}
use Rattle.dsm_laws_protocol.specs.Steps.{Step, steps_of, turns_of}

-- the number of a cell's line; a cell in no piece has one past the last
abbrev pub line_at : List Piece → ℕ → ℕ
line_at pieces cell = unwrap_or (option_map (λ place. place.line) (place_of pieces cell)) (lines pieces)

-- the lines of a lock that were stored to in the holds that made its versions over one, up to another, as they were when that one was made
abbrev pub lines_between : {S : Type 0} → Setup → (ℕ → S) → Semantics S → List Turn → ℕ → ℕ → ℕ → List Line
lines_between setup first threads run lock from to =
    lines_where setup.bindings (is_newer (line_at setup.bindings) setup first threads run lock from to)
    (memory_at first threads run lock to) (Object.Lock record { 0 = lock })

-- the lines of a barrier to which p stored in an epoch, as they were when it came there at the end of that epoch
abbrev pub lines_of_arrival : Setup → List Turn → ℕ → ℕ → ℕ → List Line
lines_of_arrival setup run bar epoch p =
    lines_where setup.bindings (is_stored_in (line_at setup.bindings) setup bar p epoch (labels_of p run))
    (memory_in setup (λ q. labels_of q run) bar (epoch + 1)) (Object.Bar record { 0 = bar })

-- what p gets at a barrier for an epoch: the lines with which the others came there at the end of the epoch before, in order of their numbers
abbrev pub lines_of_crossing : Setup → List Turn → ℕ → ℕ → ℕ → List Line
lines_of_crossing setup run bar epoch p = lines_of_others (lines_of_arrival setup run bar (epoch - 1)) setup.procs p

-- Turns.

-- the lines of a turn that p makes after a run: a take brings those that are newer than p's copy, a crossing those of the others
abbrev pub Brings : {S : Type 0} → Setup → (ℕ → S) → Semantics S → List Turn → ℕ → Label → List Line → Type 0
Brings setup first threads run p (Label.Take lock mode version) lines =
    lines ≡ lines_between setup first threads run lock.0 (own_versions_of (labels_of p run) lock.0) version
Brings setup first threads run p (Label.Cross bar epoch) lines = lines ≡ lines_of_crossing setup run bar.0 epoch p
Brings setup first threads run p _ lines = lines ≡ []

-- each turn brings its lines and no other
abbrev pub AllBring : {S : Type 0} → Setup → (ℕ → S) → Semantics S → List Step → Type 0
AllBring setup first threads [] = Unit {0}
AllBring setup first threads (step ∷ before) =
    AllBring setup first threads before
    × Brings setup first threads (turns_of before) step.proc step.turn.label step.turn.lines

-- Messages.

-- the version of a lock that the copy of p had before a turn of it
abbrev pub version_before : List Turn → ℕ → ℕ → ℕ → ℕ
version_before run p turn lock = own_versions_of (upto (turn - 1) (labels_of p run)) lock

-- the version of a lock that p's copy has before a turn that it makes next or has made
pub record IsVersion (run : List Turn) (p turn lock version : ℕ) : Type 0 where
  pub in_course : turn ≤ length (labels_of p run) + 1
  pub is_version : version ≡ version_before run p turn lock

-- the lines of a lock that are newer than p's copy before a turn of it, up to a version that was made
pub record AreNewer {S : Type 0} (setup : Setup) (first : ℕ → S) (threads : Semantics S) (run : List Turn) (p turn lock version : ℕ) (lines : List Line) : Type 0 where
  pub in_course : turn ≤ length (labels_of p run) + 1
  pub is_made : version ≤ (after_run first threads run).versions lock
  pub are_lines : lines ≡ lines_between setup first threads run lock (version_before run p turn lock) version

-- the lines with which p came to a barrier at the end of an epoch
pub record IsArrival (setup : Setup) (run : List Turn) (p bar epoch : ℕ) (lines : List Line) : Type 0 where
  pub has_come : epoch < arrived_of (labels_of p run) bar
  pub are_lines : lines ≡ lines_of_arrival setup run bar epoch p

-- those of its arrival in this turn, with which it ends as many epochs as it had ended before
pub record IsArrivalIn (setup : Setup) (run : List Turn) (p turn bar epoch : ℕ) (lines : List Line) : Type 0 where
  pub in_course : turn ≤ length (labels_of p run)
  pub is_epoch : epoch ≡ arrived_of (upto (turn - 1) (labels_of p run)) bar
  pub is_arrival : IsArrival setup run p bar epoch lines

-- the lines with which p may cross a barrier into an epoch, for which all have come
pub record IsOpening (setup : Setup) (run : List Turn) (p bar epoch : ℕ) (lines : List Line) : Type 0 where
  pub is_later : 0 < epoch
  pub all_came : (q : ℕ) → q < setup.procs → epoch ≤ arrived_of (labels_of q run) bar
  pub are_lines : lines ≡ lines_of_crossing setup run bar epoch p

-- what one processor tells another in a turn: a request has the version of the sender's copy, a release the version that its hold leaves and the
-- lines that were stored to in it, and a grant the lines that are newer than the receiver's copy; an arrival has the lines that were stored to in the epoch
-- that it ends, and an opening those of all but the receiver
abbrev pub IsTrue : {S : Type 0} → Setup → (ℕ → S) → Semantics S → List Turn → ℕ → ℕ → ℕ → Body → Type 0
IsTrue setup first threads run from to turn (Body.Req lock mode version) = IsVersion run from (turn + 1) lock.0 version
IsTrue setup first threads run from to turn (Body.Release lock mode version lines) =
    (version ≡ version_made mode (version_before run from turn lock.0))
    × AreNewer setup first threads run from turn lock.0 version lines
IsTrue setup first threads run from to turn (Body.Grant lock mode take version lines) =
    AreNewer setup first threads run to take lock.0 version lines
IsTrue setup first threads run from to turn (Body.Arrive bar epoch lines) = IsArrivalIn setup run from turn bar.0 epoch lines
IsTrue setup first threads run from to turn (Body.Opened bar epoch lines) = IsOpening setup run to bar.0 epoch lines
IsTrue setup first threads run from to turn _ = Unit {0}

-- Homes.

-- the lines of a home at a version of a lock: the values are those of that version, and a stamp is the version in which a line was last stored to
pub record AreOfVersion {S : Type 0} (setup : Setup) (first : ℕ → S) (threads : Semantics S) (run : List Turn) (lock version : ℕ) (home : HomeLines) : Type 0 where
  pub is_made : version ≤ (after_run first threads run).versions lock
  pub values : SameAt setup lock home.values (memory_at first threads run lock version)
  pub stamps : (cell : ℕ) → IsCellOf setup lock cell →
      home.stamps (line_at setup.bindings cell) ≡ stamp_of (line_at setup.bindings) setup first threads run lock version (line_at setup.bindings cell)

-- All of these.

-- turns, messages under way, mailboxes and homes have the lines that they should, by the history
pub record HasNewerLines {S : Type 0} (setup : Setup) (first : ℕ → S) (threads : Semantics S) (net : Net S) (trace : List Group) : Type 0 where
  pub turns : AllBring setup first threads (steps_of trace)
  pub under_way : (p q : ℕ) →
      AllByRecursion (λ (letter : Letter). IsTrue setup first threads (history trace) p q letter.msg.carry.turn letter.msg.body) (net.channels p q)
  pub mail : (p : ℕ) (s : Processor S) → net.processors p ≡ Some s →
      AllByRecursion (λ (grant : MailGrant). AreNewer setup first threads (history trace) p grant.turn grant.lock.0 grant.version grant.lines) s.mail.grants
  pub homes : (p lock : ℕ) (s : Processor S) → net.processors p ≡ Some s →
      AreOfVersion setup first threads (history trace) lock (s.locks lock).version s.lines
