-- A processor: what its own turns leave, what has come to it, the locks and barriers that it keeps, and what it knows of the others.
use Rattle.std.specs.Prelude.{ℕ, ℤ, pos, Bool, false, List, [], Option, None}
use Rattle.dsm_base.specs.declared.names.Mode.{Mode}
use Rattle.dsm_base.specs.declared.label.Ending.{Ending}
use Rattle.dsm_base.specs.declared.lists.Record.{Record}
use Rattle.dsm_base.specs.declared.lists.PendingLine.{PendingLine}
use Rattle.dsm_base.specs.declared.lists.LoggedGrant.{LoggedGrant}
use Rattle.dsm_base.specs.declared.lists.LoggedOpening.{LoggedOpening}
use Rattle.dsm_lines.specs.declared.of_objects.Version.{Version}
use Rattle.dsm_lines.specs.declared.of_objects.Arrival.{Arrival}
use Rattle.dsm_lines.specs.declared.of_objects.MailGrant.{MailGrant}
use Rattle.dsm_lines.specs.declared.of_objects.MailOpening.{MailOpening}
use Rattle.dsm_msg.specs.declared.message.Body.{Body}
use Rattle.dsm_msg.specs.declared.message.Report.{Report}
use Rattle.dsm_msg.specs.declared.message.TurnBody.{TurnBody}
use Rattle.dsm_home.specs.LockStates.{LockState, start_lock}
use Rattle.dsm_barrier.specs.BarrierStates.{BarrierState, start_barrier}

-- what its own turns leave, and nothing else does
pub record Own (S : Type 0) : Type 0 where
  pub thread : S
  pub turns : ℕ  -- how many it has made
  pub copy : ℕ → ℤ  -- by cell
  pub dirty : ℕ → Bool  -- by line: stored to in the present hold or epoch
  pub held : ℕ → Option Mode  -- by lock
  pub versions : ℕ → ℕ  -- by lock: the version that the own copy has
  pub arrived : ℕ → ℕ  -- by barrier
  pub crossed : ℕ → ℕ
  pub ending : Option Ending  -- how its thread came to be over

-- the grants and openings that have come for coming turns
pub record Mail : Type 0 where
  pub grants : List MailGrant
  pub openings : List MailOpening

-- the lines of the locks that it is home of
pub record HomeLines : Type 0 where
  pub stamps : ℕ → ℕ  -- by line: the version in which it was last stored to
  pub values : ℕ → ℤ  -- by cell: at that version

-- what it knows of another processor
pub record Peer : Type 0 where
  pub seen : ℕ  -- the greatest number of turns of it that came here
  pub told : ℕ  -- the greatest number of own turns that it has told to have seen
  pub last : ℕ  -- the turn of the last body of it that counted
  pub outbox : List TurnBody  -- the own bodies for it whose turns are over `told`
  pub pruned : ℕ  -- the turn up to which it needs nothing any more

-- its last turns, as far as others may not know of them
pub record Tail : Type 0 where
  pub known : ℕ  -- the turn up to which records are known to be held elsewhere
  pub records : List Record  -- those beyond
  pub lines : List PendingLine  -- printed lines that aren't safe to go out
  pub noted : Bool  -- a Note of it is unanswered

-- what it has made and sent, and the records of others, each by processor
pub record Logs : Type 0 where
  pub versions : List Version
  pub arrivals : List Arrival
  pub grants : ℕ → List LoggedGrant
  pub openings : ℕ → List LoggedOpening
  pub records : ℕ → List Record

-- a body that is kept until recovery ends
pub record Kept : Type 0 where
  pub from : ℕ
  pub turn : ℕ
  pub body : Body

-- whether it lives, gathers the reports of the others, or makes its turns again up to a bound
pub data Standing : Type 0 where
  live : Standing
  gathering : (reports : ℕ → Option Report) (kept : List Kept) → Standing
  replaying : (bound : ℕ) (reports : ℕ → Option Report) (kept : List Kept) → Standing

-- all that a processor has
pub record Processor (S : Type 0) : Type 0 where
  pub own : Own S
  pub mail : Mail
  pub locks : ℕ → LockState  -- those that it is home of count
  pub lines : HomeLines
  pub barriers : ℕ → BarrierState  -- those that it manages count
  pub peers : ℕ → Peer
  pub tail : Tail
  pub logs : Logs
  pub standing : Standing

-- before the first turn of a thread
abbrev pub start_own : {S : Type 0} → S → Own S
start_own thread = record {
  thread = thread;
  turns = 0;
  copy = λ cell. pos 0;
  dirty = λ line. false;
  held = λ lock. None;
  versions = λ lock. 0;
  arrived = λ bar. 0;
  crossed = λ bar. 0;
  ending = None;
}

-- before its first turn
abbrev pub start_processor : {S : Type 0} → S → Processor S
start_processor thread = record {
  own = start_own thread;
  mail = record { grants = []; openings = [] };
  locks = λ lock. start_lock;
  lines = record { stamps = λ line. 0; values = λ cell. pos 0 };
  barriers = λ bar. start_barrier;
  peers = λ q. record { seen = 0; told = 0; last = 0; outbox = []; pruned = 0 };
  tail = record { known = 0; records = []; lines = []; noted = false };
  logs = record {
    versions = [];
    arrivals = [];
    grants = λ q. [];
    openings = λ q. [];
    records = λ q. [];
  };
  standing = live;
}
