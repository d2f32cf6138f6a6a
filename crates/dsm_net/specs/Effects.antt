-- What a processor does with a body that comes to it, and with a turn of its own.
use Rattle.std.specs.Prelude.{ℕ, ◌+◌, Bool, true, false, ◌&&◌, ◌==◌, not, if◌then◌else◌, nat_lt, List, [], ◌∷◌, ◌++◌, Option, Some, None, is_some}
use Rattle.dsm_base.specs.declared.names.Bar.{Bar}
use Rattle.dsm_base.specs.declared.names.Lock.{Lock}
use Rattle.dsm_base.specs.declared.names.Mode.{Mode}
use Rattle.dsm_base.specs.declared.label.Label.{Label}
use Rattle.dsm_base.specs.declared.lists.PendingLine.{PendingLine}
use Rattle.dsm_base.specs.declared.setup.Object.{Object}
use Rattle.dsm_base.specs.declared.setup.Piece.{Piece}
use Rattle.dsm_base.specs.declared.setup.Setup.{Setup}
use Rattle.dsm_base.specs.Family.{update}
use Rattle.dsm_base.specs.Output.{line_text}
use Rattle.dsm_base.specs.Threads.{Semantics}
use Rattle.dsm_lines.specs.declared.list.Line.{Line}
use Rattle.dsm_lines.specs.Copies.{overlaid, stamped}
use Rattle.dsm_msg.specs.declared.message.Body.{Body}
use Rattle.dsm_msg.specs.declared.message.Msg.{Msg}
use Rattle.dsm_home.specs.declared.waiting.Waiting.{Waiting}
use Rattle.dsm_home.specs.LockStates.{LockState, mode_among, waits_for, lock_with_request, lock_after_release, version_made}
use Rattle.dsm_barrier.specs.BarrierStates.{BarrierState, counts as arrival_counts, arrived_in, with_arrival}
use Rattle.dsm_net.specs.Processor.{Own, HomeLines, Processor}
use Rattle.dsm_net.specs.Turns.{OwnTurn, own_after, mail_after, dirty_lines}
use Rattle.dsm_net.specs.Messages.{processor_named, keeper_of, message, with_carry}
use Rattle.dsm_net.specs.Grants.{home_after_grants, grant_messages}
use Rattle.dsm_net.specs.Openings.{manager_after_openings, opening_messages}

-- what a processor does in a unit, its parts in this order
pub record Effect (S : Type 0) : Type 0 where
  pub processor : Processor S  -- as it is then
  pub carried : List PendingLine  -- the lines that came with a message go out
  pub sends : List Msg
  pub replayed : Bool  -- its replay ends
  pub rebuilt : List Msg  -- what it sends then
  pub outs : List PendingLine  -- own lines go out
  pub note : Option Msg

-- a processor and what it sends, and nothing else
abbrev pub only : {S : Type 0} → Processor S → List Msg → Effect S
only s sends = record {
  processor = s;
  carried = [];
  sends = sends;
  replayed = false;
  rebuilt = [];
  outs = [];
  note = None;
}

-- Bodies that come.

-- a shared hold has no lines to give back
abbrev pub may_bring : Mode → List Line → Bool
may_bring Mode.Shared [] = true
may_bring Mode.Shared (line ∷ lines) = false
may_bring Mode.Excl lines = true

-- whether a hold is one in this mode
abbrev pub is_mode : Mode → Option Mode → Bool
is_mode mode None = false
is_mode Mode.Shared (Some Mode.Shared) = true
is_mode Mode.Shared (Some Mode.Excl) = false
is_mode Mode.Excl (Some Mode.Shared) = false
is_mode Mode.Excl (Some Mode.Excl) = true

-- one who neither holds a lock nor waits for it may ask
abbrev pub may_ask : LockState → ℕ → Bool
may_ask lock p = not (is_some (mode_among lock.holders p)) && not (waits_for lock p)

-- one who holds it in this mode may give it back, at the version that this makes
abbrev pub may_give : LockState → ℕ → Mode → ℕ → List Line → Bool
may_give lock p mode version lines =
    is_mode mode (mode_among lock.holders p) && ((version == version_made mode lock.version) && may_bring mode lines)

-- whether a body counts: a home or manager handles one of each turn, and leaves alone what no run has
abbrev pub counts : {S : Type 0} → Processor S → ℕ → ℕ → Body → Bool
counts s from turn (Body.Req lock mode «have») = nat_lt (s.peers from).last turn && may_ask (s.locks lock.0) from
counts s from turn (Body.Release lock mode version lines) =
    nat_lt (s.peers from).last turn && may_give (s.locks lock.0) from mode version lines
counts s from turn (Body.Arrive bar epoch lines) =
    arrival_counts (s.barriers bar.0) (s.peers from).last from turn epoch
counts s from turn _ = true

-- one who asks in a turn would take the lock in the next
abbrev pub waiting_of : ℕ → ℕ → Mode → ℕ → Waiting
waiting_of from turn mode «have» = record {
  proc = processor_named from;
  turn = turn + 1;
  mode = mode;
  «have» = «have»;
}

-- the home's lines once those of a version have come
abbrev pub with_version : List Piece → HomeLines → ℕ → List Line → HomeLines
with_version pieces home version lines = record {
  stamps = stamped home.stamps version lines;
  values = overlaid pieces home.values lines;
}

-- the last body of a processor that counted was of this turn
abbrev pub with_last : {S : Type 0} → Processor S → ℕ → ℕ → Processor S
with_last s from turn = record s { peers = update s.peers from (record (s.peers from) { last = turn }) }

-- with another state of a lock
abbrev pub with_lock : {S : Type 0} → Processor S → Lock → LockState → Processor S
with_lock s lock state = record s { locks = update s.locks lock.0 state }

-- a processor before it grants what a body lets it grant
abbrev pub with_request : {S : Type 0} → Processor S → ℕ → ℕ → Lock → Mode → ℕ → Processor S
with_request s from turn lock mode «have» =
    with_lock (with_last s from turn) lock (lock_with_request (s.locks lock.0) (waiting_of from turn mode «have»))

-- a release has come: the holder is gone, and the lines are those of the new version
abbrev pub with_release : {S : Type 0} → Setup → Processor S → ℕ → ℕ → Lock → Mode → ℕ → List Line → Processor S
with_release setup s from turn lock mode version lines = record (with_lock (with_last s from turn) lock
    (lock_after_release (s.locks lock.0) from mode)) { lines = with_version setup.bindings s.lines version lines }

-- with another state of a barrier
abbrev pub with_barrier : {S : Type 0} → Processor S → Bar → BarrierState → Processor S
with_barrier s bar state = record s { barriers = update s.barriers bar.0 state }

-- a manager before it opens what an arrival lets it open
abbrev pub with_arrived : {S : Type 0} → Processor S → ℕ → ℕ → Bar → List Line → Processor S
with_arrived s from turn bar lines =
    with_barrier (with_last s from turn) bar (with_arrival (s.barriers bar.0) from (arrived_in turn lines))

-- an opening has come, for the next turn
abbrev pub with_opening : {S : Type 0} → Processor S → Bar → ℕ → List Line → Processor S
with_opening s bar epoch lines = record s {
  mail = record s.mail {
    openings = s.mail.openings
        ++ record { turn = s.own.turns + 1; bar = bar; epoch = epoch; lines = lines } ∷ [];
  };
}

-- the lock is granted to all to whom it may be
abbrev pub effect_of_grants : {S : Type 0} → Setup → ℕ → Processor S → Lock → Effect S
effect_of_grants setup me s lock = only (home_after_grants setup me s lock) (grant_messages setup me s lock)

-- the barrier is opened where all have come
abbrev pub effect_of_openings : {S : Type 0} → Setup → ℕ → Processor S → Bar → Effect S
effect_of_openings setup me s bar =
    only (manager_after_openings setup me s bar) (opening_messages setup me s bar)

-- what a body does that counts
abbrev pub effect_of : {S : Type 0} → Setup → ℕ → Processor S → ℕ → ℕ → Body → Effect S
effect_of setup me s from turn (Body.Req lock mode «have») =
    effect_of_grants setup me (with_request s from turn lock mode «have») lock
effect_of setup me s from turn (Body.Release lock mode version lines) =
    effect_of_grants setup me (with_release setup s from turn lock mode version lines) lock
effect_of setup me s from turn (Body.Grant lock mode take version lines) =
    only (record s {
      mail = record s.mail {
        grants = s.mail.grants
            ++ record { turn = take; lock = lock; mode = mode; version = version; lines = lines } ∷ [];
      };
    }) []
effect_of setup me s from turn (Body.Arrive bar epoch lines) =
    effect_of_openings setup me (with_arrived s from turn bar lines) bar
effect_of setup me s from turn (Body.Opened bar epoch lines) = only (with_opening s bar epoch lines) []
effect_of setup me s from turn _ = only s []

-- me handles a body of a turn of another, or of its own
abbrev pub effect_of_body : {S : Type 0} → Setup → ℕ → Processor S → ℕ → ℕ → Body → Effect S
effect_of_body setup me s from turn body =
    if counts s from turn body then effect_of setup me s from turn body else only s []

-- a message comes to me: first what it brings along, then its body
abbrev pub effect_of_message : {S : Type 0} → Setup → ℕ → Processor S → Msg → Effect S
effect_of_message setup me s msg =
    record (effect_of_body setup me (with_carry s msg.from.0 msg.carry) msg.from.0 msg.carry.turn msg.body)
    { carried = msg.carry.lines }

-- Turns.

-- what a lock's home is told when a hold in this mode ends
abbrev pub release_of : {S : Type 0} → Setup → Own S → Lock → Option Mode → Option Body
release_of setup own lock None = None
release_of setup own lock (Some Mode.Shared) = Some (Body.Release lock Mode.Shared (own.versions lock.0) [])
release_of setup own lock (Some Mode.Excl) =
    Some (Body.Release lock Mode.Excl (own.versions lock.0 + 1) (dirty_lines setup own (Object.Lock lock)))

-- what a turn tells a home or a manager, by what was so before it
abbrev pub body_of : {S : Type 0} → Setup → Own S → Label → Option Body
body_of setup own (Label.Ask lock mode) = Some (Body.Req lock mode (own.versions lock.0))
body_of setup own (Label.Give lock) = release_of setup own lock (own.held lock.0)
body_of setup own (Label.Arrive bar) =
    Some (Body.Arrive bar (own.crossed bar.0) (dirty_lines setup own (Object.Bar bar)))
body_of setup own _ = None

-- a body goes to its home or manager: it is handled at once where p is that itself, and else sent
abbrev pub effect_of_telling_to : {S : Type 0} → Setup → ℕ → Processor S → Body → Option ℕ → Effect S
effect_of_telling_to setup p s body None = only s []
effect_of_telling_to setup p s body (Some keeper) =
    if keeper == p
    then effect_of_body setup p s p s.own.turns body
    else only s (message p s keeper body ∷ [])

-- what a processor does with what its turn tells, if anything: it handles it, or sends it to whom it is for
abbrev pub effect_of_telling : {S : Type 0} → Setup → ℕ → Processor S → Option Body → Effect S
effect_of_telling setup p s None = only s []
effect_of_telling setup p s (Some body) = effect_of_telling_to setup p s body (keeper_of setup body)

-- a printed line with its turn
abbrev pub printed_by : ℕ → Option (List ℕ) → List PendingLine
printed_by turn None = []
printed_by turn (Some text) = record { turn = turn; text = text } ∷ []

-- a processor right after a turn, before it tells anyone
abbrev pub processor_after : {S : Type 0} → Setup → Semantics S → Processor S → OwnTurn → Processor S
processor_after setup threads s turn = record s {
  own = own_after setup threads s.own turn;
  mail = mail_after s.mail (s.own.turns + 1);
}

-- p makes a turn
abbrev pub effect_of_turn : {S : Type 0} → Setup → Semantics S → ℕ → Processor S → OwnTurn → Effect S
effect_of_turn setup threads p s turn =
    record (effect_of_telling setup p (processor_after setup threads s turn) (body_of setup s.own turn.label))
    { outs = printed_by (s.own.turns + 1) (line_text turn.label) }
