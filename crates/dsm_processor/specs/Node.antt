-- A processor as contracts see it.
use Rattle.std.specs.Prelude.{◌≡◌, ℕ, ◌+◌, ◌<◌, ◌≤◌, false, List, [], length, Option, Some, None, option_map}
use Rattle.dsm_base.specs.declared.names.Lock.{Lock}
use Rattle.dsm_base.specs.declared.names.Mode.{Mode}
use Rattle.dsm_base.specs.declared.label.Want.{Want}
use Rattle.dsm_base.specs.declared.label.Label.{Label}
use Rattle.dsm_base.specs.declared.setup.Setup.{Setup}
use Rattle.dsm_base.specs.Rights.{held_of, arrived_of, crossed_of, HasSizes}
use Rattle.dsm_base.specs.Threads.{Semantics, Kind, StaysWithin}
use Rattle.dsm_base.specs.Endings.{ending_after}
use Rattle.dsm_base.specs.Plain.{label_of, held_after, arrived_after, crossed_after}
use Rattle.dsm_lines.specs.declared.list.Line.{Line}
use Rattle.dsm_lines.specs.OwnCopies.{copy_pieces, copy_memory, copy_marks}
use Rattle.dsm_msg.specs.declared.message.Body.{Body}
use Rattle.dsm_home.specs.Homes.{home_state, home_pieces, lock_count}
use Rattle.dsm_barrier.specs.Managers.{barriers_of, last_of, bar_count}
use Rattle.dsm_net.specs.Processor.{Own, Processor, live}
use Rattle.dsm_net.specs.Inputs.{Input, input_for}
use Rattle.dsm_net.specs.Turns.{OwnTurn, own_view, own_versions_after}
use Rattle.dsm_net.specs.Effects.{Effect, effect_of_turn}
use Rattle.dsm_processor.specs.Names.{AreOfSetup}
use Rattle.dsm_processor.specs.Peers.{peers_of, peer_count}
use Rattle.dsm_processor.specs.Versions.{versions_of}
use Rattle.dsm_processor.specs.declared.node.Effects.{Effects}
use Rattle.dsm_processor.specs.declared.node.Node.{Node}
use Rattle.dsm_processor.specs.declared.node.Stepped.{Stepped}

-- what its turns have left
abbrev pub own_of : {T S : Type 0} → Kind T S → Node T S → Own S
own_of kind node = record {
  thread = kind.state node.task;
  turns = node.turns;
  copy = copy_memory node.copy;
  dirty = copy_marks node.copy;
  held = held_of node.rights;
  versions = versions_of node.versions;
  arrived = arrived_of node.rights;
  crossed = crossed_of node.rights;
  ending = node.ending;
}

-- what the definitions call the processor; the parts that nothing uses yet are as they begin
abbrev pub processor_of : {T S : Type 0} → Kind T S → Node T S → Processor S
processor_of kind node = record {
  own = own_of kind node;
  mail = node.mail;
  locks = (home_state node.home).locks;
  lines = record { stamps = (home_state node.home).stamps; values = (home_state node.home).values };
  barriers = barriers_of node.manager;
  peers = peers_of node.peers;
  tail = record { known = node.known; records = []; lines = []; noted = false };
  logs = record {
    versions = [];
    arrivals = [];
    grants = λ q. [];
    openings = λ q. [];
    records = λ q. [];
  };
  standing = live;
}

-- its setup
abbrev pub setup_of : {T S : Type 0} → Node T S → Setup
setup_of node = node.setup.value

-- its number
abbrev pub me_of : {T S : Type 0} → Node T S → ℕ
me_of node = node.me.0

-- what it has of locks, barriers, cells and processors is of the setup
pub record IsShaped {T S : Type 0} (node : Node T S) : Type 0 where
  pub is_processor : node.me.0 < node.setup.value.procs
  pub table : node.table.value ≡ node.setup.value.bindings
  pub copy : copy_pieces node.copy ≡ node.setup.value.bindings
  pub rights : HasSizes node.setup.value.locks node.setup.value.bars node.rights
  pub versions : length node.versions ≡ node.setup.value.locks
  pub locks : lock_count node.home ≡ node.setup.value.locks
  pub lines : home_pieces node.home ≡ node.setup.value.bindings
  pub peers : peer_count node.peers ≡ node.setup.value.procs
  pub manager : node.manager.me ≡ node.me
  pub procs : node.manager.procs ≡ node.setup.value.procs
  pub bars : bar_count node.manager ≡ node.setup.value.bars
  pub arrivals : (p : ℕ) → last_of node.manager p ≤ (peers_of node.peers p).last

-- besides, all that its thread will name is of the setup, and so is who waits
pub record IsWhole {T S : Type 0} (kind : Kind T S) (node : Node T S) : Type 0 where
  pub shape : IsShaped node
  pub stays : StaysWithin node.setup.value kind.semantics (kind.state node.task)
  pub waiting : AreOfSetup node.setup.value (home_state node.home).locks

-- it is the same processor of the same setup
pub record IsSameNode {T S : Type 0} (old new : Node T S) : Type 0 where
  pub setup : setup_of new ≡ setup_of old
  pub me : me_of new ≡ me_of old

-- what an effect sends and puts out
abbrev pub effects_of : {S : Type 0} → Effect S → Effects
effects_of effect = record {
  carried = effect.carried;
  sends = effect.sends;
  replayed = effect.replayed;
  rebuilt = effect.rebuilt;
  outs = effect.outs;
  note = effect.note;
}

-- what a step answers, where a turn is possible
abbrev pub stepped_by : {S : Type 0} → Setup → Semantics S → ℕ → Processor S → Option OwnTurn → Option Stepped
stepped_by setup threads me s None = None
stepped_by setup threads me s (Some turn) = Some record {
  turn = s.own.turns + 1;
  label = turn.label;
  lines = turn.lines;
  effects = effects_of (effect_of_turn setup threads me s turn);
}

-- the processor after a step
abbrev pub processor_stepped : {S : Type 0} → Setup → Semantics S → ℕ → Processor S → Option OwnTurn → Processor S
processor_stepped setup threads me s None = s
processor_stepped setup threads me s (Some turn) = (effect_of_turn setup threads me s turn).processor

-- the number that comes for what its thread wants, where it need not wait
abbrev pub number_for : {S : Type 0} → Processor S → Want → Option ℕ
number_for s want = option_map (λ input. input.number) (input_for s want)

-- the lines that come for it
abbrev pub input_lines : Option Input → List Line
input_lines None = []
input_lines (Some input) = input.lines

-- the label of its next turn, where this number has come
abbrev pub label_with : {S : Type 0} → Setup → Semantics S → ℕ → Own S → ℕ → Want → Option Label
label_with setup threads me own number want =
    label_of setup.bindings me (own_view own number) (threads.text own.thread) want

-- the same by the number that has come, if one has
abbrev pub label_for : {S : Type 0} → Setup → Semantics S → ℕ → Own S → Option ℕ → Want → Option Label
label_for setup threads me own None want = None
label_for setup threads me own (Some number) want = label_with setup threads me own number want

-- what a turn tells, by the versions and the holds before it and by the lines that it gives to others
abbrev pub release_with : (ℕ → ℕ) → Lock → Option Mode → List Line → Option Body
release_with versions lock None given = None
release_with versions lock (Some Mode.Shared) given = Some (Body.Release lock Mode.Shared (versions lock.0) [])
release_with versions lock (Some Mode.Excl) given = Some (Body.Release lock Mode.Excl (versions lock.0 + 1) given)

abbrev pub body_with : (ℕ → ℕ) → (ℕ → Option Mode) → (ℕ → ℕ) → Label → List Line → Option Body
body_with versions held crossed (Label.Ask lock mode) given = Some (Body.Req lock mode (versions lock.0))
body_with versions held crossed (Label.Give lock) given = release_with versions lock (held lock.0) given
body_with versions held crossed (Label.Arrive bar) given = Some (Body.Arrive bar (crossed bar.0) given)
body_with versions held crossed _ given = None

-- the processor after a turn of this label, but for its copy of the cells and its mailbox
abbrev pub advanced : {S : Type 0} → Semantics S → Processor S → Label → Processor S
advanced threads s label = record s {
  own = record s.own {
    thread = threads.after s.own.thread label;
    turns = s.own.turns + 1;
    held = held_after s.own.held label;
    versions = own_versions_after s.own.versions s.own.held label;
    arrived = arrived_after s.own.arrived label;
    crossed = crossed_after s.own.crossed label;
    ending = ending_after s.own.ending label;
  };
}
