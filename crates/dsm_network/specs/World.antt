-- The world as contracts see it.
use Rattle.std.specs.Prelude.{◌≡◌, ℕ, ◌<◌, List, length, map, reverse, Option, Some, None}
use Rattle.std.specs.List.{All, slice_index_or}
use Rattle.dsm_base.specs.declared.act.Act.{Act}
use Rattle.dsm_base.specs.declared.label.Ending.{Ending}
use Rattle.dsm_base.specs.declared.setup.Setup.{Setup}
use Rattle.dsm_base.specs.Family.{family_of, update, update_at}
use Rattle.dsm_base.specs.Threads.{Kind}
use Rattle.dsm_msg.specs.declared.message.Msg.{Msg}
use Rattle.dsm_msg.specs.Spelling.{IsInOrder}
use Rattle.dsm_net.specs.declared.trace.Letter.{Letter}
use Rattle.dsm_net.specs.declared.trace.Rec.{Rec}
use Rattle.dsm_net.specs.declared.trace.Group.{Group}
use Rattle.dsm_net.specs.Processor.{Processor, start_processor}
use Rattle.dsm_net.specs.Turns.{OwnTurn, own_turn}
use Rattle.dsm_net.specs.Net.{Net}
use Rattle.dsm_net.specs.Units.{Made, unit_of, went}
use Rattle.dsm_net.specs.Fits.{Done, run_of}
use Rattle.dsm_channels.specs.Channels.{under_way, proc_count}
use Rattle.dsm_processor.specs.Names.{BodyNames, IsKeptBy}
use Rattle.dsm_processor.specs.Node.{processor_of}
use Rattle.dsm_processor.specs.declared.node.Node.{Node}
use Rattle.dsm_network.specs.Nodes.{IsNodeOf}
use Rattle.dsm_network.specs.declared.world.World.{World}

-- its setup
abbrev pub setup_of : {M T S : Type 0} → World M T S → Setup
setup_of world = world.setup.value

-- the first state of each thread
abbrev pub first_of : {M T S : Type 0} → (M → ℕ → ℕ → S) → World M T S → ℕ → S
first_of first world = first world.maker world.setup.value.procs

-- the trace, with the newest group first
abbrev pub groups_of : {M T S : Type 0} → World M T S → List Group
groups_of world = reverse world.trace

-- how many units were applied
abbrev pub units_of : {M T S : Type 0} → World M T S → ℕ
units_of world = world.units

-- the processor of each number; past the last one those of threads that haven't begun
abbrev pub processor_at : {M T S : Type 0} → Kind T S → (M → ℕ → ℕ → S) → World M T S → ℕ → Processor S
processor_at kind first world =
    family_of (λ p. start_processor (first_of first world p)) (map (processor_of kind) world.nodes.items)

-- what the world holds; no image is taken yet
abbrev pub net_of : {M T S : Type 0} → Kind T S → (M → ℕ → ℕ → S) → World M T S → Net S
net_of kind first world = record {
  processors = λ p. Some (processor_at kind first world p);
  channels = under_way world.channels;
  sent = world.sent;
  out = family_of (λ p. 0) world.out;
  images = λ p. record { marked = None; begun = None };
}

-- the same with the records of the unit under way
abbrev pub made_of : {M T S : Type 0} → Kind T S → (M → ℕ → ℕ → S) → World M T S → List Rec → Made S
made_of kind first world records = record { net = net_of kind first world; records = records }

-- the records of one more unit
abbrev pub records_of : {M T S : Type 0} → Kind T S → (M → ℕ → ℕ → S) → World M T S → Act → List Rec
records_of kind first world act =
    (unit_of (setup_of world) kind.semantics (net_of kind first world) act went).records

-- the turn that a processor can make
abbrev pub turn_of : {M T S : Type 0} → Kind T S → (M → ℕ → ℕ → S) → World M T S → ℕ → Option OwnTurn
turn_of kind first world p = own_turn (setup_of world) kind.semantics p (processor_at kind first world p)

-- how the thread of a processor came to be over
abbrev pub ending_at : {S : Type 0} → Option (Processor S) → Option Ending
ending_at None = None
ending_at (Some s) = s.own.ending

-- with another state of a processor
abbrev pub with_node : {S : Type 0} → Net S → ℕ → Processor S → Net S
with_node net p s = record net { processors = update net.processors p (Some s) }

-- with other letters under way from one processor to another
abbrev pub with_letters : {S : Type 0} → Net S → ℕ → ℕ → List Letter → Net S
with_letters net from to letters = record net { channels = update_at net.channels from to letters }

-- a message that this processor of the setup can handle
pub record IsReceivable (setup : Setup) (p : ℕ) (msg : Msg) : Type 0 where
  pub from : msg.from.0 < setup.procs
  pub names : BodyNames setup msg.body
  pub kept : IsKeptBy setup p msg.body

-- a message that can be sent between processors of the setup
pub record IsSendable (setup : Setup) (msg : Msg) : Type 0 where
  pub from : msg.from.0 < setup.procs
  pub to : msg.to.0 < setup.procs
  pub names : BodyNames setup msg.body
  pub kept : IsKeptBy setup msg.to.0 msg.body
  pub in_order : IsInOrder msg

-- there is a node for each processor, and a channel for each two, with messages that can be handled
pub record IsShaped {M T S : Type 0} (kind : Kind T S) (world : World M T S) : Type 0 where
  pub count : length world.nodes.items ≡ world.setup.value.procs
  pub nodes : (p : ℕ) (default : Node T S) → p < world.setup.value.procs →
      IsNodeOf kind world.setup.value p (slice_index_or world.nodes.items p default)
  pub channels : proc_count world.channels ≡ world.setup.value.procs
  pub letters : (from to : ℕ) →
      All (λ letter. IsReceivable world.setup.value to letter.msg) (under_way world.channels from to)
  pub out : length world.out ≡ world.setup.value.procs

-- these units, the newest first, make what the world holds, and its trace
pub record IsRunOf {M T S : Type 0} (kind : Kind T S) (first : M → ℕ → ℕ → S) (done : List Done) (world : World M T S) : Type 0 where
  pub ran : run_of (setup_of world) (first_of first world) kind.semantics done ≡
      record { net = net_of kind first world; groups = groups_of world }
  pub units : length done ≡ units_of world

-- some units make it
pub record IsWhole {M T S : Type 0} (kind : Kind T S) (first : M → ℕ → ℕ → S) (world : World M T S) : Type 0 where
  pub shape : IsShaped kind world
  pub done : List Done
  pub run : IsRunOf kind first done world

-- nothing but what the world holds has changed
pub record IsSameWorld {M T S : Type 0} (old new : World M T S) : Type 0 where
  pub setup : new.setup.value ≡ old.setup.value
  pub maker : new.maker ≡ old.maker
  pub trace : new.trace ≡ old.trace
  pub units : new.units ≡ old.units

-- nor has a processor
pub record HasSameNodes {M T S : Type 0} (old new : World M T S) : Type 0 where
  pub world : IsSameWorld old new
  pub nodes : new.nodes ≡ old.nodes
