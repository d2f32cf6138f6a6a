-- What is kept of threads, with another state in the place of each thread's: each state x becomes g x.
use Rattle.std.specs.Prelude.{Option, Some, None}
use Rattle.dsm_base.specs.Plain.{PlainState}
use Rattle.dsm_net.specs.Processor.{Own, Processor}
use Rattle.dsm_net.specs.Effects.{Effect}
use Rattle.dsm_net.specs.Net.{Begun, Images, Net}
use Rattle.dsm_net.specs.Units.{Made}
use Rattle.dsm_net.specs.Fits.{Ran}

module _ {P S : Type 0} (g : P → S) where
  -- the machine of one memory
  abbrev pub plain_by : PlainState P → PlainState S
  plain_by s = record {
    threads = λ p. g (s.threads p);
    memory = s.memory;
    versions = s.versions;
    held = s.held;
    arrived = s.arrived;
    crossed = s.crossed;
  }

  -- what is a processor's own
  abbrev pub own_by : Own P → Own S
  own_by own = record {
    thread = g own.thread;
    turns = own.turns;
    copy = own.copy;
    dirty = own.dirty;
    held = own.held;
    versions = own.versions;
    arrived = own.arrived;
    crossed = own.crossed;
    ending = own.ending;
  }

  -- a processor
  abbrev pub processor_by : Processor P → Processor S
  processor_by s = record {
    own = own_by s.own;
    mail = s.mail;
    locks = s.locks;
    lines = s.lines;
    barriers = s.barriers;
    peers = s.peers;
    tail = s.tail;
    logs = s.logs;
    standing = s.standing;
  }

  -- a processor that may be down
  abbrev pub up_by : Option (Processor P) → Option (Processor S)
  up_by None = None
  up_by (Some s) = Some (processor_by s)

  -- an image under way
  abbrev pub begun_by : Option (Begun P) → Option (Begun S)
  begun_by None = None
  begun_by (Some begun) = Some record {
    image = processor_by begun.image;
    blocks = begun.blocks;
    written = begun.written;
  }

  -- the images of a processor
  abbrev pub images_by : Images P → Images S
  images_by images = record { marked = up_by images.marked; begun = begun_by images.begun }

  -- all that the world holds
  abbrev pub net_by : Net P → Net S
  net_by net = record {
    processors = λ p. up_by (net.processors p);
    channels = net.channels;
    sent = net.sent;
    out = net.out;
    images = λ p. images_by (net.images p);
  }

  -- what a processor does in a unit
  abbrev pub effect_by : Effect P → Effect S
  effect_by effect = record {
    processor = processor_by effect.processor;
    carried = effect.carried;
    sends = effect.sends;
    replayed = effect.replayed;
    rebuilt = effect.rebuilt;
    outs = effect.outs;
    note = effect.note;
  }

  -- what a unit has made
  abbrev pub made_by : Made P → Made S
  made_by unit = record { net = net_by unit.net; records = unit.records }

  -- what units have made
  abbrev pub ran_by : Ran P → Ran S
  ran_by ran = record { net = net_by ran.net; groups = ran.groups }

-- what units have made, without the states of threads
abbrev pub without_threads : {S : Type 0} → Ran S → Ran (Unit {0})
without_threads ran = ran_by (λ state. tt) ran
