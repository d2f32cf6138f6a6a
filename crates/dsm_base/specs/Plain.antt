-- The machine of one memory: its state, the turn of a thread, and its runs. A run is a list of turns, the newest first.
use Rattle.std.specs.Prelude.{◌≡◌, ℕ, ℤ, pos, ◌+◌, ◌<◌, Bool, true, ◌||◌, ◌==◌, if◌then◌else◌, nat_lt, List, [], ◌∷◌, Option, Some, None, is_some}
use Rattle.dsm_base.specs.declared.names.Cell.{Cell}
use Rattle.dsm_base.specs.declared.names.Lock.{Lock}
use Rattle.dsm_base.specs.declared.names.Mode.{Mode}
use Rattle.dsm_base.specs.declared.names.Fault.{Fault}
use Rattle.dsm_base.specs.declared.label.Want.{Want}
use Rattle.dsm_base.specs.declared.label.Label.{Label}
use Rattle.dsm_base.specs.declared.setup.Piece.{Piece}
use Rattle.dsm_base.specs.declared.setup.Setup.{Setup}
use Rattle.dsm_base.specs.Family.{update, all_below}
use Rattle.dsm_base.specs.Access.{Rights, piece_of, may_load_piece, may_store_piece, is_exclusive}
use Rattle.dsm_base.specs.Holders.{are_compatible}
use Rattle.dsm_base.specs.Threads.{Semantics}

-- The label of a turn.

-- what a thread sees beside its own state: its rights, a memory, and the versions of the locks
pub record Surroundings : Type 0 where
  pub rights : Rights
  pub memory : ℕ → ℤ
  pub versions : ℕ → ℕ

-- a load of a cell of this piece with this value, or a fault where p may not load it
abbrev pub load_label : ℕ → Rights → Option Piece → Cell → ℤ → ℕ → Label
load_label p rights piece cell value line =
    if may_load_piece p rights piece then Label.Load cell value else Label.Stop Fault.Unbound line

-- a store to a cell of this piece, or a fault where p may not store to it
abbrev pub store_label : ℕ → Rights → Option Piece → Cell → ℤ → ℕ → Label
store_label p rights piece cell value line =
    if may_store_piece p rights piece then Label.Store cell value else Label.Stop Fault.Unbound line

-- an ask for a lock, or a fault where it is held
abbrev pub ask_label : Rights → Lock → Mode → ℕ → Label
ask_label rights lock mode line =
    if is_some (rights.held lock.0) then Label.Stop Fault.Held line else Label.Ask lock mode

-- a lock is given back, or a fault where it isn't held
abbrev pub give_label : Rights → Lock → ℕ → Label
give_label rights lock line =
    if is_some (rights.held lock.0) then Label.Give lock else Label.Stop Fault.NotHeld line

-- the label of a turn of p by what it wants and sees; a thread that is over has none
abbrev pub label_of : List Piece → ℕ → Surroundings → List ℕ → Want → Option Label
label_of pieces p seen text Want.Quiet = Some Label.Quiet
label_of pieces p seen text (Want.Load cell line) =
    Some (load_label p seen.rights (piece_of pieces cell.0) cell (seen.memory cell.0) line)
label_of pieces p seen text (Want.Store cell value line) =
    Some (store_label p seen.rights (piece_of pieces cell.0) cell value line)
label_of pieces p seen text (Want.Ask lock mode line) = Some (ask_label seen.rights lock mode line)
label_of pieces p seen text (Want.Take lock mode) = Some (Label.Take lock mode (seen.versions lock.0))
label_of pieces p seen text (Want.Give lock line) = Some (give_label seen.rights lock line)
label_of pieces p seen text (Want.Arrive bar) = Some (Label.Arrive bar)
label_of pieces p seen text (Want.Cross bar) = Some (Label.Cross bar (seen.rights.crossed bar.0 + 1))
label_of pieces p seen text Want.Line = Some (Label.Line text)
label_of pieces p seen text Want.End = Some Label.End
label_of pieces p seen text (Want.Stop fault line) = Some (Label.Stop fault line)
label_of pieces p seen text Want.Over = None

-- What a label leaves of each part of the state.

-- a store sets its cell
abbrev pub memory_after : (ℕ → ℤ) → Label → ℕ → ℤ
memory_after memory (Label.Store cell value) = update memory cell.0 value
memory_after memory _ = memory

-- the modes in which one processor holds the locks
abbrev pub held_after : (ℕ → Option Mode) → Label → ℕ → Option Mode
held_after held (Label.Take lock mode version) = update held lock.0 (Some mode)
held_after held (Label.Give lock) = update held lock.0 None
held_after held _ = held

-- how often one processor has come to each barrier
abbrev pub arrived_after : (ℕ → ℕ) → Label → ℕ → ℕ
arrived_after arrived (Label.Arrive bar) = update arrived bar.0 (arrived bar.0 + 1)
arrived_after arrived _ = arrived

-- how often one processor has crossed each barrier
abbrev pub crossed_after : (ℕ → ℕ) → Label → ℕ → ℕ
crossed_after crossed (Label.Cross bar epoch) = update crossed bar.0 epoch
crossed_after crossed _ = crossed

-- the versions of the locks after a label of one who holds them so: an exclusive hold that ends makes a new one
abbrev pub versions_after : (ℕ → ℕ) → (ℕ → Option Mode) → Label → ℕ → ℕ
versions_after versions held (Label.Give lock) =
    if is_exclusive (held lock.0) then update versions lock.0 (versions lock.0 + 1) else versions
versions_after versions held _ = versions

-- The state.

-- the threads, the one memory, and how each processor stands to the locks and barriers
pub record PlainState (S : Type 0) : Type 0 where
  pub threads : ℕ → S
  pub memory : ℕ → ℤ
  pub versions : ℕ → ℕ
  pub held : ℕ → ℕ → Option Mode  -- by processor and lock
  pub arrived : ℕ → ℕ → ℕ  -- by processor and barrier
  pub crossed : ℕ → ℕ → ℕ

-- before the first turn
abbrev pub plain_start : {S : Type 0} → (ℕ → S) → PlainState S
plain_start first = record {
  threads = first;
  memory = λ cell. pos 0;
  versions = λ lock. 0;
  held = λ p lock. None;
  arrived = λ p bar. 0;
  crossed = λ p bar. 0;
}

-- what p sees of the one memory
abbrev pub seen_by : {S : Type 0} → PlainState S → ℕ → Surroundings
seen_by s p = record {
  rights = record { held = s.held p; crossed = s.crossed p };
  memory = s.memory;
  versions = s.versions;
}

-- after a turn of p
abbrev pub plain_after : {S : Type 0} → Semantics S → PlainState S → ℕ → Label → PlainState S
plain_after threads s p label = record {
  threads = update s.threads p (threads.after (s.threads p) label);
  memory = memory_after s.memory label;
  versions = versions_after s.versions (s.held p) label;
  held = update s.held p (held_after (s.held p) label);
  arrived = update s.arrived p (arrived_after (s.arrived p) label);
  crossed = update s.crossed p (crossed_after (s.crossed p) label);
}

-- The turn of a processor.

-- whether another's hold may stand beside one in this mode
abbrev pub may_stand_beside : Mode → Option Mode → Bool
may_stand_beside mode None = true
may_stand_beside mode (Some other) = are_compatible mode other

-- whether p may take a lock beside those that hold it
abbrev pub can_take : ℕ → (ℕ → ℕ → Option Mode) → ℕ → ℕ → Mode → Bool
can_take procs held p lock mode = all_below procs (λ q. (q == p) || may_stand_beside mode (held q lock))

-- whether every processor has come to the barrier as often as p would have crossed it
abbrev pub can_cross : ℕ → (ℕ → ℕ → ℕ) → ℕ → ℕ → Bool
can_cross procs arrived epoch bar = all_below procs (λ q. nat_lt epoch (arrived q bar))

-- whether p need not wait for the others
abbrev pub is_possible : {S : Type 0} → ℕ → PlainState S → ℕ → Want → Bool
is_possible procs s p (Want.Take lock mode) = can_take procs s.held p lock.0 mode
is_possible procs s p (Want.Cross bar) = can_cross procs s.arrived (s.crossed p bar.0) bar.0
is_possible procs s p _ = true

-- the turn of a thread that wants this, where it is possible
abbrev pub plain_turn_of : {S : Type 0} → Setup → PlainState S → ℕ → List ℕ → Want → Option Label
plain_turn_of setup s p text want =
    if is_possible setup.procs s p want then label_of setup.bindings p (seen_by s p) text want else None

-- the turn of p in a state, where it is possible
abbrev pub plain_turn : {S : Type 0} → Setup → Semantics S → PlainState S → ℕ → Option Label
plain_turn setup threads s p = plain_turn_of setup s p (threads.text (s.threads p)) (threads.want (s.threads p))

-- Runs.

-- a turn of a run: whose it is, and what it shows
pub record Turn : Type 0 where
  pub proc : ℕ
  pub label : Label

-- the state after a run
abbrev pub after_run : {S : Type 0} → (ℕ → S) → Semantics S → List Turn → PlainState S
after_run first threads [] = plain_start first
after_run first threads (turn ∷ before) = plain_after threads (after_run first threads before) turn.proc turn.label

-- a turn is the one that its processor makes in a state
pub record IsPlainTurn {S : Type 0} (setup : Setup) (threads : Semantics S) (s : PlainState S) (turn : Turn) : Type 0 where
  pub is_processor : turn.proc < setup.procs
  pub is_label : plain_turn setup threads s turn.proc ≡ Some turn.label

-- each turn is the one that its processor makes after those before it
abbrev pub IsPlainRun : {S : Type 0} → Setup → (ℕ → S) → Semantics S → List Turn → Type 0
IsPlainRun setup first threads [] = Unit {0}
IsPlainRun setup first threads (turn ∷ before) =
    IsPlainRun setup first threads before × IsPlainTurn setup threads (after_run first threads before) turn

-- the labels of one processor in a run
abbrev pub labels_of : ℕ → List Turn → List Label
labels_of p [] = []
labels_of p (turn ∷ before) = if turn.proc == p then turn.label ∷ labels_of p before else labels_of p before
