-- A turn of a processor, and what it leaves of what is its own.
use Rattle.std.specs.Prelude.{ℕ, ◌+◌, Bool, if◌then◌else◌, nat_lt, List, filter, Option, Some, None, option_map}
use Rattle.dsm_base.specs.declared.names.Mode.{Mode}
use Rattle.dsm_base.specs.declared.label.Label.{Label}
use Rattle.dsm_base.specs.declared.setup.Object.{Object}
use Rattle.dsm_base.specs.declared.setup.Piece.{Piece}
use Rattle.dsm_base.specs.declared.setup.Setup.{Setup}
use Rattle.dsm_base.specs.Family.{update}
use Rattle.dsm_base.specs.Access.{is_exclusive}
use Rattle.dsm_base.specs.Endings.{ending_after}
use Rattle.dsm_base.specs.Threads.{Semantics}
use Rattle.dsm_base.specs.Plain.{Surroundings, label_of, memory_after, held_after, arrived_after, crossed_after}
use Rattle.dsm_lines.specs.declared.list.Line.{Line}
use Rattle.dsm_lines.specs.Copies.{lines_where, overlaid, with_mark, without_lines}
use Rattle.dsm_lines.specs.Places.{place_of}
use Rattle.dsm_net.specs.Processor.{Own, Mail, Processor}
use Rattle.dsm_net.specs.Inputs.{Input, input_for}

-- a turn: its label, and the lines that it brings
pub record OwnTurn : Type 0 where
  pub label : Label
  pub lines : List Line

-- what a thread sees on its processor: its own rights and copy, and the number that came for it
abbrev pub own_view : {S : Type 0} → Own S → ℕ → Surroundings
own_view own number = record {
  rights = record { held = own.held; crossed = own.crossed };
  memory = own.copy;
  versions = λ lock. number;
}

-- the turn of p with this input; without one it waits
abbrev pub turn_with : {S : Type 0} → Setup → Semantics S → ℕ → Own S → Option Input → Option OwnTurn
turn_with setup threads p own None = None
turn_with setup threads p own (Some input) =
    option_map (λ label. record { label = label; lines = input.lines })
    (label_of setup.bindings p (own_view own input.number) (threads.text own.thread) (threads.want own.thread))

-- the next turn of p, where it can make one
abbrev pub own_turn : {S : Type 0} → Setup → Semantics S → ℕ → Processor S → Option OwnTurn
own_turn setup threads p s = turn_with setup threads p s.own (input_for s (threads.want s.own.thread))

-- What a turn leaves.

-- a store marks the line of its cell; a release and an arrival take the marks of the object's lines away
abbrev pub dirty_after : List Piece → (ℕ → Bool) → Label → ℕ → Bool
dirty_after pieces dirty (Label.Store cell value) = with_mark dirty (place_of pieces cell.0)
dirty_after pieces dirty (Label.Give lock) = without_lines pieces dirty (Object.Lock lock)
dirty_after pieces dirty (Label.Arrive bar) = without_lines pieces dirty (Object.Bar bar)
dirty_after pieces dirty _ = dirty

-- the version of each lock that the own copy has: that of the last take, and one more after an exclusive hold
abbrev pub own_versions_after : (ℕ → ℕ) → (ℕ → Option Mode) → Label → ℕ → ℕ
own_versions_after versions held (Label.Take lock mode version) = update versions lock.0 version
own_versions_after versions held (Label.Give lock) =
    if is_exclusive (held lock.0) then update versions lock.0 (versions lock.0 + 1) else versions
own_versions_after versions held _ = versions

-- what is a processor's own after its turn
abbrev pub own_after : {S : Type 0} → Setup → Semantics S → Own S → OwnTurn → Own S
own_after setup threads own turn = record {
  thread = threads.after own.thread turn.label;
  turns = own.turns + 1;
  copy = overlaid setup.bindings (memory_after own.copy turn.label) turn.lines;
  dirty = dirty_after setup.bindings own.dirty turn.label;
  held = held_after own.held turn.label;
  versions = own_versions_after own.versions own.held turn.label;
  arrived = arrived_after own.arrived turn.label;
  crossed = crossed_after own.crossed turn.label;
  ending = ending_after own.ending turn.label;
}

-- what has come for turns after this one is kept
abbrev pub mail_after : Mail → ℕ → Mail
mail_after mail turn = record {
  grants = filter (λ grant. nat_lt turn grant.turn) mail.grants;
  openings = filter (λ opening. nat_lt turn opening.turn) mail.openings;
}

-- the lines of an object that were stored to in the hold or epoch that a turn ends, as they are now
abbrev pub dirty_lines : {S : Type 0} → Setup → Own S → Object → List Line
dirty_lines setup own object = lines_where setup.bindings own.dirty own.copy object
