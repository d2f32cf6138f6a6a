-- What one unit makes of what the world holds, and its records. Its parts go on one after the other, and each adds its records.
use Rattle.std.specs.Prelude.{ℕ, ◌+◌, List, [], ◌∷◌, ◌++◌, if◌then◌else◌, nat_lt, Option, Some, None}
use Rattle.dsm_base.specs.declared.act.Act.{Act}
use Rattle.dsm_base.specs.declared.lists.PendingLine.{PendingLine}
use Rattle.dsm_base.specs.declared.setup.Setup.{Setup}
use Rattle.dsm_base.specs.Family.{update, update_at}
use Rattle.dsm_base.specs.Threads.{Semantics}
use Rattle.dsm_msg.specs.declared.message.Msg.{Msg}
use Rattle.dsm_net.specs.declared.trace.Letter.{Letter}
use Rattle.dsm_net.specs.declared.trace.Rec.{Rec}
use Rattle.dsm_net.specs.Processor.{Processor}
use Rattle.dsm_net.specs.Turns.{OwnTurn, own_turn}
use Rattle.dsm_net.specs.Messages.{processor_named}
use Rattle.dsm_net.specs.Effects.{Effect, effect_of_message, effect_of_turn}
use Rattle.dsm_net.specs.Net.{Net}

-- what a unit leaves open: whether a store failed, and how many blocks an image has
pub data Outcome : Type 0 where
  went : Outcome
  gave_up : Outcome
  began : (blocks : ℕ) → Outcome

-- what a unit has made so far
pub record Made (S : Type 0) : Type 0 where
  pub net : Net S
  pub records : List Rec

-- nothing was done
abbrev pub unchanged : {S : Type 0} → Net S → Made S
unchanged net = record { net = net; records = [] }

-- the net is changed, and these records are added
abbrev pub then_made : {S : Type 0} → Made S → Net S → List Rec → Made S
then_made unit net more = record { net = net; records = unit.records ++ more }

-- the net once a message is under way
abbrev pub with_letter : {S : Type 0} → Net S → Msg → Net S
with_letter net msg = record net {
  channels = update_at net.channels msg.from.0 msg.to.0
      (net.channels msg.from.0 msg.to.0 ++ record { number = net.sent + 1; msg = msg } ∷ []);
  sent = net.sent + 1;
}

-- a message is sent; one to a processor that is down is lost at once
abbrev pub with_message_to : {S : Type 0} → Made S → Msg → Option (Processor S) → Made S
with_message_to unit msg None =
    then_made unit (record unit.net { sent = unit.net.sent + 1 })
    (Rec.Sent (unit.net.sent + 1) msg ∷ Rec.Dropped (unit.net.sent + 1) ∷ [])
with_message_to unit msg (Some receiver) =
    then_made unit (with_letter unit.net msg) (Rec.Sent (unit.net.sent + 1) msg ∷ [])

-- with a message put into its channel, or lost where its receiver is down
abbrev pub with_message : {S : Type 0} → Made S → Msg → Made S
with_message unit msg = with_message_to unit msg (unit.net.processors msg.to.0)

-- with messages, one after another
abbrev pub with_messages : {S : Type 0} → Made S → List Msg → Made S
with_messages unit [] = unit
with_messages unit (msg ∷ others) = with_messages (with_message unit msg) others

-- a line of p goes out, where it isn't out already
abbrev pub with_line_out : {S : Type 0} → Made S → ℕ → PendingLine → Made S
with_line_out unit p line =
    if nat_lt (unit.net.out p) line.turn
    then then_made unit (record unit.net { out = update unit.net.out p line.turn })
    (Rec.Out (processor_named p) line.turn line.text ∷ [])
    else unit

-- with printed lines put out, one after another
abbrev pub with_lines_out : {S : Type 0} → Made S → ℕ → List PendingLine → Made S
with_lines_out unit p [] = unit
with_lines_out unit p (line ∷ lines) = with_lines_out (with_line_out unit p line) p lines

-- with another state of a processor
abbrev pub with_processor : {S : Type 0} → Made S → ℕ → Processor S → Made S
with_processor unit p s =
    then_made unit (record unit.net { processors = update unit.net.processors p (Some s) }) []

-- with a note put into its channel, if there is one
abbrev pub with_note : {S : Type 0} → Made S → Option Msg → Made S
with_note unit None = unit
with_note unit (Some note) = with_message unit note

-- the replay of p ends: what it does about it
abbrev pub with_replay : {S : Type 0} → Made S → ℕ → Effect S → Made S
with_replay unit p effect =
    if effect.replayed
    then with_messages (then_made unit unit.net
    (Rec.Replayed (processor_named p) effect.processor.own.turns ∷ [])) effect.rebuilt
    else unit

-- what p does in a unit, where what came to it came from here
abbrev pub with_effect : {S : Type 0} → Made S → ℕ → ℕ → Effect S → Made S
with_effect unit from p effect =
    let came = with_lines_out (with_processor unit p effect.processor) from effect.carried in
    let sent = with_messages came effect.sends in
    with_note (with_lines_out (with_replay sent p effect) p effect.outs) effect.note

-- a step of p: its turn where it can make one
abbrev pub step_with : {S : Type 0} → Setup → Semantics S → Net S → ℕ → Processor S → Option OwnTurn → Made S
step_with setup threads net p s None = unchanged net
step_with setup threads net p s (Some turn) =
    with_effect record {
      net = net;
      records = Rec.Turn (processor_named p) (s.own.turns + 1) turn.label turn.lines ∷ [];
    } p p (effect_of_turn setup threads p s turn)

-- a step of a processor, which does nothing where it is down
abbrev pub step_of : {S : Type 0} → Setup → Semantics S → Net S → ℕ → Option (Processor S) → Made S
step_of setup threads net p None = unchanged net
step_of setup threads net p (Some s) = step_with setup threads net p s (own_turn setup threads p s)

-- a delivery: of the oldest message, where there is one
abbrev pub delivery_of : {S : Type 0} → Setup → Net S → ℕ → ℕ → List Letter → Option (Processor S) → Made S
delivery_of setup net from to [] receiver = unchanged net
delivery_of setup net from to (letter ∷ others) None = unchanged net
delivery_of setup net from to (letter ∷ others) (Some s) =
    with_effect record {
      net = record net { channels = update_at net.channels from to others };
      records = Rec.Delivered letter.number ∷ [];
    } from to (effect_of_message setup to s letter.msg)

-- a unit; one whose part isn't built yet does nothing, and no accepted schedule has one
abbrev pub unit_of : {S : Type 0} → Setup → Semantics S → Net S → Act → Outcome → Made S
unit_of setup threads net (Act.Step p) outcome = step_of setup threads net p.0 (net.processors p.0)
unit_of setup threads net (Act.Deliver p q) outcome =
    delivery_of setup net p.0 q.0 (net.channels p.0 q.0) (net.processors q.0)
unit_of setup threads net _ outcome = unchanged net
