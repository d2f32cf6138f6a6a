-- What a unit makes is the same, whatever the states of the threads are.
use Rattle.std.specs.Prelude.{◌≡◌, ℕ, ◌+◌, if◌then◌else◌, nat_lt, List, [], ◌∷◌, ◌++◌, Option, Some, None}
use Rattle.std.proofs.Common.{refl, sym, ap, ◌∙◌}
use Rattle.dsm_base.specs.declared.act.Act.{Act}
use Rattle.dsm_base.specs.declared.label.Label.{Label}
use Rattle.dsm_base.specs.declared.lists.PendingLine.{PendingLine}
use Rattle.dsm_base.specs.declared.setup.Setup.{Setup}
use Rattle.dsm_base.specs.Family.{update, update_at}
use Rattle.dsm_base.specs.Threads.{Semantics}
use Rattle.dsm_msg.specs.declared.message.Msg.{Msg}
use Rattle.dsm_net.specs.declared.trace.Letter.{Letter}
use Rattle.dsm_net.specs.declared.trace.Rec.{Rec}
use Rattle.dsm_net.specs.Processor.{Processor}
use Rattle.dsm_net.specs.Turns.{OwnTurn, own_turn}
use Rattle.dsm_net.specs.Messages.{processor_named}
use Rattle.dsm_net.specs.Effects.{Effect, effect_of_message, effect_of_turn}
use Rattle.dsm_net.specs.Net.{Net}
use Rattle.dsm_net.specs.Units.{Outcome, Made, then_made, with_message_to, with_message, with_messages, with_line_out, with_lines_out, with_processor, with_note, with_replay, with_effect, step_with, step_of, delivery_of, unit_of}
use Rattle.dsm_laws_same.specs.Images.{processor_by, up_by, net_by, effect_by, made_by}
use Rattle.dsm_laws_same.proofs.Plain.{updated}
use Rattle.dsm_laws_same.proofs.Effects.{either_by, message_same, turn_effect, own_turn_same}

module _ {P S : Type 0} (g : P → S) where
  sent_to : (unit : Made P) (msg : Msg) (receiver : Option (Processor P)) → with_message_to (made_by g unit) msg (up_by g receiver) ≡ made_by g (with_message_to unit msg receiver)
  sent_to unit msg None = refl
  sent_to unit msg (Some receiver) = refl

  all_sent : (msgs : List Msg) (unit : Made P) → with_messages (made_by g unit) msgs ≡ made_by g (with_messages unit msgs)
  all_sent [] unit = refl
  all_sent (msg ∷ msgs) unit = ap (λ one. with_messages one msgs) (sent_to unit msg (unit.net.processors msg.to.0)) ∙ all_sent msgs (with_message unit msg)

  line_out : (p : ℕ) (line : PendingLine) (unit : Made P) → with_line_out (made_by g unit) p line ≡ made_by g (with_line_out unit p line)
  line_out p line unit = either_by (made_by g) (nat_lt (unit.net.out p) line.turn)
      (then_made unit (record unit.net { out = update unit.net.out p line.turn }) (Rec.Out (processor_named p) line.turn line.text ∷ [])) unit

  lines_out : (p : ℕ) (lines : List PendingLine) (unit : Made P) → with_lines_out (made_by g unit) p lines ≡ made_by g (with_lines_out unit p lines)
  lines_out p [] unit = refl
  lines_out p (line ∷ lines) unit = ap (λ one. with_lines_out one p lines) (line_out p line unit) ∙ lines_out p lines (with_line_out unit p line)

  replaced : (unit : Made P) (p : ℕ) (s : Processor P) → with_processor (made_by g unit) p (processor_by g s) ≡ made_by g (with_processor unit p s)
  replaced unit p s = λ i. record {
    net = record (net_by g unit.net) { processors = λ q. sym (updated (up_by g) unit.net.processors p (Some s) (Some (processor_by g s)) refl q) i };
    records = unit.records ++ [];
  }

  noted : (unit : Made P) (note : Option Msg) → with_note (made_by g unit) note ≡ made_by g (with_note unit note)
  noted unit None = refl
  noted unit (Some msg) = sent_to unit msg (unit.net.processors msg.to.0)

  replayed : (unit : Made P) (p : ℕ) (effect : Effect P) → with_replay (made_by g unit) p (effect_by g effect) ≡ made_by g (with_replay unit p effect)
  replayed unit p effect =
      let told : Made P = then_made unit unit.net (Rec.Replayed (processor_named p) effect.processor.own.turns ∷ []) in
      (λ i. if effect.replayed then all_sent effect.rebuilt told i else made_by g unit) ∙ either_by (made_by g) effect.replayed (with_messages told effect.rebuilt) unit

  done_same : (unit : Made P) (from p : ℕ) (effect : Effect P) → with_effect (made_by g unit) from p (effect_by g effect) ≡ made_by g (with_effect unit from p effect)
  done_same unit from p effect =
      let first = with_processor unit p effect.processor in
      let came = with_lines_out first from effect.carried in
      let sent = with_messages came effect.sends in
      let told = with_replay sent p effect in
      let out = with_lines_out told p effect.outs in
      ap (λ one. with_note (with_lines_out (with_replay (with_messages (with_lines_out one from effect.carried) effect.sends) p (effect_by g effect)) p effect.outs) effect.note) (replaced unit p effect.processor)
      ∙ (ap (λ one. with_note (with_lines_out (with_replay (with_messages one effect.sends) p (effect_by g effect)) p effect.outs) effect.note) (lines_out from effect.carried first)
      ∙ (ap (λ one. with_note (with_lines_out (with_replay one p (effect_by g effect)) p effect.outs) effect.note) (all_sent effect.sends came)
      ∙ (ap (λ one. with_note (with_lines_out one p effect.outs) effect.note) (replayed sent p effect)
      ∙ (ap (λ one. with_note one effect.note) (lines_out p effect.outs told)
      ∙ noted out effect.note))))

  module _ (setup : Setup) (pairs : Semantics P) (threads : Semantics S) (after : (x : P) (label : Label) → g (pairs.after x label) ≡ threads.after (g x) label) where
    -- where threads want the same with the other states, and lines that they want have the same text
    pub record WantTheSame (net : Net P) : Type 0 where
      pub wants : (p : ℕ) (s : Processor P) → net.processors p ≡ Some s → threads.want (g s.own.thread) ≡ pairs.want s.own.thread
      pub texts : (p : ℕ) (s : Processor P) → net.processors p ≡ Some s → threads.text (g s.own.thread) ≡ pairs.text s.own.thread

    turn_made : (net : Net P) (p : ℕ) (s : Processor P) (turn : Option OwnTurn) → step_with setup threads (net_by g net) p (processor_by g s) turn ≡ made_by g (step_with setup pairs net p s turn)
    turn_made net p s None = refl
    turn_made net p s (Some turn) =
        let made : Made P = record { net = net; records = Rec.Turn (processor_named p) (s.own.turns + 1) turn.label turn.lines ∷ [] } in
        ap (with_effect (made_by g made) p p) (turn_effect g setup pairs threads after p s turn) ∙ done_same made p p (effect_of_turn setup pairs p s turn)

    step_made : (net : Net P) (p : ℕ) (stepper : Option (Processor P)) → net.processors p ≡ stepper → WantTheSame net
        → step_of setup threads (net_by g net) p (up_by g stepper) ≡ made_by g (step_of setup pairs net p stepper)
    step_made net p None is want = refl
    step_made net p (Some s) is want =
        ap (step_with setup threads (net_by g net) p (processor_by g s)) (own_turn_same g setup pairs threads after p s (want.wants p s is) (want.texts p s is))
        ∙ turn_made net p s (own_turn setup pairs p s)

    delivered : (net : Net P) (from to : ℕ) (letters : List Letter) (receiver : Option (Processor P))
        → delivery_of setup (net_by g net) from to letters (up_by g receiver) ≡ made_by g (delivery_of setup net from to letters receiver)
    delivered net from to [] receiver = refl
    delivered net from to (letter ∷ others) None = refl
    delivered net from to (letter ∷ others) (Some s) =
        let made : Made P = record { net = record net { channels = update_at net.channels from to others }; records = Rec.Delivered letter.number ∷ [] } in
        ap (with_effect (made_by g made) from to) (message_same g setup to s letter.msg) ∙ done_same made from to (effect_of_message setup to s letter.msg)

    pub unit_same : (net : Net P) (act : Act) (outcome : Outcome) → WantTheSame net → unit_of setup threads (net_by g net) act outcome ≡ made_by g (unit_of setup pairs net act outcome)
    unit_same net (Act.Step p) outcome want = step_made net p.0 (net.processors p.0) refl want
    unit_same net (Act.Deliver p q) outcome want = delivered net p.0 q.0 (net.channels p.0 q.0) (net.processors q.0)
    unit_same net _ outcome want = refl
