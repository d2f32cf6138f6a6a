-- What the parts of a unit leave of the processors, and that all its records but the first tell of no turn.
use Rattle.std.specs.Prelude.{◌≡◌, ℕ, ◌+◌, Bool, true, false, ◌==◌, if◌then◌else◌, nat_lt, List, [], ◌∷◌, ◌++◌, Option, Some, None}
use Rattle.std.proofs.Common.{refl, ◌∙◌}
use Rattle.dsm_base.specs.declared.lists.PendingLine.{PendingLine}
use Rattle.dsm_msg.specs.declared.message.Msg.{Msg}
use Rattle.dsm_net.specs.declared.trace.Rec.{Rec}
use Rattle.dsm_net.specs.declared.trace.Group.{Group}
use Rattle.dsm_net.specs.Processor.{Processor}
use Rattle.dsm_net.specs.Turns.{OwnTurn}
use Rattle.dsm_net.specs.Messages.{processor_named}
use Rattle.dsm_net.specs.Effects.{Effect}
use Rattle.dsm_net.specs.Units.{Made, then_made, with_message_to, with_message, with_messages, with_line_out, with_lines_out, with_processor, with_note, with_replay, with_effect}
use Rattle.dsm_net.specs.Story.{own_turns_onto}
use Rattle.dsm_net.specs.Fits.{with_unit}
use Rattle.dsm_laws_protocol.specs.Steps.{Step, steps_onto, steps_of}

-- records one after the other
pub turns_append : (p : ℕ) (before : List OwnTurn) (xs ys : List Rec) → own_turns_onto p before (xs ++ ys) ≡ own_turns_onto p (own_turns_onto p before xs) ys
turns_append p before [] ys = refl
turns_append p before (Rec.Turn q turn label lines ∷ xs) ys = turns_append p (if q.0 == p then record { label = label; lines = lines } ∷ before else before) xs ys
turns_append p before (one ∷ xs) ys = turns_append p before xs ys

pub steps_append : (before : List Step) (xs ys : List Rec) → steps_onto before (xs ++ ys) ≡ steps_onto (steps_onto before xs) ys
steps_append before [] ys = refl
steps_append before (Rec.Turn q turn label lines ∷ xs) ys = steps_append (record { proc = q.0; turn = record { label = label; lines = lines } } ∷ before) xs ys
steps_append before (one ∷ xs) ys = steps_append before xs ys

pub steps_of_unit : (unit : ℕ) (records : List Rec) (before : List Group) → steps_of (with_unit unit records before) ≡ steps_onto (steps_of before) records
steps_of_unit unit [] before = refl
steps_of_unit unit (one ∷ records) before = refl

-- nothing of turns or processors has changed
pub record IsKept {S : Type 0} (made now : Made S) : Type 0 where
  pub processors : now.net.processors ≡ made.net.processors
  pub turns : (p : ℕ) (before : List OwnTurn) → own_turns_onto p before now.records ≡ own_turns_onto p before made.records
  pub steps : (before : List Step) → steps_onto before now.records ≡ steps_onto before made.records

kept_same : {S : Type 0} (made : Made S) → IsKept made made
kept_same made = record { processors = refl; turns = λ p before. refl; steps = λ before. refl }

kept_both : {S : Type 0} (a b c : Made S) → IsKept a b → IsKept b c → IsKept a c
kept_both a b c h g = record {
  processors = g.processors ∙ h.processors;
  turns = λ p before. g.turns p before ∙ h.turns p before;
  steps = λ before. g.steps before ∙ h.steps before;
}

pub message_to_kept : {S : Type 0} (made : Made S) (msg : Msg) (receiver : Option (Processor S)) → IsKept made (with_message_to made msg receiver)
message_to_kept made msg None = record {
  processors = refl;
  turns = λ p before. turns_append p before made.records (Rec.Sent (made.net.sent + 1) msg ∷ Rec.Dropped (made.net.sent + 1) ∷ []);
  steps = λ before. steps_append before made.records (Rec.Sent (made.net.sent + 1) msg ∷ Rec.Dropped (made.net.sent + 1) ∷ []);
}
message_to_kept made msg (Some receiver) = record {
  processors = refl;
  turns = λ p before. turns_append p before made.records (Rec.Sent (made.net.sent + 1) msg ∷ []);
  steps = λ before. steps_append before made.records (Rec.Sent (made.net.sent + 1) msg ∷ []);
}

pub message_kept : {S : Type 0} (made : Made S) (msg : Msg) → IsKept made (with_message made msg)
message_kept made msg = message_to_kept made msg (made.net.processors msg.to.0)

pub messages_kept : {S : Type 0} (msgs : List Msg) (made : Made S) → IsKept made (with_messages made msgs)
messages_kept [] made = kept_same made
messages_kept (msg ∷ msgs) made =
    kept_both made (with_message made msg) (with_messages made (msg ∷ msgs)) (message_kept made msg) (messages_kept msgs (with_message made msg))

line_out_kept : {S : Type 0} (p : ℕ) (line : PendingLine) (made : Made S) → IsKept made (with_line_out made p line)
line_out_kept p line made = go (nat_lt (made.net.out p) line.turn) refl
  where
    go : (b : Bool) → nat_lt (made.net.out p) line.turn ≡ b → IsKept made (with_line_out made p line)
    go true e = rw e record {
      processors = refl;
      turns = λ q before. turns_append q before made.records (Rec.Out (processor_named p) line.turn line.text ∷ []);
      steps = λ before. steps_append before made.records (Rec.Out (processor_named p) line.turn line.text ∷ []);
    }
    go false e = rw e (kept_same made)

pub lines_out_kept : {S : Type 0} (p : ℕ) (lines : List PendingLine) (made : Made S) → IsKept made (with_lines_out made p lines)
lines_out_kept p [] made = kept_same made
lines_out_kept p (line ∷ lines) made =
    kept_both made (with_line_out made p line) (with_lines_out made p (line ∷ lines)) (line_out_kept p line made) (lines_out_kept p lines (with_line_out made p line))

note_kept : {S : Type 0} (made : Made S) (note : Option Msg) → IsKept made (with_note made note)
note_kept made None = kept_same made
note_kept made (Some msg) = message_kept made msg

replay_kept : {S : Type 0} (made : Made S) (p : ℕ) (effect : Effect S) → IsKept made (with_replay made p effect)
replay_kept {S} made p effect = go effect.replayed refl
  where
    told : Made S
    told = then_made made made.net (Rec.Replayed (processor_named p) effect.processor.own.turns ∷ [])

    go : (b : Bool) → effect.replayed ≡ b → IsKept made (with_replay made p effect)
    go true e = rw e (kept_both made told (with_messages told effect.rebuilt) record {
      processors = refl;
      turns = λ q before. turns_append q before made.records (Rec.Replayed (processor_named p) effect.processor.own.turns ∷ []);
      steps = λ before. steps_append before made.records (Rec.Replayed (processor_named p) effect.processor.own.turns ∷ []);
    } (messages_kept effect.rebuilt told))
    go false e = rw e (kept_same made)

-- in a unit the processor that takes part is changed at once, and nothing after it changes processors
pub effect_kept : {S : Type 0} (made : Made S) (from p : ℕ) (effect : Effect S) → IsKept (with_processor made p effect.processor) (with_effect made from p effect)
effect_kept made from p effect =
    let first = with_processor made p effect.processor in
    let came = with_lines_out first from effect.carried in
    let sent = with_messages came effect.sends in
    let replayed = with_replay sent p effect in
    let printed = with_lines_out replayed p effect.outs in
    kept_both first came (with_effect made from p effect) (lines_out_kept from effect.carried first)
    (kept_both came sent (with_effect made from p effect) (messages_kept effect.sends came)
    (kept_both sent replayed (with_effect made from p effect) (replay_kept sent p effect)
    (kept_both replayed printed (with_effect made from p effect) (lines_out_kept p effect.outs replayed) (note_kept printed effect.note))))
