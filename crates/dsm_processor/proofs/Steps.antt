-- A step, by what the code's parts make of it one after the other.
use Rattle.std.proofs.Common.{◌≡◌, ◌+◌, ℕ, false, List, [], Option, Some, None, refl, sym, ap, ◌∙◌}
use Rattle.std.specs.Prelude.{option_map}
use Rattle.dsm_base.specs.declared.label.Want.{Want}
use Rattle.dsm_base.specs.declared.label.Label.{Label}
use Rattle.dsm_base.specs.declared.lists.PendingLine.{PendingLine}
use Rattle.dsm_base.specs.declared.setup.Setup.{Setup}
use Rattle.dsm_base.specs.Output.{line_text}
use Rattle.dsm_base.specs.Threads.{Semantics}
use Rattle.dsm_lines.specs.declared.list.Line.{Line}
use Rattle.dsm_msg.specs.declared.message.Body.{Body}
use Rattle.dsm_msg.specs.declared.message.Msg.{Msg}
use Rattle.dsm_net.specs.Processor.{Processor}
use Rattle.dsm_net.specs.Inputs.{input_for}
use Rattle.dsm_net.specs.Turns.{OwnTurn, own_turn, own_after, mail_after}
use Rattle.dsm_net.specs.Effects.{body_of, processor_after, effect_of_telling, effect_of_turn, printed_by}
use Rattle.dsm_processor.specs.declared.node.Effects.{Effects}
use Rattle.dsm_processor.specs.declared.node.Stepped.{Stepped}
use Rattle.dsm_processor.specs.Node.{number_for, label_for, input_lines, effects_of, stepped_by, processor_stepped}
use Rattle.dsm_processor.proofs.Turns.{turn_of, turn_is}
use Rattle.dsm_processor.proofs.Plain.{plain_telling, effects_are}

-- a processor whose thread was asked, in a setup
module _ {S : Type 0} (setup : Setup) (threads : Semantics S) (me : ℕ) (s asked : Processor S) (want : Want)
    (same : asked ≡ s) (is_want : want ≡ threads.want s.own.thread) where
  label_is : (label : Option Label) → label_for setup threads me asked.own (number_for asked want) want ≡ label
      → label_for setup threads me s.own (number_for s (threads.want s.own.thread)) (threads.want s.own.thread) ≡ label
  label_is label is = sym (λ i. label_for setup threads me (same i).own (number_for (same i) (is_want i)) (is_want i)) ∙ is

  -- it makes no turn
  pub no_turn : label_for setup threads me asked.own (number_for asked want) want ≡ None → own_turn setup threads me s ≡ None
  no_turn none = turn_is setup threads me s ∙ ap (option_map (turn_of setup threads me s)) (label_is None none)

  -- it makes the turn of this label
  module _ (label : Label) (makes : label_for setup threads me asked.own (number_for asked want) want ≡ Some label) where
    abbrev pub turn : OwnTurn
    turn = turn_of setup threads me s label

    turn_made : own_turn setup threads me s ≡ Some turn
    turn_made = turn_is setup threads me s ∙ ap (option_map (turn_of setup threads me s)) (label_is (Some label) makes)

    module _ (lines : List Line) (collected made : Processor S) (body : Option Body)
        (are_lines : lines ≡ input_lines (input_for asked want))
        (is_collected : collected ≡ record asked { mail = mail_after asked.mail (asked.own.turns + 1) })
        (is_made : made ≡ record collected { own = own_after setup threads collected.own record { label = label; lines = lines } })
        (is_body : body ≡ body_of setup collected.own label) where
      same_lines : lines ≡ turn.lines
      same_lines = are_lines ∙ (λ i. input_lines (input_for (same i) (is_want i)))

      same_collected : collected ≡ record s { mail = mail_after s.mail (s.own.turns + 1) }
      same_collected = is_collected ∙ (λ i. record (same i) { mail = mail_after (same i).mail ((same i).own.turns + 1) })

      pub same_made : made ≡ processor_after setup threads s turn
      same_made = is_made ∙ (λ i. record (same_collected i) { own = own_after setup threads (same_collected i).own record { label = label; lines = same_lines i } })

      pub same_body : body ≡ body_of setup s.own label
      same_body = is_body ∙ (λ i. body_of setup (same_collected i).own label)

      told : effect_of_telling setup me made body ≡ effect_of_telling setup me (processor_after setup threads s turn) (body_of setup s.own label)
      told i = effect_of_telling setup me (same_made i) (same_body i)

      pub processor_is : (after : Processor S) → after ≡ (effect_of_telling setup me made body).processor
          → after ≡ processor_stepped setup threads me s (own_turn setup threads me s)
      processor_is after is = is ∙ ap (λ effect. effect.processor) told ∙ ap (processor_stepped setup threads me s) (sym turn_made)

      pub stepped_is : (number_of_turn : ℕ) (sends : List Msg) (outs : List PendingLine) (effects : Effects)
          → number_of_turn ≡ s.own.turns + 1 → sends ≡ (effect_of_telling setup me made body).sends
          → outs ≡ printed_by number_of_turn (line_text label)
          → effects ≡ record { carried = []; sends = sends; replayed = false; rebuilt = []; outs = outs; note = None }
          → ◌≡◌ {A = Option Stepped} (Some record { turn = number_of_turn; label = label; lines = lines; effects = effects }) (stepped_by setup threads me s (own_turn setup threads me s))
      stepped_is number_of_turn sends outs effects is_number are_sends are_outs are_effects =
          let effect = effect_of_telling setup me (processor_after setup threads s turn) (body_of setup s.own label) in
          let printed : outs ≡ printed_by (s.own.turns + 1) (line_text label) = are_outs ∙ ap (λ n. printed_by n (line_text label)) is_number in
          let all : effects ≡ effects_of (effect_of_turn setup threads me s turn) =
          are_effects
          ∙ (λ i. record { carried = []; sends = (are_sends ∙ ap (λ one. one.sends) told) i; replayed = false; rebuilt = []; outs = printed i; note = None })
          ∙ effects_are effect [] (printed_by (s.own.turns + 1) (line_text label)) effect.sends (plain_telling setup me (processor_after setup threads s turn) (body_of setup s.own label)) refl
          ∙ (λ i. effects_of (record effect { carried = sym (plain_telling setup me (processor_after setup threads s turn) (body_of setup s.own label)).carried i; outs = printed_by (s.own.turns + 1) (line_text label) })) in
          (λ i. Some record { turn = is_number i; label = label; lines = same_lines i; effects = all i }) ∙ ap (stepped_by setup threads me s) (sym turn_made)
