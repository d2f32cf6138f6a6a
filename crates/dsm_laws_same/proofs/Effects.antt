-- What a processor does in a unit is the same, whatever the state of its thread is.
use Rattle.std.specs.Prelude.{◌≡◌, ℕ, ◌+◌, Bool, true, false, ◌==◌, if◌then◌else◌, [], ◌∷◌, Option, Some, None, option_map}
use Rattle.std.proofs.Common.{refl, sym, ap, ◌∙◌}
use Rattle.dsm_base.specs.declared.label.Label.{Label}
use Rattle.dsm_base.specs.declared.label.Want.{Want}
use Rattle.dsm_base.specs.declared.names.Lock.{Lock}
use Rattle.dsm_base.specs.declared.names.Mode.{Mode}
use Rattle.dsm_base.specs.declared.setup.Setup.{Setup}
use Rattle.dsm_base.specs.Output.{line_text}
use Rattle.dsm_base.specs.Threads.{Semantics}
use Rattle.dsm_msg.specs.declared.message.Body.{Body}
use Rattle.dsm_msg.specs.declared.message.Msg.{Msg}
use Rattle.dsm_net.specs.Processor.{Own, Processor}
use Rattle.dsm_net.specs.Inputs.{Input, input_for}
use Rattle.dsm_net.specs.Messages.{keeper_of, message, with_carry}
use Rattle.dsm_net.specs.Turns.{OwnTurn, own_view, turn_with, own_turn}
use Rattle.dsm_base.specs.Plain.{label_of}
use Rattle.dsm_net.specs.Effects.{Effect, only, counts, effect_of, effect_of_body, effect_of_message, release_of, body_of, effect_of_telling_to, effect_of_telling, printed_by, processor_after, effect_of_turn}
use Rattle.dsm_laws_same.specs.Images.{own_by, processor_by, effect_by}

-- one of two, whatever is made of them
pub either_by : {A B : Type 0} (f : A → B) (test : Bool) (one other : A) → (if test then f one else f other) ≡ f (if test then one else other)
either_by f true one other = refl
either_by f false one other = refl

module _ {P S : Type 0} (g : P → S) (setup : Setup) where
  -- Messages.

  counts_same : (s : Processor P) (from turn : ℕ) (body : Body) → counts (processor_by g s) from turn body ≡ counts s from turn body
  counts_same s from turn (Body.Req lock mode «have») = refl
  counts_same s from turn (Body.Release lock mode version lines) = refl
  counts_same s from turn (Body.Arrive bar epoch lines) = refl
  counts_same s from turn _ = refl

  effect_same : (me : ℕ) (s : Processor P) (from turn : ℕ) (body : Body) → effect_of setup me (processor_by g s) from turn body ≡ effect_by g (effect_of setup me s from turn body)
  effect_same me s from turn (Body.Req lock mode «have») = refl
  effect_same me s from turn (Body.Release lock mode version lines) = refl
  effect_same me s from turn (Body.Grant lock mode take version lines) = refl
  effect_same me s from turn (Body.Arrive bar epoch lines) = refl
  effect_same me s from turn (Body.Opened bar epoch lines) = refl
  effect_same me s from turn _ = refl

  body_same : (me : ℕ) (s : Processor P) (from turn : ℕ) (body : Body) → effect_of_body setup me (processor_by g s) from turn body ≡ effect_by g (effect_of_body setup me s from turn body)
  body_same me s from turn body =
      (λ i. if counts_same s from turn body i then effect_same me s from turn body i else only (processor_by g s) [])
      ∙ either_by (effect_by g) (counts s from turn body) (effect_of setup me s from turn body) (only s [])

  pub message_same : (me : ℕ) (s : Processor P) (msg : Msg) → effect_of_message setup me (processor_by g s) msg ≡ effect_by g (effect_of_message setup me s msg)
  message_same me s msg = ap {A = Effect S} (λ effect. record effect { carried = msg.carry.lines }) (body_same me (with_carry s msg.from.0 msg.carry) msg.from.0 msg.carry.turn msg.body)

  -- Turns.

  release_same : (own : Own P) (lock : Lock) (held : Option Mode) → release_of setup (own_by g own) lock held ≡ release_of setup own lock held
  release_same own lock None = refl
  release_same own lock (Some Mode.Shared) = refl
  release_same own lock (Some Mode.Excl) = refl

  told_same : (own : Own P) (label : Label) → body_of setup (own_by g own) label ≡ body_of setup own label
  told_same own (Label.Ask lock mode) = refl
  told_same own (Label.Give lock) = release_same own lock (own.held lock.0)
  told_same own (Label.Arrive bar) = refl
  told_same own _ = refl

  telling_to_same : (p : ℕ) (s : Processor P) (body : Body) (keeper : Option ℕ) → effect_of_telling_to setup p (processor_by g s) body keeper ≡ effect_by g (effect_of_telling_to setup p s body keeper)
  telling_to_same p s body None = refl
  telling_to_same p s body (Some keeper) =
      (λ i. if keeper == p then body_same p s p s.own.turns body i else only (processor_by g s) (message p s keeper body ∷ []))
      ∙ either_by (effect_by g) (keeper == p) (effect_of_body setup p s p s.own.turns body) (only s (message p s keeper body ∷ []))

  telling_same : (p : ℕ) (s : Processor P) (body : Option Body) → effect_of_telling setup p (processor_by g s) body ≡ effect_by g (effect_of_telling setup p s body)
  telling_same p s None = refl
  telling_same p s (Some body) = telling_to_same p s body (keeper_of setup body)

  input_same : (s : Processor P) (want : Want) → input_for (processor_by g s) want ≡ input_for s want
  input_same s (Want.Take lock mode) = refl
  input_same s (Want.Cross bar) = refl
  input_same s _ = refl

  module _ (pairs : Semantics P) (threads : Semantics S) (after : (x : P) (label : Label) → g (pairs.after x label) ≡ threads.after (g x) label) where
    after_turn : (s : Processor P) (turn : OwnTurn) → processor_after setup threads (processor_by g s) turn ≡ processor_by g (processor_after setup pairs s turn)
    after_turn s turn = λ i. record (processor_by g (processor_after setup pairs s turn)) {
      own = record (own_by g (processor_after setup pairs s turn).own) { thread = sym (after s.own.thread turn.label) i };
    }

    pub turn_effect : (p : ℕ) (s : Processor P) (turn : OwnTurn) → effect_of_turn setup threads p (processor_by g s) turn ≡ effect_by g (effect_of_turn setup pairs p s turn)
    turn_effect p s turn = ap {A = Effect S} (λ effect. record effect { outs = printed_by (s.own.turns + 1) (line_text turn.label) })
        ((λ i. effect_of_telling setup p (after_turn s turn i) (told_same s.own turn.label i)) ∙ telling_same p (processor_after setup pairs s turn) (body_of setup s.own turn.label))

    -- where both want the same, their turn is the same
    turn_of_input : (p : ℕ) (s : Processor P) (input : Option Input) → threads.want (g s.own.thread) ≡ pairs.want s.own.thread → threads.text (g s.own.thread) ≡ pairs.text s.own.thread
        → turn_with setup threads p (own_by g s.own) input ≡ turn_with setup pairs p s.own input
    turn_of_input p s None want text = refl
    turn_of_input p s (Some input) want text =
        λ i. option_map (λ label. record { label = label; lines = input.lines }) (label_of setup.bindings p (own_view s.own input.number) (text i) (want i))

    pub own_turn_same : (p : ℕ) (s : Processor P) → threads.want (g s.own.thread) ≡ pairs.want s.own.thread → threads.text (g s.own.thread) ≡ pairs.text s.own.thread
        → own_turn setup threads p (processor_by g s) ≡ own_turn setup pairs p s
    own_turn_same p s want text =
        (λ i. turn_with setup threads p (own_by g s.own) (input_for (processor_by g s) (want i)))
        ∙ (ap (turn_with setup threads p (own_by g s.own)) (input_same s (pairs.want s.own.thread)) ∙ turn_of_input p s (input_for s (pairs.want s.own.thread)) want text)
