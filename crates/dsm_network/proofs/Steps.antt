-- What a step and a delivery make.
use Rattle.std.proofs.Common.{◌≡◌, ℕ, ◌+◌, List, [], ◌∷◌, Option, Some, None, sym, ap, ◌∙◌}
use Rattle.dsm_base.specs.declared.setup.Setup.{Setup}
use Rattle.dsm_base.specs.Family.{update}
use Rattle.dsm_base.specs.Threads.{Semantics}
use Rattle.dsm_base.proofs.Families.{update_same, update_back}
use Rattle.dsm_net.specs.declared.trace.Letter.{Letter}
use Rattle.dsm_net.specs.declared.trace.Rec.{Rec}
use Rattle.dsm_net.specs.Processor.{Processor}
use Rattle.dsm_net.specs.Turns.{OwnTurn}
use Rattle.dsm_net.specs.Messages.{processor_named}
use Rattle.dsm_net.specs.Effects.{Effect, effect_of_message, effect_of_turn}
use Rattle.dsm_net.specs.Net.{Net}
use Rattle.dsm_net.specs.Units.{Made, step_with, delivery_of}
use Rattle.dsm_processor.specs.Node.{stepped_by, processor_stepped, effects_of}
use Rattle.dsm_processor.specs.declared.node.Effects.{Effects}
use Rattle.dsm_processor.specs.declared.node.Stepped.{Stepped}
use Rattle.dsm_network.specs.World.{with_node, with_letters}
use Rattle.dsm_network.specs.Effects.{with_effect_of}

-- the processor that was put into the net is the one that is there
pub put_there : {S : Type 0} (net now : Net S) (p : ℕ) (s there : Processor S) → now ≡ with_node net p s → now.processors p ≡ Some there → there ≡ s
put_there net now p s there put is =
    let e : Some there ≡ Some s = sym is ∙ ap (λ (n : Net _). n.processors p) put ∙ update_same net.processors p (Some s) in cc

-- a turn, and what it does
pub step_made : {S : Type 0} (setup : Setup) (threads : Semantics S) (net mid : Net S) (p : ℕ) (s there : Processor S) (turn : Option OwnTurn) (one : Stepped) → Some one ≡ stepped_by setup threads p s turn
    → mid ≡ with_node net p (processor_stepped setup threads p s turn) → there ≡ processor_stepped setup threads p s turn
    → with_effect_of (record { net = mid; records = Rec.Turn (processor_named p) one.turn one.label one.lines ∷ [] }) p p there.own.turns one.effects ≡ step_with setup threads net p s turn
step_made setup threads net mid p s there None one makes turns is = cc
step_made setup threads net mid p s there (Some turn) one makes turns is =
    let effect = effect_of_turn setup threads p s turn in
    let same : one ≡ record { turn = s.own.turns + 1; label = turn.label; lines = turn.lines; effects = effects_of effect } = cc in
    (λ i. with_effect_of (record { net = turns i; records = Rec.Turn (processor_named p) (same i).turn (same i).label (same i).lines ∷ [] }) p p (is i).own.turns (same i).effects)

-- who makes no turn stays as it is
pub step_none : {S : Type 0} (setup : Setup) (threads : Semantics S) (net mid : Net S) (p : ℕ) (s : Processor S) (turn : Option OwnTurn) → net.processors p ≡ Some s → None ≡ stepped_by setup threads p s turn
    → mid ≡ with_node net p (processor_stepped setup threads p s turn) → ◌≡◌ {A = Made S} (record { net = mid; records = [] }) (step_with setup threads net p s turn)
step_none setup threads net mid p s None is makes turns =
    let back : update net.processors p (Some s) ≡ net.processors = ap (update net.processors p) (sym is) ∙ update_back net.processors p in
    λ i. record { net = (turns ∙ (λ j. record net { processors = back j })) i; records = [] }
step_none setup threads net mid p s (Some turn) is makes turns = cc

-- the oldest message is handled, and what its receiver does about it is done
pub delivery_made : {S : Type 0} (setup : Setup) (net mid after : Net S) (from to : ℕ) (s was there : Processor S) (letter : Letter) (others : List Letter) (effects : Effects) → net.channels from to ≡ letter ∷ others
    → mid ≡ with_letters net from to others → was ≡ s → after ≡ with_node mid to (effect_of_message setup to was letter.msg).processor → there ≡ (effect_of_message setup to was letter.msg).processor
    → effects ≡ effects_of (effect_of_message setup to was letter.msg)
    → with_effect_of (record { net = after; records = Rec.Delivered letter.number ∷ [] }) from to there.own.turns effects ≡ delivery_of setup net from to (net.channels from to) (Some s)
delivery_made {S} setup net mid after from to s was there letter others effects list taken same done is sent =
    let effect : effect_of_message setup to was letter.msg ≡ effect_of_message setup to s letter.msg = ap (λ t. effect_of_message setup to t letter.msg) same in
    let now = done ∙ (λ i. with_node (taken i) to (effect i).processor) in
    let turns = is ∙ ap (λ (e : Effect S). e.processor) effect in
    let all = sent ∙ ap effects_of effect in
    (λ i. with_effect_of (record { net = now i; records = Rec.Delivered letter.number ∷ [] }) from to (turns i).own.turns (all i))
    ∙ ap (λ letters. delivery_of setup net from to letters (Some s)) (sym list)
