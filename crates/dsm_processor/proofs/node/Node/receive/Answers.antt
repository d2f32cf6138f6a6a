use Rattle.std.proofs.Common.{sym, subst, ◌∙◌}
use Rattle.std.specs.List.{All}
use Rattle.dsm_net.specs.Messages.{with_carry}
use Rattle.dsm_net.specs.Effects.{effect_of_body}
use Rattle.dsm_processor.specs.Node.{processor_of, setup_of, me_of}
use Rattle.dsm_processor.specs.Names.{IsSendOf}
use Rattle.dsm_processor.specs.declared.node.Effects.{Effects}
use Rattle.dsm_processor.proofs.Names.{sends_of_same}
use Rattle.dsm_processor.proofs.Plain.{plain_body, received_are}
use Rattle.dsm_processor.proofs.node.Node.receive.Goals as goal

pub returns-clause-effects : goal.returns-clause-effects
returns-clause-effects g c =
    let old = c.args.self.now in
    let msg = c.args.msg in
    let s = with_carry (processor_of g.T.Task.kind old) msg.from.0 msg.carry in
    c.unit_effects.ensures
    ∙ received_are (effect_of_body (setup_of old) (me_of old) s msg.from.0 msg.carry.turn msg.body) msg.carry.lines _ c.in_ok-sends.sends
    (plain_body (setup_of old) (me_of old) s msg.from.0 msg.carry.turn msg.body) c.new.ensures
    (c.in_ok-sends.ensures.sends ∙ (λ i. (effect_of_body (c.take_in.ensures.same.setup i) (c.take_in.ensures.same.me i) (c.take_in.ensures.processor i) msg.from.0 msg.carry.turn msg.body).sends))

pub returns-clause-within : goal.returns-clause-within
returns-clause-within g c =
    let old = c.args.self.now in
    let taken = c.take_in.new.self in
    subst (λ (one : Effects). All (IsSendOf (setup_of old) (me_of old)) one.sends) (sym c.unit_effects.ensures)
    (sends_of_same (setup_of old) (setup_of taken) (me_of old) (me_of taken) c.take_in.ensures.same.setup c.take_in.ensures.same.me c.in_ok-sends.sends c.in_ok-sends.ensures.within)

pub returns-clause-processor : goal.returns-clause-processor
returns-clause-processor g c =
    let msg = c.args.msg in
    c.in_ok-sends.ensures.processor
    ∙ (λ i. (effect_of_body (c.take_in.ensures.same.setup i) (c.take_in.ensures.same.me i) (c.take_in.ensures.processor i) msg.from.0 msg.carry.turn msg.body).processor)
