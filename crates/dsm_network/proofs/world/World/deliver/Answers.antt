use Rattle.std.proofs.Common.{Some, ◌≡◌, ◌∙◌, ◌++◌, ◌∷◌, [], ap, refl}
use Rattle.dsm_net.specs.declared.trace.Rec.{Rec}
use Rattle.dsm_net.specs.Units.{delivery_of}
use Rattle.dsm_network.specs.World.{setup_of, processor_at, net_of, made_of}
use Rattle.dsm_network.specs.Effects.{with_effect_of}
use Rattle.dsm_network.proofs.Sending.{same_processors}
use Rattle.dsm_network.proofs.Steps.{put_there, delivery_made}
use Rattle.dsm_network.proofs.UnderWay.{is_oldest}
use Rattle.dsm_network.proofs.world.World.deliver.Goals as goal

pub returns-clause-made : goal.returns-clause-made
returns-clause-made g c =
    let kind = g.M.Made.Task.kind in
    let first = g.M.TaskMaker.first in
    let old = c.args.self.now in
    let from = c.args.from.0 in
    let to = c.args.to.0 in
    let letter = c.in-Some.field-0 in
    let net = net_of kind first old in
    let mid = c.take_oldest.new.self in
    let after = c.receive.new.self in
    let records : c.push.new.self ≡ Rec.Delivered letter.number ∷ [] =
    c.in_ok-push.ensures.ok ∙ ap (λ before. before ++ Rec.Delivered letter.number ∷ []) c.new-records.ensures in
    c.in_ok-carry_out.ensures.made
    ∙ ap (λ records. with_effect_of (made_of kind first after records) from to (processor_at kind first after to).own.turns c.in_ok-effects.effects) records
    ∙ delivery_made (setup_of mid) net (net_of kind first mid) (net_of kind first after) from to (processor_at kind first old to) (processor_at kind first mid to) (processor_at kind first after to) letter
    ((net_of kind first mid).channels from to) c.in_ok-effects.effects
    (is_oldest _ letter (net.channels from to) ((net_of kind first mid).channels from to) c.in-Some.is c.in_ok-number.ensures.letter) c.in_ok-number.ensures.net (ap (λ f. f to) (same_processors kind first old mid c.in_ok-number.ensures.same))
    c.in_ok-effects.ensures.net
    (put_there (net_of kind first mid) (net_of kind first after) to _ (processor_at kind first after to) c.in_ok-effects.ensures.net refl)
    c.in_ok-effects.ensures.effects
    ∙ ap (λ setup. delivery_of setup net from to (net.channels from to) (Some (processor_at kind first old to))) c.in_ok-number.ensures.same.world.setup
