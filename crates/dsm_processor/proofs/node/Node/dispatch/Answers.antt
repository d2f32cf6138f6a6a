use Rattle.std.proofs.Common.{◌≡◌, sym, subst}
use Rattle.std.specs.Prelude.{OnOk}
use Rattle.dsm_net.specs.Effects.{effect_of_body}
use Rattle.dsm_processor.specs.Node.{processor_of, setup_of, me_of}
use Rattle.dsm_processor.proofs.node.Node.dispatch.Goals as goal

pub returns-in-Req-clause-processor : goal.returns-in-Req-clause-processor
returns-in-Req-clause-processor g c =
    let old = c.args.self.now in
    subst (λ body. OnOk c.request_comes.result (processor_of g.T.Task.kind c.request_comes.new.self ≡ (effect_of_body (setup_of old) (me_of old) (processor_of g.T.Task.kind old) c.args.from.0 c.args.turn body).processor))
    (sym c.in-Req.is) c.request_comes.ensures.processor

pub returns-in-Release-clause-processor : goal.returns-in-Release-clause-processor
returns-in-Release-clause-processor g c =
    let old = c.args.self.now in
    subst (λ body. OnOk c.release_comes.result (processor_of g.T.Task.kind c.release_comes.new.self ≡ (effect_of_body (setup_of old) (me_of old) (processor_of g.T.Task.kind old) c.args.from.0 c.args.turn body).processor))
    (sym c.in-Release.is) c.release_comes.ensures.processor

pub returns-in-Arrive-clause-processor : goal.returns-in-Arrive-clause-processor
returns-in-Arrive-clause-processor g c =
    let old = c.args.self.now in
    subst (λ body. OnOk c.arrival_comes.result (processor_of g.T.Task.kind c.arrival_comes.new.self ≡ (effect_of_body (setup_of old) (me_of old) (processor_of g.T.Task.kind old) c.args.from.0 c.args.turn body).processor))
    (sym c.in-Arrive.is) c.arrival_comes.ensures.processor
