use Rattle.std.proofs.Common.{sym, subst}
use Rattle.std.specs.List.{All}
use Rattle.std.proofs.lemmas.Result.{IfOk-weaker}
use Rattle.dsm_net.specs.Effects.{effect_of_body}
use Rattle.dsm_processor.specs.Names.{IsSendOf}
use Rattle.dsm_processor.specs.Node.{processor_of, me_of, setup_of}
use Rattle.dsm_processor.proofs.Names.{body_keeps, stays_kept}
use Rattle.dsm_processor.proofs.Whole.{on_ok_both, whole_from}
use Rattle.dsm_processor.proofs.node.Node.handle.Goals as goal

pub returns-clause-whole : goal.returns-clause-whole
returns-clause-whole g c =
    let setup = setup_of c.args.self.now in
    let s = processor_of g.T.Task.kind c.args.self.now in
    let keeps = body_keeps setup (me_of c.args.self.now) s c.args.from.0 c.args.turn c.args.body c.requires.whole.waiting c.requires.from in
    on_ok_both c.dispatch.result
    (λ is shape. whole_from g.T.Task.kind c.args.self.now c.dispatch.new.self c.dispatch.ensures.same.setup (effect_of_body setup (me_of c.args.self.now) s c.args.from.0 c.args.turn c.args.body).processor is
    (stays_kept setup g.T.Task.kind.semantics (me_of c.args.self.now) s.own (effect_of_body setup (me_of c.args.self.now) s c.args.from.0 c.args.turn c.args.body) keeps c.requires.whole.stays)
    keeps.waiting shape)
    c.dispatch.ensures.processor c.dispatch.ensures.shape

pub returns-clause-within : goal.returns-clause-within
returns-clause-within g c =
    let setup = setup_of c.args.self.now in
    let s = processor_of g.T.Task.kind c.args.self.now in
    IfOk-weaker c.dispatch.result _ _
    (λ sends is. subst (All (IsSendOf setup (me_of c.args.self.now))) (sym is) (body_keeps setup (me_of c.args.self.now) s c.args.from.0 c.args.turn c.args.body c.requires.whole.waiting c.requires.from).sends)
    c.dispatch.ensures.sends
