use Rattle.std.proofs.Common.{sym, ◌∙◌}
use Rattle.dsm_msg.specs.declared.message.Body.{Body}
use Rattle.dsm_processor.specs.Node.{processor_of, setup_of, me_of}
use Rattle.dsm_processor.proofs.Plain.{left_alone}
use Rattle.dsm_processor.proofs.node.Node.arrival_comes.Goals as goal

pub returns-else-may_arrive-clause-processor : goal.returns-else-may_arrive-clause-processor
returns-else-may_arrive-clause-processor g c =
    let old = c.args.self.now in
    left_alone (setup_of old) (me_of old) (processor_of g.T.Task.kind old) c.args.from.0 c.args.turn (Body.Arrive c.args.bar c.args.epoch c.args.lines.now)
    (sym c.may_arrive.ensures ∙ c.if-may_arrive.false)
