use Rattle.std.proofs.Common.{sym, ◌∙◌}
use Rattle.dsm_msg.specs.declared.message.Body.{Body}
use Rattle.dsm_processor.specs.Node.{processor_of, setup_of, me_of}
use Rattle.dsm_processor.proofs.Plain.{left_alone}
use Rattle.dsm_processor.proofs.node.Node.request_comes.Goals as goal

pub returns-else-may_ask-clause-processor : goal.returns-else-may_ask-clause-processor
returns-else-may_ask-clause-processor g c =
    let old = c.args.self.now in
    left_alone (setup_of old) (me_of old) (processor_of g.T.Task.kind old) c.args.from.0 c.args.turn (Body.Req c.args.lock c.args.mode c.args.«have»)
    (sym c.may_ask.ensures ∙ c.if-may_ask.false)
