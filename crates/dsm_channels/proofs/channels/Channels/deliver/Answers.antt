use Rattle.dsm_channels.proofs.UnderWay.{others_left}
use Rattle.dsm_channels.proofs.channels.Channels.deliver.Goals as goal

pub returns-clause-others : goal.returns-clause-others
returns-clause-others c =
    others_left c.self.inside.senders.items c.args.self.now c.index.result c.args.from.0 c.args.to.0 c.index_mut.result.now c.take.new.self c.take.result
    c.self.view_is c.index.ensures c.index_mut.ensures.value c.self.invariant c.requires.from c.requires.to c.take.ensures.ok c.take.ensures.err
