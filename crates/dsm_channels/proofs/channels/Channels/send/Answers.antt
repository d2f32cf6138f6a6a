use Rattle.dsm_channels.proofs.UnderWay.{letters_sent}
use Rattle.dsm_channels.proofs.channels.Channels.send.Goals as goal

pub returns-clause-letters : goal.returns-clause-letters
returns-clause-letters c =
    letters_sent c.self.inside.senders.items c.args.self.now c.index.result c.args.msg.now.from.0 c.args.msg.now.to.0 c.index_mut.result.now c.push.new.self
    c.in_ok-packet.packet (record { number = c.args.number; msg = c.args.msg.now }) c.push.result
    c.self.view_is c.index.ensures c.index_mut.ensures.value c.self.invariant c.requires.from c.requires.to c.in_ok-packet.ensures c.push.ensures.ok
