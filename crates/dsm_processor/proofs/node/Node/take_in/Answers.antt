use Rattle.std.proofs.Common.{◌∙◌, arith}
use Rattle.dsm_barrier.specs.Managers.{last_of}
use Rattle.dsm_net.specs.Messages.{peer_after}
use Rattle.dsm_processor.specs.Peers.{peers_of}
use Rattle.dsm_processor.proofs.Opened.{last_kept}
use Rattle.dsm_processor.proofs.node.Node.take_in.Goals as goal

pub returns-clause-whole : goal.returns-clause-whole
returns-clause-whole g c =
    let old = c.args.self.now in
    let shape = c.requires.whole.shape in
    record {
      shape = record {
        is_processor = shape.is_processor;
        table = shape.table;
        copy = shape.copy;
        rights = shape.rights;
        versions = shape.versions;
        locks = shape.locks;
        lines = shape.lines;
        peers = c.take_in.ensures.count ∙ shape.peers;
        manager = shape.manager;
        procs = shape.procs;
        bars = shape.bars;
        arrivals = last_kept (last_of old.manager) (peers_of old.peers) (peers_of c.take_in.new.self) c.args.from.0 (peer_after (peers_of old.peers c.args.from.0) c.args.carry.now) c.take_in.ensures.peers (omega arith) shape.arrivals;
      };
      stays = c.requires.whole.stays;
      waiting = c.requires.whole.waiting;
    }
