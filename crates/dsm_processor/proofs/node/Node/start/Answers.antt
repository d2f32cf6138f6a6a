use Rattle.std.proofs.Common.{ℕ, ◌≤◌, sym, subst, arith, [], None, rules, false}
use Rattle.dsm_home.specs.Homes.{home_state}
use Rattle.dsm_net.specs.Processor.{live}
use Rattle.dsm_processor.specs.Peers.{peers_of}
use Rattle.dsm_processor.proofs.Start.{nobody_waits}
use Rattle.dsm_processor.proofs.node.Node.start.Goals as goal

pub returns-clause-processor : goal.returns-clause-processor
returns-clause-processor g c = λ i. record {
  own = record {
    thread = g.T.Task.kind.state c.args.task;
    turns = 0;
    copy = c.in_ok-copy.ensures.zeros i;
    dirty = c.in_ok-copy.ensures.unmarked i;
    held = c.in_ok-rights.ensures.held i;
    versions = c.in_ok-versions.ensures.zeros i;
    arrived = c.in_ok-rights.ensures.arrived i;
    crossed = c.in_ok-rights.ensures.crossed i;
    ending = None;
  };
  mail = c.new-mail.ensures i;
  locks = (c.in_ok-home.ensures.state i).locks;
  lines = record { stamps = (c.in_ok-home.ensures.state i).stamps; values = (c.in_ok-home.ensures.state i).values };
  barriers = c.in_ok-manager.ensures.barriers i;
  peers = c.in_ok-peers.ensures.peers i;
  tail = record { known = 0; records = []; lines = []; noted = false };
  logs = record { versions = []; arrivals = []; grants = λ q. []; openings = λ q. []; records = λ q. [] };
  standing = live;
}

pub returns-clause-whole : goal.returns-clause-whole
returns-clause-whole g c =
    record {
      shape = record {
        is_processor = c.requires.me;
        table = c.requires.table;
        copy = search rules;
        rights = search rules;
        versions = search rules;
        locks = search rules;
        lines = search rules;
        peers = search rules;
        manager = search rules;
        procs = search rules;
        bars = search rules;
        arrivals = λ p. subst (λ (last : ℕ → ℕ). last p ≤ (peers_of c.in_ok-peers.peers p).last) (sym c.in_ok-manager.ensures.last) (omega arith);
      };
      stays = c.requires.stays;
      waiting = nobody_waits c.args.setup.value (home_state c.in_ok-home.home) c.in_ok-home.ensures.state;
    }
