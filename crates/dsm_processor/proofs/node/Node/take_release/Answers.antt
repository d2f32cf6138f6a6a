use Rattle.std.proofs.Common.{◌≡◌, ◌≤◌, ℕ, true, nat_lt, ◌∙◌, arith}
use Rattle.std.proofs.lemmas.Bool.Decides.{nat_tests}
use Rattle.dsm_barrier.specs.Managers.{last_of}
use Rattle.dsm_processor.proofs.Opened.{last_kept}
use Rattle.std.proofs.lemmas.Result.{IfOk-weaker, on_ok_weaker}
use Rattle.dsm_net.specs.Effects.{with_release}
use Rattle.dsm_home.specs.Homes.{home_state, home_pieces}
use Rattle.dsm_processor.specs.Peers.{peers_of}
use Rattle.dsm_processor.specs.Node.{processor_of, setup_of, me_of}
use Rattle.dsm_processor.proofs.Granted.{sends_are, processor_is, release_home, release_grants}
use Rattle.dsm_processor.proofs.node.Node.take_release.Goals as goal

-- a turn that counts is over the last one
newer_than : (last turn : ℕ) → nat_lt last turn ≡ true → last ≤ turn
newer_than last turn h = grind (arith, nat_tests)

pub send_grants-requires-clause-shape : goal.send_grants-requires-clause-shape
send_grants-requires-clause-shape g c =
    let old = c.args.self.now in
    record {
      is_processor = c.requires.shape.is_processor;
      table = c.requires.shape.table;
      copy = c.requires.shape.copy;
      rights = c.requires.shape.rights;
      versions = c.requires.shape.versions;
      locks = c.give.ensures.same.count ∙ c.requires.shape.locks;
      lines = c.give.ensures.same.pieces ∙ c.requires.shape.lines;
      peers = c.set_last.ensures.count ∙ c.requires.shape.peers;
      manager = c.requires.shape.manager;
      procs = c.requires.shape.procs;
      bars = c.requires.shape.bars;
      arrivals =
          last_kept (last_of old.manager) (peers_of old.peers) (peers_of c.set_last.new.self) c.args.from.0 (record (peers_of old.peers c.args.from.0) { last = c.args.turn }) c.set_last.ensures.peers
          (newer_than (peers_of old.peers c.args.from.0).last c.args.turn c.requires.newer) c.requires.shape.arrivals;
    }

pub returns-clause-sends : goal.returns-clause-sends
returns-clause-sends g c =
    let setup = setup_of c.args.self.now in
    let s = processor_of g.T.Task.kind c.args.self.now in
    IfOk-weaker c.send_grants.result _ _
    (sends_are setup (me_of c.args.self.now) (with_release setup s c.args.from.0 c.args.turn c.args.lock c.args.mode c.args.version c.args.lines.now) _ c.args.lock _
    (release_home s c.args.from.0 c.args.turn c.args.lock (home_state c.give.new.self) (peers_of c.set_last.new.self) c.set_last.ensures.peers setup (home_pieces c.args.self.now.home) c.args.mode c.args.version c.args.lines.now c.requires.shape.lines c.in_ok-granted.ensures.state)
    (release_grants s c.args.from.0 c.args.turn c.args.lock (home_state c.give.new.self) (peers_of c.set_last.new.self) c.set_last.ensures.peers setup c.args.mode c.args.version c.args.lines.now c.in_ok-granted.granted c.in_ok-granted.ensures.granted))
    c.send_grants.ensures.sends

pub returns-clause-processor : goal.returns-clause-processor
returns-clause-processor g c =
    let setup = setup_of c.args.self.now in
    let s = processor_of g.T.Task.kind c.args.self.now in
    on_ok_weaker c.send_grants.result
    (processor_is setup (me_of c.args.self.now) (with_release setup s c.args.from.0 c.args.turn c.args.lock c.args.mode c.args.version c.args.lines.now) _ c.args.lock _
    (release_home s c.args.from.0 c.args.turn c.args.lock (home_state c.give.new.self) (peers_of c.set_last.new.self) c.set_last.ensures.peers setup (home_pieces c.args.self.now.home) c.args.mode c.args.version c.args.lines.now c.requires.shape.lines c.in_ok-granted.ensures.state)
    (release_grants s c.args.from.0 c.args.turn c.args.lock (home_state c.give.new.self) (peers_of c.set_last.new.self) c.set_last.ensures.peers setup c.args.mode c.args.version c.args.lines.now c.in_ok-granted.granted c.in_ok-granted.ensures.granted) _)
    c.send_grants.ensures.processor
