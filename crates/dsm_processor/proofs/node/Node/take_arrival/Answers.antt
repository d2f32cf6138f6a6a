use Rattle.std.proofs.Common.{◌≡◌, true, if◌then◌else◌, [], ap, ◌∙◌}
use Rattle.std.proofs.lemmas.Result.{IfOk-weaker, on_ok_weaker}
use Rattle.dsm_base.specs.Family.{update}
use Rattle.dsm_barrier.specs.BarrierStates.{counts, arrived_in, with_arrival, opened_where_due, openings_due}
use Rattle.dsm_barrier.specs.Managers.{barriers_of, last_of}
use Rattle.dsm_processor.specs.Peers.{peers_of}
use Rattle.dsm_processor.specs.Node.{processor_of, setup_of, me_of}
use Rattle.dsm_processor.proofs.Opened.{same_tests, counts_over, last_moved, opening_sends_are, opened_processor_is}
use Rattle.dsm_processor.proofs.node.Node.take_arrival.Goals as goal

pub arrive-requires-clause-processor : goal.arrive-requires-clause-processor
arrive-requires-clause-processor g c = rw c.requires.shape.procs c.requires.from

pub arrive-requires-clause-barrier : goal.arrive-requires-clause-barrier
arrive-requires-clause-barrier g c = rw c.requires.shape.bars c.requires.bar

pub arrive-requires-clause-managed : goal.arrive-requires-clause-managed
arrive-requires-clause-managed g c = rw (c.requires.shape.procs, c.requires.shape.manager) (same_tests _ _ c.requires.managed)

pub send_openings-requires : goal.send_openings-requires
send_openings-requires g c =
    let old = c.args.self.now in
    let counted : counts (barriers_of old.manager c.args.bar.0) (last_of old.manager c.args.from.0) c.args.from.0 c.args.turn c.args.epoch ≡ true =
    counts_over (barriers_of old.manager c.args.bar.0) (last_of old.manager c.args.from.0) (peers_of old.peers c.args.from.0).last c.args.from.0 c.args.turn c.args.epoch (c.requires.shape.arrivals c.args.from.0) c.requires.counts in
    record {
      shape = record {
        is_processor = c.requires.shape.is_processor;
        table = c.requires.shape.table;
        copy = c.requires.shape.copy;
        rights = c.requires.shape.rights;
        versions = c.requires.shape.versions;
        locks = c.requires.shape.locks;
        lines = c.requires.shape.lines;
        peers = c.set_last.ensures.count ∙ c.requires.shape.peers;
        manager = c.arrive.ensures.same.me ∙ c.requires.shape.manager;
        procs = c.arrive.ensures.same.procs ∙ c.requires.shape.procs;
        bars = c.arrive.ensures.same.bars ∙ c.requires.shape.bars;
        arrivals =
            last_moved (last_of old.manager) (last_of c.arrive.new.self) (peers_of old.peers) (peers_of c.set_last.new.self) c.args.from.0 c.args.turn
            (c.in_ok-openings.ensures.last ∙ ap (λ b. if b then update (last_of old.manager) c.args.from.0 c.args.turn else last_of old.manager) counted)
            c.set_last.ensures.peers c.requires.shape.arrivals;
      };
    }

pub returns-clause-sends : goal.returns-clause-sends
returns-clause-sends g c =
    let old = c.args.self.now in
    let setup = setup_of old in
    let s = processor_of g.T.Task.kind old in
    let state = with_arrival (barriers_of old.manager c.args.bar.0) c.args.from.0 (arrived_in c.args.turn c.args.lines.now) in
    let counted : counts (barriers_of old.manager c.args.bar.0) (last_of old.manager c.args.from.0) c.args.from.0 c.args.turn c.args.epoch ≡ true =
    counts_over (barriers_of old.manager c.args.bar.0) (last_of old.manager c.args.from.0) (peers_of old.peers c.args.from.0).last c.args.from.0 c.args.turn c.args.epoch (c.requires.shape.arrivals c.args.from.0) c.requires.counts in
    let barriers : barriers_of c.arrive.new.self ≡ update s.barriers c.args.bar.0 (opened_where_due setup.procs state) =
    c.in_ok-openings.ensures.barriers
    ∙ ap (λ b. if b then update s.barriers c.args.bar.0 (opened_where_due old.manager.procs state) else s.barriers) counted
    ∙ ap (λ n. update s.barriers c.args.bar.0 (opened_where_due n state)) c.requires.shape.procs in
    IfOk-weaker c.send_openings.result _ _
    (opening_sends_are setup (me_of old) s (record s { barriers = barriers_of c.arrive.new.self; peers = peers_of c.set_last.new.self }) c.args.from.0 c.args.turn c.args.bar c.args.lines.now c.in_ok-openings.openings
    (λ i. record s { barriers = barriers i; peers = c.set_last.ensures.peers i })
    (c.in_ok-openings.ensures.openings
    ∙ ap (λ b. if b then openings_due old.manager.procs c.args.bar state else []) counted
    ∙ ap (λ n. openings_due n c.args.bar state) c.requires.shape.procs))
    c.send_openings.ensures.sends

pub returns-clause-processor : goal.returns-clause-processor
returns-clause-processor g c =
    let old = c.args.self.now in
    let setup = setup_of old in
    let s = processor_of g.T.Task.kind old in
    let state = with_arrival (barriers_of old.manager c.args.bar.0) c.args.from.0 (arrived_in c.args.turn c.args.lines.now) in
    let counted : counts (barriers_of old.manager c.args.bar.0) (last_of old.manager c.args.from.0) c.args.from.0 c.args.turn c.args.epoch ≡ true =
    counts_over (barriers_of old.manager c.args.bar.0) (last_of old.manager c.args.from.0) (peers_of old.peers c.args.from.0).last c.args.from.0 c.args.turn c.args.epoch (c.requires.shape.arrivals c.args.from.0) c.requires.counts in
    let barriers : barriers_of c.arrive.new.self ≡ update s.barriers c.args.bar.0 (opened_where_due setup.procs state) =
    c.in_ok-openings.ensures.barriers
    ∙ ap (λ b. if b then update s.barriers c.args.bar.0 (opened_where_due old.manager.procs state) else s.barriers) counted
    ∙ ap (λ n. update s.barriers c.args.bar.0 (opened_where_due n state)) c.requires.shape.procs in
    on_ok_weaker c.send_openings.result
    (opened_processor_is setup (me_of old) s (record s { barriers = barriers_of c.arrive.new.self; peers = peers_of c.set_last.new.self }) c.args.from.0 c.args.turn c.args.bar c.args.lines.now c.in_ok-openings.openings
    (λ i. record s { barriers = barriers i; peers = c.set_last.ensures.peers i })
    (c.in_ok-openings.ensures.openings
    ∙ ap (λ b. if b then openings_due old.manager.procs c.args.bar state else []) counted
    ∙ ap (λ n. openings_due n c.args.bar state) c.requires.shape.procs) _)
    c.send_openings.ensures.processor
