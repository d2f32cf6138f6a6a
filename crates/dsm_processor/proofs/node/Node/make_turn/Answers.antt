use Rattle.std.proofs.Common.{ap, ◌∙◌}
use Rattle.dsm_base.specs.Plain.{memory_after}
use Rattle.dsm_lines.specs.Copies.{overlaid}
use Rattle.dsm_net.specs.Turns.{OwnTurn, own_after, dirty_after}
use Rattle.dsm_processor.specs.Copy.{given_lines}
use Rattle.dsm_processor.specs.Node.{processor_of, setup_of, own_of, body_with}
use Rattle.dsm_processor.proofs.Turns.{stays_after, body_is}
use Rattle.dsm_processor.proofs.Whole.{whole_from}
use Rattle.dsm_processor.proofs.node.Node.make_turn.Goals as goal

pub change_copy-requires : goal.change_copy-requires
change_copy-requires g c = rw c.requires.whole.shape.copy c.requires.names.stored

pub returns-clause-body : goal.returns-clause-body
returns-clause-body g c =
    let old = c.args.self.now in
    let setup = setup_of old in
    let own = own_of g.T.Task.kind old in
    c.in_ok-body.ensures
    ∙ ap (body_with own.versions own.held own.crossed c.args.label.now) (c.in_ok-given.ensures.given ∙ ap (λ pieces. given_lines pieces own.dirty own.copy c.args.label.now) c.requires.whole.shape.copy)
    ∙ body_is setup own c.args.label.now

pub returns-clause-processor : goal.returns-clause-processor
returns-clause-processor g c =
    let old = c.args.self.now in
    let setup = setup_of old in
    let own = own_of g.T.Task.kind old in
    let turn : OwnTurn = record { label = c.args.label.now; lines = c.args.lines.now } in
    c.in_ok-advance.ensures.processor
    ∙ (λ i. record (processor_of g.T.Task.kind old) {
      own = record (own_after setup g.T.Task.kind.semantics own turn) {
        copy = (c.in_ok-given.ensures.memory ∙ ap (λ pieces. overlaid pieces (memory_after own.copy turn.label) turn.lines) c.requires.whole.shape.copy) i;
        dirty = (c.in_ok-given.ensures.marks ∙ ap (λ pieces. dirty_after pieces own.dirty turn.label) c.requires.whole.shape.copy) i;
      };
    })

pub returns-clause-whole : goal.returns-clause-whole
returns-clause-whole g c =
    let old = c.args.self.now in
    let setup = setup_of old in
    let own = own_of g.T.Task.kind old in
    let turn : OwnTurn = record { label = c.args.label.now; lines = c.args.lines.now } in
    whole_from g.T.Task.kind old c.advance.new.self c.in_ok-advance.ensures.same.setup _ c.in_ok-advance.ensures.processor
    (stays_after setup g.T.Task.kind.semantics own.thread c.args.label.now c.requires.whole.stays)
    c.requires.whole.waiting
    c.in_ok-advance.ensures.shape
