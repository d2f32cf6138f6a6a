use Rattle.std.proofs.Common.{ap, ◌∙◌, sym, subst, [], rules}
use Rattle.std.specs.List.{All}
use Rattle.dsm_net.specs.Turns.{own_after, mail_after}
use Rattle.dsm_net.specs.Effects.{body_of, effect_of_telling}
use Rattle.dsm_processor.specs.Node.{processor_of, own_of, setup_of, me_of, number_for}
use Rattle.dsm_processor.specs.Names.{IsSendOf}
use Rattle.dsm_processor.specs.declared.node.Effects.{Effects}
use Rattle.dsm_processor.proofs.Names.{sends_of_same}
use Rattle.dsm_processor.proofs.Whole.{whole_from}
use Rattle.dsm_processor.proofs.Turns.{label_for_is, body_names}
use Rattle.dsm_processor.proofs.Steps.{processor_is, stepped_is}
use Rattle.dsm_processor.proofs.node.Node.step.Goals as goal

pub make_turn-requires-clause-names : goal.make_turn-requires-clause-names
make_turn-requires-clause-names g c =
    let asked = record c.args.self.now { task = c.want-want.new.self } in
    rw c.collect.ensures.same.setup (label_for_is (setup_of asked) g.T.Task.kind.semantics (me_of asked) (own_of g.T.Task.kind asked) (number_for (processor_of g.T.Task.kind asked) c.want-want.result) c.want-want.result c.in-Some.label (rw c.want-want.ensures.value (c.requires.stays [])) (sym c.in_ok-label.ensures.label ∙ c.in-Some.is)).names

pub make_turn-requires-clause-whole : goal.make_turn-requires-clause-whole
make_turn-requires-clause-whole g c =
    let old = c.args.self.now in
    let asked = record old { task = c.want-want.new.self } in
    let s = processor_of g.T.Task.kind asked in
    whole_from g.T.Task.kind old c.collect.new.self c.collect.ensures.same.setup (record s { mail = mail_after s.mail c.in_ok-turn.turn }) c.in_ok-lines.ensures.processor
    (rw c.want-want.ensures.state c.requires.stays)
    c.requires.waiting
    c.in_ok-lines.ensures.shape

pub make_turn-requires-clause-answers : goal.make_turn-requires-clause-answers
make_turn-requires-clause-answers g c =
    let asked = record c.args.self.now { task = c.want-want.new.self } in
    rw (c.in_ok-lines.ensures.task, c.want-want.ensures.told) (label_for_is (setup_of asked) g.T.Task.kind.semantics (me_of asked) (own_of g.T.Task.kind asked) (number_for (processor_of g.T.Task.kind asked) c.want-want.result) c.want-want.result c.in-Some.label (rw c.want-want.ensures.value (c.requires.stays [])) (sym c.in_ok-label.ensures.label ∙ c.in-Some.is)).answers

pub tell-requires-clause-names : goal.tell-requires-clause-names
tell-requires-clause-names g c =
    let old = c.args.self.now in
    let asked = record old { task = c.want-want.new.self } in
    let names = (label_for_is (setup_of asked) g.T.Task.kind.semantics (me_of asked) (own_of g.T.Task.kind asked) (number_for (processor_of g.T.Task.kind asked) c.want-want.result) c.want-want.result c.in-Some.label (rw c.want-want.ensures.value (c.requires.stays [])) (sym c.in_ok-label.ensures.label ∙ c.in-Some.is)).names in
    rw (c.in_ok-body.ensures.body, c.make_turn.ensures.same.setup, c.collect.ensures.same.setup) (body_names (setup_of old) (own_of g.T.Task.kind c.collect.new.self) c.in-Some.label names)

pub returns-clause-within : goal.returns-clause-within
returns-clause-within g c =
    let old = c.args.self.now in
    let made = c.make_turn.new.self in
    subst (λ (one : Effects). All (IsSendOf (setup_of old) (me_of old)) one.sends) (sym c.unit_effects-effects.ensures)
    (sends_of_same (setup_of old) (setup_of made) (me_of old) (me_of made) (c.make_turn.ensures.same.setup ∙ c.collect.ensures.same.setup) (c.make_turn.ensures.same.me ∙ c.collect.ensures.same.me) c.in_ok-sends.sends c.in_ok-sends.ensures.within)

pub returns-clause-stepped : goal.returns-clause-stepped
returns-clause-stepped g c =
    let old = c.args.self.now in
    let asked = record old { task = c.want-want.new.self } in
    let collected = c.collect.new.self in
    let made = c.make_turn.new.self in
    let s = processor_of g.T.Task.kind old in
    let threads = g.T.Task.kind.semantics in
    stepped_is (setup_of old) threads (me_of old) s (processor_of g.T.Task.kind asked) c.want-want.result
    (λ i. record s { own = record s.own { thread = c.want-want.ensures.state i } })
    c.want-want.ensures.value
    c.in-Some.label
    (sym c.in_ok-label.ensures.label ∙ c.in-Some.is)
    c.in_ok-lines.lines (processor_of g.T.Task.kind collected) (processor_of g.T.Task.kind made) c.in_ok-body.body
    c.in_ok-lines.ensures.lines
    (c.in_ok-lines.ensures.processor ∙ ap (λ turn. record (processor_of g.T.Task.kind asked) { mail = mail_after (processor_of g.T.Task.kind asked).mail turn }) (search rules))
    (c.in_ok-body.ensures.processor ∙ (λ i. record (processor_of g.T.Task.kind collected) { own = own_after (c.collect.ensures.same.setup i) threads (own_of g.T.Task.kind collected) record { label = c.in-Some.label; lines = c.in_ok-lines.lines } }))
    (c.in_ok-body.ensures.body ∙ ap (λ setup. body_of setup (own_of g.T.Task.kind collected) c.in-Some.label) c.collect.ensures.same.setup)
    c.in_ok-turn.turn c.in_ok-sends.sends c.in_ok-outs.outs c.unit_effects-effects.result
    (search rules)
    (c.in_ok-sends.ensures.sends ∙ (λ i. (effect_of_telling ((c.make_turn.ensures.same.setup ∙ c.collect.ensures.same.setup) i) ((c.make_turn.ensures.same.me ∙ c.collect.ensures.same.me) i) (processor_of g.T.Task.kind made) c.in_ok-body.body).sends))
    c.in_ok-outs.ensures
    (search rules)

pub returns-clause-processor : goal.returns-clause-processor
returns-clause-processor g c =
    let old = c.args.self.now in
    let asked = record old { task = c.want-want.new.self } in
    let collected = c.collect.new.self in
    let made = c.make_turn.new.self in
    let s = processor_of g.T.Task.kind old in
    let threads = g.T.Task.kind.semantics in
    processor_is (setup_of old) threads (me_of old) s (processor_of g.T.Task.kind asked) c.want-want.result
    (λ i. record s { own = record s.own { thread = c.want-want.ensures.state i } })
    c.want-want.ensures.value
    c.in-Some.label
    (sym c.in_ok-label.ensures.label ∙ c.in-Some.is)
    c.in_ok-lines.lines (processor_of g.T.Task.kind collected) (processor_of g.T.Task.kind made) c.in_ok-body.body
    c.in_ok-lines.ensures.lines
    (c.in_ok-lines.ensures.processor ∙ ap (λ turn. record (processor_of g.T.Task.kind asked) { mail = mail_after (processor_of g.T.Task.kind asked).mail turn }) (search rules))
    (c.in_ok-body.ensures.processor ∙ (λ i. record (processor_of g.T.Task.kind collected) { own = own_after (c.collect.ensures.same.setup i) threads (own_of g.T.Task.kind collected) record { label = c.in-Some.label; lines = c.in_ok-lines.lines } }))
    (c.in_ok-body.ensures.body ∙ ap (λ setup. body_of setup (own_of g.T.Task.kind collected) c.in-Some.label) c.collect.ensures.same.setup)
    (processor_of g.T.Task.kind c.tell.new.self)
    (c.in_ok-sends.ensures.processor ∙ (λ i. (effect_of_telling ((c.make_turn.ensures.same.setup ∙ c.collect.ensures.same.setup) i) ((c.make_turn.ensures.same.me ∙ c.collect.ensures.same.me) i) (processor_of g.T.Task.kind made) c.in_ok-body.body).processor))
