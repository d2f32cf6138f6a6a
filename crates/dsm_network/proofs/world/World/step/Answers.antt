use Rattle.std.proofs.Common.{◌≡◌, ◌∙◌, ◌++◌, ◌∷◌, [], ap, sym, refl}
use Rattle.dsm_net.specs.declared.trace.Rec.{Rec}
use Rattle.dsm_network.specs.World.{setup_of, processor_at, net_of, made_of, turn_of}
use Rattle.dsm_network.specs.Effects.{with_effect_of}
use Rattle.dsm_network.proofs.Steps.{put_there, step_made, step_none}
use Rattle.dsm_network.proofs.world.World.step.Goals as goal

pub returns-in_default-clause-made : goal.returns-in_default-clause-made
returns-in_default-clause-made g c =
    let kind = g.M.Made.Task.kind in
    let first = g.M.TaskMaker.first in
    let old = c.args.self.now in
    let p = c.args.proc.0 in
    ap (λ records. made_of kind first c.turn.new.self records) c.new-records.ensures
    ∙ step_none (setup_of old) kind.semantics (net_of kind first old) (net_of kind first c.turn.new.self) p (processor_at kind first old p) (turn_of kind first old p) refl (sym c.in_default.is ∙ c.in_ok-turn.ensures.stepped) c.in_ok-turn.ensures.net

pub returns-clause-made : goal.returns-clause-made
returns-clause-made g c =
    let kind = g.M.Made.Task.kind in
    let first = g.M.TaskMaker.first in
    let old = c.args.self.now in
    let p = c.args.proc.0 in
    let one = c.in-Some.field-0 in
    let mid = c.turn.new.self in
    let records : c.push.new.self ≡ Rec.Turn c.args.proc one.turn one.label one.lines ∷ [] =
    c.in_ok-push.ensures.ok ∙ ap (λ before. before ++ Rec.Turn c.args.proc one.turn one.label one.lines ∷ []) c.new-records.ensures in
    c.in_ok-carry_out.ensures.made
    ∙ ap (λ records. with_effect_of (made_of kind first mid records) p p (processor_at kind first mid p).own.turns one.effects) records
    ∙ step_made (setup_of old) kind.semantics (net_of kind first old) (net_of kind first mid) p (processor_at kind first old p) (processor_at kind first mid p) (turn_of kind first old p) one
    (sym c.in-Some.is ∙ c.in_ok-turn.ensures.stepped) c.in_ok-turn.ensures.net
    (put_there (net_of kind first old) (net_of kind first mid) p _ (processor_at kind first mid p) c.in_ok-turn.ensures.net refl)
