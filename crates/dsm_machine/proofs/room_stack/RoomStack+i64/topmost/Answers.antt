use Rattle.std.proofs.Common.{◌∙◌, ap, ◌-◌}
use Rattle.dsm_base.proofs.Tops.{shown_top}
use Rattle.dsm_machine.proofs.room_stack.RoomStack+i64.topmost.Goals as goal

pub returns-clause-values : goal.returns-clause-values
returns-clause-values c =
    let place = c.saturating_sub-kept.ensures ∙ ap (λ n. n - c.args.count) c.len.ensures in
    shown_top c.self.inside.items.items c.args.self.now.values c.args.count c.saturating_sub-kept.result (ap (λ r. r.values) c.self.view_is) place c.deref.result.now c.deref.ensures.value
