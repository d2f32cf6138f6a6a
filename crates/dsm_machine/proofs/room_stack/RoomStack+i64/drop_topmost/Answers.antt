use Rattle.std.proofs.Common.{◌∙◌, ap, ◌-◌}
use Rattle.dsm_base.proofs.Tops.{shown_rest}
use Rattle.dsm_machine.proofs.Tops.{same_room}
use Rattle.dsm_machine.proofs.room_stack.RoomStack+i64.drop_topmost.Goals as goal

pub returns : goal.returns
returns c =
    let place = c.saturating_sub-kept.ensures ∙ ap (λ n. n - c.args.count) c.len.ensures in
    same_room _ _ c.self.inside.room c.args.self.now.room
    (shown_rest c.self.inside.items.items c.args.self.now.values c.args.count c.saturating_sub-kept.result (ap (λ r. r.values) c.self.view_is) place c.truncate.new.self.items c.truncate.ensures.items)
    (ap (λ r. r.room) c.self.view_is)
