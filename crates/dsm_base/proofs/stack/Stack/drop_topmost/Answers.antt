use Rattle.std.proofs.Common.{◌∙◌, ap, ◌-◌}
use Rattle.dsm_base.proofs.Tops.{shown_rest}
use Rattle.dsm_base.proofs.stack.Stack.drop_topmost.Goals as goal

pub returns : goal.returns
returns g c =
    let place = c.saturating_sub-kept.ensures ∙ ap (λ n. n - c.args.count) c.len.ensures in
    shown_rest c.self.inside.items.items c.args.self.now c.args.count c.saturating_sub-kept.result c.self.view_is place c.truncate.new.self.items c.truncate.ensures.items
