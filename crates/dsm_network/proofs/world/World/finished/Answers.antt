use Rattle.std.proofs.Common.{◌∙◌, is_some}
use Rattle.dsm_base.specs.Endings.{is_ended, finished_where}
use Rattle.dsm_network.proofs.Endings.{all_tell}
use Rattle.dsm_network.proofs.world.World.finished.Goals as goal

pub returns : goal.returns
returns g c =
    let kind = g.M.Made.Task.kind in
    let first = g.M.TaskMaker.first in
    let world = c.args.self.now in
    let ended = all_tell kind first world is_ended c.deref.result.now c.all_ended.result c.requires.shape c.deref.ensures.value c.all_ended.ensures in
    let over = all_tell kind first world is_some c.deref-2.result.now c.all_over.result c.requires.shape c.deref-2.ensures.value c.all_over.ensures in
    c.finished_where.ensures ∙ (λ i. finished_where (ended i) (over i))
