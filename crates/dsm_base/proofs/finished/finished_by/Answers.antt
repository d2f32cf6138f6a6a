use Rattle.std.proofs.Common.{◌∙◌, None, is_some}
use Rattle.dsm_base.specs.Endings.{is_ended, finished_where}
use Rattle.dsm_base.proofs.Families.{all_items}
use Rattle.dsm_base.proofs.finished.finished_by.Goals as goal

pub returns : goal.returns
returns c =
    let endings = c.args.endings.now in
    c.finished_where.ensures
    ∙ (λ i. finished_where ((c.are_ended.ensures ∙ all_items is_ended (λ p. None) endings) i) ((c.are_over.ensures ∙ all_items is_some (λ p. None) endings) i))
