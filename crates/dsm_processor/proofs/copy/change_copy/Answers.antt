use Rattle.std.proofs.Common.{◌∙◌}
use Rattle.dsm_lines.specs.Copies.{overlaid}
use Rattle.dsm_processor.proofs.copy.change_copy.Goals as goal

pub returns-clause-memory : goal.returns-clause-memory
returns-clause-memory c =
    c.apply.ensures.memory
    ∙ (λ i. overlaid (c.in_ok-given.ensures.pieces i) (c.in_ok-given.ensures.memory i) c.args.lines.now)
