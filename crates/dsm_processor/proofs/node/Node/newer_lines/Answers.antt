use Rattle.std.proofs.Common.{◌∙◌}
use Rattle.std.proofs.lemmas.Result.{IfOk-weaker}
use Rattle.dsm_lines.specs.Copies as copies
use Rattle.dsm_home.specs.Homes.{home_state}
use Rattle.dsm_processor.proofs.node.Node.newer_lines.Goals as goal

pub returns : goal.returns
returns g c =
    let home = home_state c.args.self.now.home in
    IfOk-weaker c.newer.result _ _
    (λ lines is. is ∙ (λ i. copies.newer_lines (c.requires.lines i) home.stamps home.values c.args.lock c.args.version))
    c.newer.ensures
