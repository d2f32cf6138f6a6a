use Rattle.std.proofs.Common.{◌∙◌}
use Rattle.dsm_plain.proofs.Completions.{told_is}
use Rattle.dsm_plain.proofs.machine.Plain.want.Goals as goal

pub returns : goal.returns
returns c =
    c.want.ensures ∙ told_is c.args.self.now c.requires.whole c.args.proc.0 c.requires.processor c.index.result c.index.ensures c.index-2.result.now c.index-2.ensures
