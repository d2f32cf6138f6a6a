use Rattle.std.proofs.Common.{ap, ◌∙◌}
use Rattle.dsm_syntax.specs.Tree as tree
use Rattle.dsm_syntax.proofs.Shown.{view_call}
use Rattle.dsm_parse.proofs.Turns.{views_as_list}
use Rattle.dsm_parse.proofs.expression.call.Goals as goal

pub returns : goal.returns
returns c = view_call c.args.name c.args.list ∙ ap (tree.call c.args.name) (views_as_list c.args.list.items)
