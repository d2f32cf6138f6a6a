use Rattle.std.proofs.lemmas.Result.{err_from_is_err_and}
use Rattle.dsm_syntax.specs.Programs.{view_tree}
use Rattle.dsm_top.proofs.Programs.{no_tree, rules_say}
use Rattle.dsm_top.proofs.program.read_checked.Goals as goal

pub returns-in_err-tree : goal.returns-in_err-tree
returns-in_err-tree c =
    let p = err_from_is_err_and c.from_residual-in_err-tree.result c.from_residual-in_err-tree.ensures.1 in
    rw (p.1, p.2) (no_tree c.args.text.now c.in_ok-tokens.tokens c.in_err-tree.field-0.0 c.in_ok-tokens.ensures.tokens c.in_err-tree.ensures.refused)

pub returns : goal.returns
returns c =
    rules_say c.args.text.now c.in_ok-tokens.tokens (view_tree c.in_ok-tree.tree) c.check.result c.in_ok-tokens.ensures.tokens c.in_ok-tree.ensures.found c.check.ensures.accepted c.check.ensures.refused
