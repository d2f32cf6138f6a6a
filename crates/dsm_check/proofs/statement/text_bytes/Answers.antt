use Rattle.std.proofs.Common.{◌+◌, List, min, map, ap, arith}
use Rattle.std.proofs.lemmas.List.{drop_all}
use Rattle.dsm_syntax.specs.declared.tree.Part.{Part}
use Rattle.dsm_syntax.specs.Views as tree
use Rattle.dsm_check.specs.Bodies.{text_bytes}
use Rattle.dsm_check.proofs.statement.text_bytes.Goals as goal

pub returns : goal.returns
returns c =
    let end = ap (λ (rest : List Part). min (c.loop-part.bytes + text_bytes (map tree.view_part rest)) 18446744073709551615) (drop_all _ c.args.parts.now c.loop-part-test.false) in
    omega (arith, end, c.loop-part.invariant.0, c.loop-part.invariant.1)
