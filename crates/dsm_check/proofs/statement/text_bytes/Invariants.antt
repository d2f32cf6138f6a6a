use Rattle.std.proofs.Common.{◌≡◌, ◌≤◌, ◌+◌, min, map, drop}
use Rattle.dsm_syntax.specs.Views as tree
use Rattle.dsm_check.specs.Bodies.{text_bytes}
use Rattle.dsm_check.proofs.statement.text_bytes.Given as goal

abbrev pub invariant-loop-part : goal.invariant-loop-part
invariant-loop-part l =
    (l.bytes ≤ 18446744073709551615)
    × (min (l.bytes + text_bytes (map tree.view_part (drop l.part-index l.parts))) 18446744073709551615
    ≡ min (text_bytes (map tree.view_part l.parts)) 18446744073709551615)
