use Rattle.std.proofs.Common.{◌≡◌, take}
use Rattle.dsm_lines.proofs.list.LineList.copy.Given as goal

-- the lines gone over are copied
abbrev pub invariant-loop-line : goal.invariant-loop-line
invariant-loop-line l = l.lines.items ≡ take l.line-index l.line-items
