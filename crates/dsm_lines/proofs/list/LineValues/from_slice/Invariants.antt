use Rattle.std.proofs.Common.{◌≡◌, take}
use Rattle.dsm_lines.proofs.list.LineValues.from_slice.Given as goal

-- the values gone over are copied
abbrev pub invariant-loop-value : goal.invariant-loop-value
invariant-loop-value l = l.copy ≡ take l.value-index l.values
