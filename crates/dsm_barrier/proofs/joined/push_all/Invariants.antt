use Rattle.std.proofs.Common.{◌≡◌, ◌++◌, take}
use Rattle.dsm_barrier.proofs.joined.push_all.Given as goal

-- the lines gone over are added
abbrev pub invariant-loop-line : goal.invariant-loop-line
invariant-loop-line l = l.joined ≡ l.initial.joined ++ take l.line-index l.lines
