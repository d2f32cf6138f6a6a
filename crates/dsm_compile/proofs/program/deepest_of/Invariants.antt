use Rattle.std.proofs.Common.{◌≡◌, max, drop}
use Rattle.dsm_syntax.specs.Heights.{highest}
use Rattle.dsm_compile.proofs.program.deepest_of.Given as goal

abbrev pub invariant-loop-row : goal.invariant-loop-row
invariant-loop-row l = max l.deepest (highest (λ here. here.depth) (drop l.row-index l.rows)) ≡ highest (λ here. here.depth) l.rows
