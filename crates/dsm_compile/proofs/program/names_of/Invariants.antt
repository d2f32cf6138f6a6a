use Rattle.std.proofs.Common.{◌≡◌, ◌++◌, map, drop}
use Rattle.dsm_laws_code.specs.Programs.{names_at}
use Rattle.dsm_compile.proofs.program.names_of.Given as goal

abbrev pub invariant-loop-row : goal.invariant-loop-row
invariant-loop-row l = l.names.items ++ map names_at (drop l.row-index l.rows) ≡ map names_at l.rows
