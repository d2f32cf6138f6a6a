use Rattle.std.proofs.Common.{◌≡◌, ◌++◌, map, drop}
use Rattle.dsm_check.specs.Views.{view_part}
use Rattle.dsm_laws_code.specs.Statements.{print_of}
use Rattle.dsm_compile.proofs.statement.print_of.Given as goal

abbrev pub invariant-loop-part : goal.invariant-loop-part
invariant-loop-part l = l.print ++ print_of (map view_part (drop l.part-index l.parts)) ≡ print_of (map view_part l.parts)
