use Rattle.std.proofs.Common.{◌≡◌, max, map, drop}
use Rattle.dsm_syntax.specs.Heights.{highest}
use Rattle.dsm_code.specs.Programs.{function_of}
use Rattle.dsm_laws_code.specs.Programs.{deepest_in}
use Rattle.dsm_compile.proofs.program.deepest_of_all.Given as goal

abbrev pub invariant-loop-function : goal.invariant-loop-function
invariant-loop-function l =
    max l.deepest (highest deepest_in (map function_of (drop l.function-index l.functions))) ≡ highest deepest_in (map function_of l.functions)
