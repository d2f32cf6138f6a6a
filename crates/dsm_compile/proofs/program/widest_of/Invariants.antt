use Rattle.std.proofs.Common.{◌≡◌, max, map, drop}
use Rattle.dsm_syntax.specs.Heights.{highest}
use Rattle.dsm_code.specs.Programs.{function_of}
use Rattle.dsm_compile.proofs.program.widest_of.Given as goal

abbrev pub invariant-loop-function : goal.invariant-loop-function
invariant-loop-function l =
    max l.widest (highest (λ f. f.slots) (map function_of (drop l.function-index l.functions))) ≡ highest (λ f. f.slots) (map function_of l.functions)
