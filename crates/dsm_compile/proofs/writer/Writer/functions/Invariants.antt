use Rattle.std.proofs.Common.{◌≡◌, ◌++◌, [], map, drop, length}
use Rattle.dsm_check.specs.Views.{view_function}
use Rattle.dsm_code.specs.Programs.{function_of}
use Rattle.dsm_laws_code.specs.Programs.{functions_code, functions_prints}
use Rattle.dsm_compile.proofs.writer.Writer.functions.Given as goal

-- what is made, and then the rest
abbrev pub invariant-loop-function : goal.invariant-loop-function
invariant-loop-function l = record {
  pieces : l.self.pieces ≡ l.initial.self.pieces;
  rows : l.self.rows ≡ [];
  prints : l.self.prints ++ functions_prints (map view_function (drop l.function-index l.functions))
      ≡ l.initial.self.prints ++ functions_prints (map view_function l.functions);
  made : map function_of l.made.items ++ functions_code l.self.pieces (length l.self.prints) (map view_function (drop l.function-index l.functions))
      ≡ functions_code l.initial.self.pieces (length l.initial.self.prints) (map view_function l.functions);
}
