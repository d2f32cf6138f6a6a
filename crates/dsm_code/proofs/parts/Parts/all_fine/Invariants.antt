use Rattle.std.proofs.Common.{◌≡◌, drop}
use Rattle.dsm_code.specs.Programs.{program_of, function_of}
use Rattle.dsm_code.specs.Valid.{all_fine_from}
use Rattle.dsm_code.proofs.parts.Parts.all_fine.Given as goal

-- what is left comes to what the whole comes to
abbrev pub invariant-loop-place : goal.invariant-loop-place
invariant-loop-place l =
    all_fine_from (program_of l.self) (function_of l.f) 0 l.rows ≡ all_fine_from (program_of l.self) (function_of l.f) l.place (drop l.place l.rows)
