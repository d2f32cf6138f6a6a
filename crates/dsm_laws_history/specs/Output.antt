-- What a trace puts out.
use Rattle.std.specs.Prelude.{ℕ, List, [], ◌∷◌, ◌++◌}
use Rattle.dsm_base.specs.Output.{printed_line}
use Rattle.dsm_net.specs.declared.trace.Rec.{Rec}
use Rattle.dsm_net.specs.declared.trace.Group.{Group}

-- the lines that go out in records, behind what went out before
abbrev pub output_onto : List ℕ → List Rec → List ℕ
output_onto before [] = before
output_onto before (Rec.Out p turn text ∷ others) = output_onto (before ++ printed_line p.0 text) others
output_onto before (one ∷ others) = output_onto before others

-- all lines that go out in a trace; the trace has its newest group first
abbrev pub output_of : List Group → List ℕ
output_of [] = []
output_of (group ∷ before) = output_onto (output_of before) group.records
