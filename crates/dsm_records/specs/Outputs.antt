-- The lines that go out.
use Rattle.std.specs.Prelude.{ℕ, List, [], ◌∷◌}
use Rattle.dsm_base.specs.Output.{printed_line}
use Rattle.dsm_net.specs.declared.trace.Rec.{Rec}

-- a line for each text that goes out
abbrev pub lines_of : List Rec → List (List ℕ)
lines_of [] = []
lines_of (Rec.Out p turn text ∷ others) = printed_line p.0 text ∷ lines_of others
lines_of (one ∷ others) = lines_of others
