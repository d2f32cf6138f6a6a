-- Arrivals among a processor's labels. Labels have the newest first.
use Rattle.std.specs.Prelude.{ℕ, Bool, false, ◌==◌, List, [], ◌∷◌}
use Rattle.dsm_base.specs.declared.label.Label.{Label}

-- whether a label is an arrival at this barrier
abbrev pub is_arrival : ℕ → Label → Bool
is_arrival bar (Label.Arrive reached) = reached.0 == bar
is_arrival bar _ = false

-- whether the newest label is one
abbrev pub comes_last : ℕ → List Label → Bool
comes_last bar [] = false
comes_last bar (label ∷ before) = is_arrival bar label
