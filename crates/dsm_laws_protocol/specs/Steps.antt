-- The turns of a trace, each with the lines that it brings. Traces and steps have the newest first.
use Rattle.std.specs.Prelude.{ℕ, List, [], ◌∷◌, map}
use Rattle.dsm_base.specs.Plain.{Turn}
use Rattle.dsm_net.specs.declared.trace.Rec.{Rec}
use Rattle.dsm_net.specs.declared.trace.Group.{Group}
use Rattle.dsm_net.specs.Turns.{OwnTurn}

-- a turn of a processor
pub record Step : Type 0 where
  pub proc : ℕ
  pub turn : OwnTurn

-- the steps that records tell of, onto those before
abbrev pub steps_onto : List Step → List Rec → List Step
steps_onto before [] = before
steps_onto before (Rec.Turn p turn label lines ∷ others) =
    steps_onto (record { proc = p.0; turn = record { label = label; lines = lines } } ∷ before) others
steps_onto before (one ∷ others) = steps_onto before others

-- all steps of a trace
abbrev pub steps_of : List Group → List Step
steps_of [] = []
steps_of (group ∷ before) = steps_onto (steps_of before) group.records

-- the run that they are
abbrev pub turns_of : List Step → List Turn
turns_of steps = map (λ step. record { proc = step.proc; label = step.turn.label }) steps
