-- What a trace tells of histories. Traces, histories and turns have the newest first.
use Rattle.std.specs.Prelude.{ℕ, ◌==◌, if◌then◌else◌, List, [], ◌∷◌, map}
use Rattle.dsm_base.specs.declared.label.Label.{Label}
use Rattle.dsm_base.specs.declared.setup.Setup.{Setup}
use Rattle.dsm_base.specs.Plain.{Turn}
use Rattle.dsm_base.specs.Threads.{Semantics}
use Rattle.dsm_net.specs.declared.trace.Rec.{Rec}
use Rattle.dsm_net.specs.declared.trace.Group.{Group}
use Rattle.dsm_net.specs.Processor.{Own, start_own}
use Rattle.dsm_net.specs.Turns.{OwnTurn, own_after}

-- the turns that records tell of, onto those before
abbrev pub turns_onto : List Turn → List Rec → List Turn
turns_onto before [] = before
turns_onto before (Rec.Turn p turn label lines ∷ others) =
    turns_onto (record { proc = p.0; label = label } ∷ before) others
turns_onto before (one ∷ others) = turns_onto before others

-- all turns of a trace
abbrev pub history : List Group → List Turn
history [] = []
history (group ∷ before) = turns_onto (history before) group.records

-- the turns of p that records tell of, onto those before
abbrev pub own_turns_onto : ℕ → List OwnTurn → List Rec → List OwnTurn
own_turns_onto p before [] = before
own_turns_onto p before (Rec.Turn q turn label lines ∷ others) =
    own_turns_onto p (if q.0 == p then record { label = label; lines = lines } ∷ before else before) others
own_turns_onto p before (one ∷ others) = own_turns_onto p before others

-- the turns that p has made
abbrev pub own_turns_of : ℕ → List Group → List OwnTurn
own_turns_of p [] = []
own_turns_of p (group ∷ before) = own_turns_onto p (own_turns_of p before) group.records

-- what turns leave of a processor's own
abbrev pub own_of : {S : Type 0} → Setup → Semantics S → S → List OwnTurn → Own S
own_of setup threads first [] = start_own first
own_of setup threads first (turn ∷ before) = own_after setup threads (own_of setup threads first before) turn

-- the labels of turns
abbrev pub labels_of_turns : List OwnTurn → List Label
labels_of_turns turns = map (λ turn. turn.label) turns
