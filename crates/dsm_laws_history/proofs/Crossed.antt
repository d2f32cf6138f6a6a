-- A worked history of 3 processors: each stores to its own cell and comes to the barrier; a crossing brings the lines of the others, and no line to which nobody stored.
use Rattle.std.specs.Prelude.{◌≡◌, ℕ, pos, List, [], ◌∷◌, refl}
use Rattle.dsm_base.specs.declared.names.Bar.{Bar}
use Rattle.dsm_base.specs.declared.label.Want.{Want}
use Rattle.dsm_base.specs.declared.label.Label.{Label}
use Rattle.dsm_base.specs.declared.setup.Object.{Object}
use Rattle.dsm_base.specs.declared.setup.Piece.{Piece}
use Rattle.dsm_base.specs.declared.setup.Setup.{Setup}
use Rattle.dsm_base.specs.Threads.{Semantics}
use Rattle.dsm_base.specs.Plain.{Turn}
use Rattle.dsm_lines.specs.declared.list.Line.{Line}
use Rattle.dsm_laws_history.specs.NewerLines.{lines_of_crossing, Brings}

abbrev bar : Bar
bar = record { 0 = 0 }

-- what a thread wants has no part in which lines a crossing brings
abbrev threads : Semantics ℕ
threads = record { want = λ s. Want.Over; text = λ s. []; after = λ s label. s }

abbrev first : ℕ → ℕ
first p = p

-- a cell of one processor, which may store to it in every other epoch
abbrev owned : ℕ → ℕ → ℕ → Piece
owned cell owner phase = record {
  object = Object.Bar bar;
  first = record { 0 = cell };
  count = 1;
  owner = owner;
  phase = phase;
  period = 2;
}

setup : Setup
setup = record {
  procs = 3;
  locks = 0;
  bars = 1;
  cells = 6;
  bindings = owned 0 0 0 ∷ owned 1 1 0 ∷ owned 2 2 0 ∷ owned 3 0 1 ∷ owned 4 1 1 ∷ owned 5 2 1 ∷ [];
  kept = refl;
}

abbrev turn : ℕ → Label → Turn
turn p label = record { proc = p; label = label }

abbrev stores : ℕ → ℕ → ℕ → Turn
stores p cell value = turn p (Label.Store record { 0 = cell } (pos value))

-- all have come once
abbrev run : List Turn
run =
    turn 2 (Label.Arrive bar)
    ∷ turn 0 (Label.Arrive bar)
    ∷ turn 1 (Label.Arrive bar)
    ∷ stores 2 2 3
    ∷ stores 1 1 2
    ∷ stores 0 0 1
    ∷ []

-- 0 has crossed, and has stored in the next epoch
abbrev later : List Turn
later = stores 0 3 20 ∷ turn 0 (Label.Cross bar 1) ∷ run

abbrev line : ℕ → ℕ → Line
line number value = record { number = number; values = pos value ∷ [] }

-- the lines of the others, in order of their numbers
of_others : lines_of_crossing setup run 0 1 1 ≡ line 0 1 ∷ line 2 3 ∷ []
unfolding setup
of_others = refl

-- what was stored in a later epoch isn't among them
crossed : Brings setup first threads later 1 (Label.Cross bar 1) (line 0 1 ∷ line 2 3 ∷ [])
unfolding setup
crossed = refl
