-- A worked history: of a lock of three lines one cell is stored to, with the value that it had; its line alone is newer.
use Rattle.std.specs.Prelude.{◌≡◌, ℕ, pos, List, [], ◌∷◌, refl}
use Rattle.dsm_base.specs.declared.names.Lock.{Lock}
use Rattle.dsm_base.specs.declared.names.Mode.{Mode}
use Rattle.dsm_base.specs.declared.label.Want.{Want}
use Rattle.dsm_base.specs.declared.label.Label.{Label}
use Rattle.dsm_base.specs.declared.setup.Object.{Object}
use Rattle.dsm_base.specs.declared.setup.Setup.{Setup}
use Rattle.dsm_base.specs.Threads.{Semantics}
use Rattle.dsm_base.specs.Plain.{Turn}
use Rattle.dsm_lines.specs.declared.list.Line.{Line}
use Rattle.dsm_laws_history.specs.NewerLines.{lines_between, Brings}

abbrev lock : Lock
lock = record { 0 = 0 }

-- what a thread wants has no part in which lines are newer
abbrev threads : Semantics ℕ
threads = record { want = λ s. Want.Over; text = λ s. []; after = λ s label. s }

abbrev first : ℕ → ℕ
first p = p

setup : Setup
setup = record {
  procs = 2;
  locks = 1;
  bars = 0;
  cells = 24;
  bindings = record {
    object = Object.Lock lock;
    first = record { 0 = 0 };
    count = 24;
    owner = 0;
    phase = 0;
    period = 0;
  } ∷ [];
  kept = refl;
}

abbrev turn : ℕ → Label → Turn
turn p label = record { proc = p; label = label }

abbrev run : List Turn
run =
    turn 1 (Label.Ask lock Mode.Excl)
    ∷ turn 0 (Label.Give lock)
    ∷ turn 0 (Label.Store record { 0 = 9 } (pos 0))
    ∷ turn 0 (Label.Take lock Mode.Excl 0)
    ∷ turn 0 (Label.Ask lock Mode.Excl)
    ∷ []

abbrev shipped : Line
shipped = record {
  number = 1;
  values = pos 0 ∷ pos 0 ∷ pos 0 ∷ pos 0 ∷ pos 0 ∷ pos 0 ∷ pos 0 ∷ pos 0 ∷ [];
}

-- the line of cell 9 and no other
one_line : lines_between setup first threads run 0 0 1 ≡ shipped ∷ []
unfolding setup
one_line = refl

-- no line for a copy that has this version
no_line : lines_between setup first threads run 0 1 1 ≡ []
unfolding setup
no_line = refl

-- so the take of 1 brings it
taken : Brings setup first threads run 1 (Label.Take lock Mode.Excl 1) (shipped ∷ [])
unfolding setup
taken = refl
