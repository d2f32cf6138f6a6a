-- A worked crossing, and why threads have to ask first, computed by the definitions.
use Rattle.std.specs.Prelude.{◌≡◌, ℕ, pos, ◌/◌, true, false, List, [], ◌∷◌}
use Rattle.std.proofs.Common.{refl}
use Rattle.dsm_base.specs.declared.names.Bar.{Bar}
use Rattle.dsm_base.specs.declared.names.Cell.{Cell}
use Rattle.dsm_base.specs.declared.label.Label.{Label}
use Rattle.dsm_base.specs.declared.label.Want.{Want}
use Rattle.dsm_base.specs.declared.setup.Object.{Object}
use Rattle.dsm_base.specs.declared.setup.Setup.{Setup}
use Rattle.dsm_base.specs.Threads.{Semantics}
use Rattle.dsm_base.specs.Plain.{Turn}
use Rattle.dsm_laws_runs.specs.OwnPart.{arrived_of}
use Rattle.dsm_laws_runs.specs.Newer.{is_stored_in}
use Rattle.dsm_laws_epochs.specs.ByLines.{copy_by_lines}

-- a thread is a list of what it is still to do
abbrev next_want : List Want → Want
next_want [] = Want.Over
next_want (want ∷ others) = want

abbrev rest : List Want → List Want
rest [] = []
rest (want ∷ others) = others

abbrev threads : Semantics (List Want)
threads = record { want = next_want; text = λ state. []; after = λ state label. rest state }

-- one cell of a barrier, to which 0 may store in every other epoch
abbrev setup : Setup
setup = record {
  procs = 2;
  locks = 0;
  bars = 1;
  cells = 1;
  bindings = record { object = Object.Bar record { 0 = 0 }; first = record { 0 = 0 }; count = 1; owner = 0; phase = 0; period = 2 } ∷ [];
  kept = refl;
}

abbrev the_bar : Bar
the_bar = record { 0 = 0 }

abbrev the_cell : Cell
the_cell = record { 0 = 0 }

abbrev first : ℕ → List Want
first p = []

abbrev line_at : ℕ → ℕ
line_at cell = cell / 8

abbrev by : ℕ → Label → Turn
by p label = record { proc = p; label = label }

-- 0 stores 7, and both come; the newest first
abbrev both_came : List Turn
both_came = by 1 (Label.Arrive the_bar) ∷ by 0 (Label.Arrive the_bar) ∷ by 0 (Label.Store the_cell (pos 7)) ∷ []

-- 1 has a zero up to its crossing, which brings it the line with the 7
crossing_brings_the_line :
    (copy_by_lines line_at setup first threads 1 both_came 0 ≡ pos 0) × (copy_by_lines line_at setup first threads 1 (by 1 (Label.Cross the_bar 1) ∷ both_came) 0 ≡ pos 7)
crossing_brings_the_line = (refl, refl)

-- a thread that stores between its arrival and its crossing stores in an epoch whose lines would be settled
store_before_the_crossing :
    (arrived_of (Label.Arrive the_bar ∷ []) 0 ≡ 1)
    × (is_stored_in line_at setup 0 0 0 (Label.Arrive the_bar ∷ []) 0 ≡ false)
    × (is_stored_in line_at setup 0 0 0 (Label.Store the_cell (pos 7) ∷ Label.Arrive the_bar ∷ []) 0 ≡ true)
store_before_the_crossing = (refl, refl, refl)
