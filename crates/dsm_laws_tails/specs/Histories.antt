-- Histories: settled turns, and after them the tails of the processors, in the order of their numbers.
use Rattle.std.specs.Prelude.{◌≡◌, ℕ, zero, suc, ◌≤◌, List, [], ◌++◌}
use Rattle.dsm_base.specs.declared.label.Label.{Label}
use Rattle.dsm_base.specs.declared.setup.Setup.{Setup}
use Rattle.dsm_base.specs.Threads.{Semantics}
use Rattle.dsm_base.specs.Plain.{Turn, IsPlainRun}
use Rattle.dsm_laws_runs.specs.Versions.{AllAskFirst}
use Rattle.dsm_laws_runs.specs.Swap.{IsRunLike}
use Rattle.dsm_laws_tails.specs.Shuffles.{AreIndependent}
use Rattle.dsm_laws_tails.specs.Fronts.{turns_by}

-- the tails of the processors below a bound, one after another
abbrev pub turns_of_tails : ℕ → (ℕ → List Label) → List Turn
turns_of_tails zero tails = []
turns_of_tails (suc p) tails = turns_by p (tails p) ++ turns_of_tails p tails

-- the whole history
abbrev pub whole_of : Setup → List Turn → (ℕ → List Label) → List Turn
whole_of setup settled tails = turns_of_tails setup.procs tails ++ settled

-- settled turns and independent tails after them, which are a plain run
pub record IsHistory {S : Type 0} (setup : Setup) (first : ℕ → S) (threads : Semantics S) (settled : List Turn) (tails : ℕ → List Label) : Type 0 where
  pub ask_first : AllAskFirst setup first threads
  pub independent : AreIndependent setup settled tails
  pub no_others : (p : ℕ) → setup.procs ≤ p → tails p ≡ []
  pub is_run : IsPlainRun setup first threads (whole_of setup settled tails)

-- a history which as a whole leaves the same as a run
pub record IsHistoryLike {S : Type 0} (setup : Setup) (first : ℕ → S) (threads : Semantics S) (settled : List Turn) (tails : ℕ → List Label) (run : List Turn) : Type 0 where
  pub history : IsHistory setup first threads settled tails
  pub like : IsRunLike setup first threads (whole_of setup settled tails) run
