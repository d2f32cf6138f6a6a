-- What the text of the state says of locks, by the history.
use Rattle.std.specs.Prelude.{◌≡◌, ℕ, ℤ, ◌≤◌, List, [], ◌∷◌, Some, codes}
use Rattle.std.specs.Fmt.{decimal}
use Rattle.dsm_base.specs.declared.setup.Setup.{Setup}
use Rattle.dsm_base.specs.Plain.{Turn, after_run}
use Rattle.dsm_base.specs.Threads.{Semantics}
use Rattle.dsm_net.specs.Messages.{home_of}
use Rattle.dsm_net.specs.Net.{Net}
use Rattle.dsm_net.specs.Processor.{Processor, live}
use Rattle.dsm_records.specs.Texts.{spaced, as_line}
use Rattle.dsm_laws_runs.specs.Versions.{memory_at}
use Rattle.dsm_state.specs.States.{cells_of, cells_text, lock_line}

-- the line of a lock at a version, where its cells have these values
abbrev pub line_of_version : Setup → ℕ → ℕ → (ℕ → ℤ) → List ℕ
line_of_version setup lock version values =
    as_line (spaced (codes "lock" ∷ decimal lock ∷ codes "version" ∷ decimal version
    ∷ cells_text values (cells_of setup.bindings setup.cells lock) ∷ []))

-- a line has the version of a lock at its home's desk, which the run has made, and the values that the
-- one memory had right after it was made
pub record IsLineOf {S : Type 0} (setup : Setup) (first : ℕ → S) (threads : Semantics S) (run : List Turn)
    (lock desk : ℕ) (line : List ℕ) : Type 0 where
  pub is_made : desk ≤ (after_run first threads run).versions lock
  pub is_line : line ≡ line_of_version setup lock desk (memory_at first threads run lock desk)

-- so is the line of each lock whose home lives
abbrev pub LocksAreTold : {S : Type 0} → Setup → (ℕ → S) → Semantics S → Net S → List Turn → Type 0
LocksAreTold setup first threads net run = (lock : ℕ) (s : Processor _) →
    net.processors (home_of setup lock) ≡ Some s → s.standing ≡ live →
    IsLineOf setup first threads run lock (s.locks lock).version (lock_line setup net lock)
