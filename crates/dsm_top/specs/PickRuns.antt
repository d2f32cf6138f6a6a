-- Runs over one memory by picks.
use Rattle.std.specs.Prelude.{◌≡◌, ℕ, List, [], ◌∷◌, Option, Some, None}
use Rattle.std.specs.List.{fold}
use Rattle.dsm_base.specs.declared.names.Proc.{Proc}
use Rattle.dsm_base.specs.declared.label.Label.{Label}
use Rattle.dsm_base.specs.declared.setup.Setup.{Setup}
use Rattle.dsm_base.specs.Plain.{Turn, plain_turn, after_run}
use Rattle.dsm_base.specs.Threads.{Semantics}
use Rattle.dsm_check.specs.Programs.{Program}
use Rattle.dsm_check.specs.Setups.{IsSetupOf}
use Rattle.dsm_semantics.specs.Programs.{first_states, threads_of}

-- a run with one more turn, where there is one
abbrev pub with_turn : List Turn → ℕ → Option Label → List Turn
with_turn run p None = run
with_turn run p (Some label) = record { proc = p; label = label } ∷ run

-- the run after one more pick: the turn that the processor makes now, where it can make one
abbrev pub with_pick : {S : Type 0} → Setup → (ℕ → S) → Semantics S → List Turn → Proc → List Turn
with_pick setup first threads run p =
    with_turn run p.0 (plain_turn setup threads (after_run first threads run) p.0)

-- the run that picks make, one after the other
abbrev pub run_by_picks : {S : Type 0} → Setup → (ℕ → S) → Semantics S → List Proc → List Turn
run_by_picks setup first threads picks = fold (with_pick setup first threads) [] picks

-- the run that picks make of a program that is set up so
abbrev pub program_run : Program → Setup → List Proc → List Turn
program_run program setup picks =
    run_by_picks setup (first_states program setup.procs) (threads_of program) picks

-- the run that picks make of a program on so many processors
pub record IsRunByPicks (program : Program) (procs : ℕ) (picks : List Proc) (run : List Turn) :
    Type 0 where
  pub setup : Setup
  pub is_setup : IsSetupOf program procs setup
  pub is_run : run ≡ program_run program setup picks
