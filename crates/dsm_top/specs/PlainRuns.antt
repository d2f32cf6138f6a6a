-- What a run by picks in the code shows.
use Rattle.std.specs.Prelude.{◌≡◌, ◌⊎◌, List}
use Rattle.dsm_base.specs.declared.names.Proc.{Proc}
use Rattle.dsm_base.specs.declared.setup.Setup.{Setup}
use Rattle.dsm_base.specs.Plain.{Turn, after_run}
use Rattle.dsm_check.specs.CheckedViews.{program_of}
use Rattle.dsm_check.specs.Programs.{Program}
use Rattle.dsm_semantics.specs.Programs.{first_states, threads_of}
use Rattle.dsm_plain.specs.Machine.{machine_of}
use Rattle.dsm_sched.specs.PickTexts.{picked}
use Rattle.dsm_top.specs.declared.plain.PlainRun.{PlainRun}
use Rattle.dsm_top.specs.declared.prepare.PickRun.{PickRun}
use Rattle.dsm_top.specs.declared.status.Status.{Status}
use Rattle.dsm_top.specs.PickRuns.{with_pick}
use Rattle.dsm_top.specs.Ended.{Left, RanOut, RanPlain}

-- the program of a run
abbrev pub program_in : PlainRun → Program
program_in run = program_of run.machine.checked.now

-- the run is one of this program, set up so, behind these turns
pub record IsAt (program : Program) (setup : Setup) (run : PlainRun) (turns : List Turn) : Type 0 where
  pub program_is : program_in run ≡ program
  pub setup_is : run.machine.setup ≡ setup
  pub machine : machine_of run.machine ≡
      after_run (first_states program setup.procs) (threads_of program) turns

-- the turns after one more pick
abbrev pub next_turns : Program → Setup → List Turn → Proc → List Turn
next_turns program setup turns p =
    with_pick setup (first_states program setup.procs) (threads_of program) turns p

-- memory ran out before the first pick, with nothing written; or picks were applied
abbrev pub IsPicked : PickRun → Left → Status → Type 0
IsPicked prepared left status =
    (RanOut left status × (left.units ≡ 0)) ⊎
    RanPlain (program_of prepared.program) prepared.picks.procs (picked prepared.picks) left status
